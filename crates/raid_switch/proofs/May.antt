-- An entry that a legal history goes on with may be noted after each view in force.
use Rattle.std.proofs.Common.{◌≡◌, ℕ, ◌+◌, ◌≤◌, List, [], ◌∷◌, ◌++◌, length, arith, subst, refl, Option, Some, None}
use Rattle.std.specs.List.{All}
use Rattle.std.proofs.lemmas.List.Elements.{All-cons}
use Rattle.raid_base.specs.declared.entry.Entry.{Entry}
use Rattle.raid_base.specs.declared.entry.Entry.TheVariants.{Read, Commit}
use Rattle.raid_base.specs.declared.entry.Noted.{Noted}
use Rattle.raid_base.specs.declared.verdict.Kind.{Kind}
use Rattle.raid_base.specs.declared.verdict.Verdict.TheVariants.{Grant}
use Rattle.raid_workload.specs.declared.workload.Workload.{Workload}
use Rattle.raid_rules.specs.History.{noted, next, stamp, stamp_at}
use Rattle.raid_rules.specs.Order.{IsInOrder, IsGranted, MayNote}
use Rattle.raid_rules.specs.Verdicts.{Question, reading, writing, verdict_of}
use Rattle.raid_rules.specs.Views.{View, view_of}
use Rattle.raid_rules.proofs.Push.{noted_push}
use Rattle.raid_legal.specs.InForce.{in_force, controllers, newer, past, verdict}
use Rattle.raid_legal.specs.Legal.{Legal}
use Rattle.raid_serial.proofs.Facts.{Fact, each_grants}
use Rattle.raid_serial.proofs.Ordered.{legal_ordered}
use Rattle.raid_serial.proofs.Views.{view_in_order, read_fits_view, commit_fits_view}
use Rattle.raid_switch.proofs.Kept.{Kept, legal_kept}
use Rattle.raid_switch.proofs.Turned.{grow, the_fact, before}

module _ (w : Workload) (h : List Entry) (e : Entry) (l : Legal w (h ++ e ∷ [])) where
  abbrev p : List Noted
  p = noted h

  -- after one of the views
  in_view : (v : View) (kind : Kind) → v.cut ≤ length p → ((q : Question) → verdict w p q ≡ Grant → verdict_of kind (view_of v p) q ≡ Grant) → MayNote kind (view_of v p) (next p e)
  in_view v kind low grants = record {
    in_order = subst IsInOrder (grow v p e low) (subst (λ q. IsInOrder (view_of v q)) (noted_push h e) (view_in_order v (noted (h ++ e ∷ [])) (legal_ordered w (h ++ e ∷ []) l)));
    granted = granted e (the_fact w h e l);
  }
    where
      granted : (a : Entry) → Fact w p a → IsGranted kind (view_of v p) (stamp_at p (length p + 1) a) a
      granted (Read t x site) f = ((read_fits_view v p (legal_ordered w h (before w h e l)) t x f.0).goes_on, grants (reading t (stamp p t) x) f.2)
      granted (Commit t request applied) f = ((commit_fits_view v p (legal_ordered w h (before w h e l)) t request.writes f.0).goes_on, grants (writing t (stamp p t) request.writes) f.2)
      granted other f = tt

  abbrev Fine : Kind × List Noted → Type 0
  Fine c = MayNote c.0 c.1 (next p e)

  pub may_note : All Fine (controllers (in_force w p) p)
  may_note = go (in_force w p).next refl
    where
      K : Kept p (in_force w p)
      K = legal_kept w h (before w h e l)

      none : All Fine []
      none k d below = absurd (omega (arith, below))

      first : Fine ((in_force w p).kind, view_of (in_force w p).view p)
      first = in_view (in_force w p).view (in_force w p).kind K.cut (λ q g. (each_grants w p q g).0)

      go : (x : Option (Kind × ℕ)) → (in_force w p).next ≡ x → All Fine (((in_force w p).kind, view_of (in_force w p).view p) ∷ newer p x)
      go None s = All-cons Fine ((in_force w p).kind, view_of (in_force w p).view p) [] first none
      go (Some c) s =
          All-cons Fine ((in_force w p).kind, view_of (in_force w p).view p) ((c.0, view_of (past c.1) p) ∷ []) first
          (All-cons Fine (c.0, view_of (past c.1) p) [] (in_view (past c.1) c.0 (K.apart c s).0 (λ q g. (each_grants w p q g).1 c s)) none)
