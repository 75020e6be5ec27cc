-- What is in force after a legal history.
use Rattle.std.proofs.Common.{◌≡◌, ℕ, ◌+◌, true, List, [], ◌∷◌, ◌++◌, length, sym, ◌∙◌, subst, refl, Option, Some, None}
use Rattle.std.specs.Prelude.{is_some}
use Rattle.std.proofs.lemmas.Bool.{true≢false}
use Rattle.raid_base.specs.declared.entry.Entry.{Entry as Real}
use Rattle.raid_base.specs.declared.entry.Entry.TheVariants.{SwitchOn, SwitchEnd}
use Rattle.raid_base.specs.declared.entry.Noted.{Noted as RNoted}
use Rattle.raid_base.specs.declared.verdict.Kind.{Kind as RKind}
use Rattle.raid_base.specs.declared.verdict.Method.TheVariants.{Generic, Convert, Suffix}
use Rattle.raid_workload.specs.declared.workload.Workload.{Workload}
use Rattle.raid_rules.specs.History.{noted as noted_in, add, next}
use Rattle.raid_rules.proofs.Places.{by_last}
use Rattle.raid_rules.proofs.Push.{fold_seeing_push, noted_push}
use Rattle.raid_legal.specs.InForce.{InForce, in_force, opening, turn, turn_end}
use Rattle.raid_legal.specs.Legal.{Legal}
use Rattle.raid_legal.proofs.Push.{legal_push}
use Rattle.raid_serial.proofs.Facts.{Fact, fact}

-- one more entry turns what is in force
pub in_force_push : (w : Workload) (p : List RNoted) (e : Real) → in_force w (add p e) ≡ turn w p (in_force w p) (length p + 1) e
in_force_push w p e = fold_seeing_push (λ before f n. turn w before f n.at n.entry) (opening w) p (next p e)

-- while two controllers are in force nobody is to be aborted for a switch
abbrev pub Spares : InForce → Type 0
Spares f = is_some f.next ≡ true → f.off ≡ []

ended_spares : (f : InForce) (next : Option (RKind × ℕ)) → f.next ≡ next → Spares f → Spares (turn_end f next)
ended_spares f None e s = s
ended_spares f (Some c) e s = λ q. absurd (true≢false (sym q))

pub turn_spares : (w : Workload) (p : List RNoted) (e : Real) (k : ℕ) → Fact w p e → Spares (in_force w p) → Spares (turn w p (in_force w p) k e)
turn_spares w p (SwitchOn j kind Generic) k f s = λ q. absurd (true≢false (sym q ∙ f.1))
turn_spares w p (SwitchOn j kind Convert) k f s = λ q. absurd (true≢false (sym q ∙ f.1))
turn_spares w p (SwitchOn j kind Suffix) k f s = λ q. refl
turn_spares w p (SwitchEnd j) k f s = ended_spares (in_force w p) (in_force w p).next refl s
turn_spares w p other k f s = s

pub legal_spares : (w : Workload) (h : List Real) → Legal w h → Spares (in_force w (noted_in h))
legal_spares w = by_last (λ h. Legal w h → Spares (in_force w (noted_in h))) (λ l q. refl) more
  where
    more : (h : List Real) (e : Real) → (Legal w h → Spares (in_force w (noted_in h))) → Legal w (h ++ e ∷ []) → Spares (in_force w (noted_in (h ++ e ∷ [])))
    more h e rest l =
        let q = (legal_push w h e).0 l in
        subst (λ p. Spares (in_force w p)) (sym (noted_push h e)) (subst Spares (sym (in_force_push w (noted_in h) e)) (turn_spares w (noted_in h) e (length (noted_in h) + 1) (fact w (noted_in h) e q.1) (rest q.0)))
