-- Who is settled stays so.
use Rattle.std.proofs.Common.{◌≡◌, inl, inr, Bool, true, false, not, List, [], ◌∷◌, ◌++◌, length, sym, ◌∙◌, subst, refl, append-nil, append_assoc}
use Rattle.std.proofs.lemmas.Bool.{true≢false, and_parts, or_left}
use Rattle.std.proofs.lemmas.List.Folds.{list_any-append}
use Rattle.raid_base.specs.declared.names.Txn.{Txn}
use Rattle.raid_base.specs.declared.entry.Entry.{Entry as Real}
use Rattle.raid_base.specs.declared.entry.Entry.TheVariants.{Read, Commit}
use Rattle.raid_base.specs.declared.entry.Noted.{Noted as RNoted}
use Rattle.raid_workload.specs.declared.workload.Workload.{Workload}
use Rattle.raid_rules.specs.Entries.{is_begin_of, is_commit_of, is_end_of}
use Rattle.raid_rules.specs.History.{noted as noted_in, add, next, stamp, has_begun, has_committed, has_ended, is_running}
use Rattle.raid_rules.specs.Conflict.{Edge, Path, one, cons}
use Rattle.raid_rules.specs.Last.{acts_by}
use Rattle.raid_rules.proofs.Last.{path_last, edge_none}
use Rattle.raid_rules.proofs.Places.{by_last}
use Rattle.raid_rules.proofs.Push.{noted_push}
use Rattle.raid_legal.specs.Legal.{Legal}
use Rattle.raid_legal.proofs.Push.{legal_push}
use Rattle.raid_serial.specs.Settled.{IsSettled}
use Rattle.raid_serial.proofs.Model.{Edge as AbstractEdge}
use Rattle.raid_serial.proofs.Verdicts.{first_edge, clash_act}
use Rattle.raid_serial.proofs.System.{Hist, Base}
use Rattle.raid_serial.proofs.Theorem.{inv}
use Rattle.raid_serial.proofs.Translate.{txn, has_any, any_has, cases_true, eq_self, hist_of, rep_hist}
use Rattle.raid_serial.proofs.Real.{begun_real}
use Rattle.raid_serial.proofs.Facts.{Fact, fact}
use Rattle.raid_serial.proofs.Tamed.{begun_fresh, legal_stands}
use Rattle.raid_serial.proofs.Ordered.{Ordered, legal_ordered}
use Rattle.raid_serial.proofs.Switches.{ran}
use Rattle.raid_serial.proofs.Joint.{path_model}

path_back : (R T : Txn → Txn → Type 0) → ((u v : Txn) → R u v → T u v) → {u v : Txn} → Path R u v → Path T u v
path_back R T f {u} {v} (one e) = one (f u v e)
path_back R T f {u} {v} (cons {u = y} e q) = cons (f u y e) (path_back R T f q)

committed_ended : (p : List RNoted) (v : Txn) → has_committed p v ≡ true → has_ended p v ≡ true
committed_ended p v c = let n = any_has (λ n. is_commit_of v n.entry) p c in has_any (λ n. is_end_of v n.entry) p n.0 n.1 (or_left _ _ n.2)

module _ (w : Workload) (h : List Real) (l : Legal w h) (v : Txn) (s : IsSettled (noted_in h) v) where
  abbrev p : List RNoted
  p = noted_in h

  o : Ordered p
  o = legal_ordered w h l

  -- whoever reaches another has begun
  reaches_begun : (t : Txn) → Path (Edge p) t v → has_begun p t ≡ true
  reaches_begun t path =
      let e = (first_edge (AbstractEdge (Hist (hist_of p))) (path_model p path)).1 in
      let base : Base (λ k. stamp p (txn k)) (hist_of p) (length p) = (inv (λ k. stamp p (txn k)) (legal_stands w h l).tame).base in
      begun_real (Hist (hist_of p)) p (rep_hist p) t.0 (base.begun e.first t.0 e.conf.0 e.in_first (clash_act e.first e.second t.0 _ e.conf.0 e.conf.1))

  -- an action of a running transaction
  settled_acts : (e : Real) (u : Txn) → is_running p u ≡ true → acts_by u e ≡ true → ((t : Txn) → is_begin_of t e ≡ false) → (t : Txn) → is_running (add p e) t ≡ true → Path (Edge (add p e)) t v → ⊥
  settled_acts e u run by goes t now path = elim (path_last p (next p e) u by o.bounded t v path) [
    | inl old ↦ s.unreached t (ran w p e t (goes t) now) old
    | inr (x, a, n, inl same) ↦ going (has_ended p v) refl (and_parts (has_begun p v) (not (has_ended p v)) (subst (λ z. is_running p z ≡ true) same run)).1
    | inr (x, a, n, inr rest) ↦ s.unreached u run rest
  ]
    where
      ended : has_ended p v ≡ true
      ended = committed_ended p v s.committed

      going : (b : Bool) → has_ended p v ≡ b → not b ≡ true → ⊥
      going true q r = true≢false (sym r)
      going false q r = true≢false (sym ended ∙ q)

  -- an entry that is no action
  settled_calm : (e : Real) → Fact w p e → ((u : Txn) → acts_by u e ≡ false) → (t : Txn) → is_running (add p e) t ≡ true → Path (Edge (add p e)) t v → ⊥
  settled_calm e f idle t now path =
      let old : Path (Edge p) t v = path_back (Edge (add p e)) (Edge p) (edge_none p (next p e) idle) path in
      elim (cases_true (is_begin_of t e)) [
        | inl b ↦ true≢false (sym (reaches_begun t old) ∙ (begun_fresh w p e t f b).1)
        | inr b ↦ s.unreached t (ran w p e t b now) old
      ]

  unreached_add : (e : Real) → Fact w p e → (t : Txn) → is_running (add p e) t ≡ true → Path (Edge (add p e)) t v → ⊥
  unreached_add (Read u x site) f = settled_acts (Read u x site) u f.0 (or_left _ _ (eq_self u.0 u.0 refl)) (λ t. refl)
  unreached_add (Commit u request applied) f = settled_acts (Commit u request applied) u f.0 (eq_self u.0 u.0 refl) (λ t. refl)
  unreached_add other f = settled_calm other f (λ u. refl)

  pub settled_add : (e : Real) → Fact w p e → IsSettled (add p e) v
  settled_add e f = record {
    committed = list_any-append (λ n. is_commit_of v n.entry) p (next p e ∷ []) ∙ or_left _ _ s.committed;
    unreached = unreached_add e f;
  }

-- whatever comes after
pub settled_stay : (w : Workload) (h more : List Real) → Legal w (h ++ more) → (v : Txn) → IsSettled (noted_in h) v → IsSettled (noted_in (h ++ more)) v
settled_stay w h more l v s = by_last (λ more. Legal w (h ++ more) → IsSettled (noted_in (h ++ more)) v) (λ l. subst (λ g. IsSettled (noted_in g) v) (sym (append-nil h)) s) step more l
  where
    step : (more : List Real) (e : Real) → (Legal w (h ++ more) → IsSettled (noted_in (h ++ more)) v) → Legal w (h ++ (more ++ e ∷ [])) → IsSettled (noted_in (h ++ (more ++ e ∷ []))) v
    step more e rest l =
        let q = (legal_push w (h ++ more) e).0 (subst (Legal w) (sym (append_assoc h more (e ∷ []))) l) in
        let now : IsSettled (noted_in ((h ++ more) ++ e ∷ [])) v = subst (λ p. IsSettled p v) (sym (noted_push (h ++ more) e)) (settled_add w (h ++ more) q.0 v (rest q.0) e (fact w (noted_in (h ++ more)) e q.1)) in
        subst (λ g. IsSettled (noted_in g) v) (append_assoc h more (e ∷ [])) now
