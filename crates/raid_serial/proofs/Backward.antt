-- Backward transactions: the real ones and the abstract ones.
use Rattle.std.proofs.Common.{◌≡◌, ℕ, ◌<◌, Bool, true, not, ◌&&◌, ◌==◌, nat_lt, List, arith, sym, ◌∙◌, ap, subst, refl}
use Rattle.std.specs.List.{list_any}
use Rattle.std.proofs.lemmas.Bool.{true≢false, and_parts, and_from, eqb-true}
use Rattle.raid_base.specs.declared.names.Item.{Item}
use Rattle.raid_base.specs.declared.entry.Entry.{Entry as Real}
use Rattle.raid_base.specs.declared.entry.Entry.TheVariants.{Read, Commit}
use Rattle.raid_base.specs.declared.entry.Noted.{Noted as RNoted}
use Rattle.raid_base.specs.Names.{is_txn, holds}
use Rattle.raid_rules.specs.Entries.{is_read, is_commit}
use Rattle.raid_rules.specs.Views.{is_backward, is_overwrite}
use Rattle.raid_serial.proofs.Model.{read, commit, Noted, Member, IsWrite}
use Rattle.raid_serial.proofs.Corollaries.{BackwardIn}
use Rattle.raid_serial.proofs.Translate.{txn, item_of, items_of, entry_of, noted_of, has_any, any_has, not_true, eq_self, holds_mem, Rep}
use Rattle.raid_serial.proofs.Real.{lt_true, true_lt}
use Rattle.raid_serial.proofs.Grants.{read_passes, write_holds}

commit_passes : (r u x : ℕ) (e : Real) → ((xs : List ℕ) × (entry_of e ≡ commit u xs) × Member x xs) → (r ≡ u → ⊥) → is_commit (λ v request. not (is_txn (txn r) v) && holds (item_of x) request.writes) e ≡ true
commit_passes r u x (Commit v request applied) k d =
    let a : v.0 ≡ u = cc (k.1) in
    and_from _ _ (ap not (not_true (v.0 == r) (λ e. d (sym (eqb-true v.0 r e) ∙ a)))) (write_holds (Commit v request applied) u x k)
commit_passes r u x other k d = absurd (cc (k.1))

passes_commit : (r : ℕ) (x : Item) (e : Real) → is_commit (λ v request. not (is_txn (txn r) v) && holds x request.writes) e ≡ true → (u : ℕ) × ((xs : List ℕ) × (entry_of e ≡ commit u xs) × Member x.0 xs) × (r ≡ u → ⊥)
passes_commit r x (Commit v request applied) h =
    let a = and_parts (not (is_txn (txn r) v)) (holds x request.writes) h in
    (v.0, (items_of request.writes, refl, holds_mem x.0 request.writes a.1), λ s. true≢false (sym a.0 ∙ ap not (eq_self v.0 r (sym s))))
passes_commit r x other h = absurd (true≢false (sym h))

passes_read : (r : ℕ) (test : Item → Bool) (e : Real) → is_read (λ v x s. is_txn (txn r) v && test x) e ≡ true → (x : Item) × (entry_of e ≡ read r x.0) × (test x ≡ true)
passes_read r test (Read v x site) h = let a = and_parts (is_txn (txn r) v) (test x) h in (x, ap (λ k. read k x.0) (eqb-true v.0 r a.0), a.1)
passes_read r test other h = absurd (true≢false (sym h))

module _ (L : Noted → Type 0) (q : List RNoted) (rep : Rep L q) where
  pub backward_real : (r : ℕ) → BackwardIn L r → is_backward q (txn r) ≡ true
  backward_real r b =
      let x : ℕ = b.4.0 in
      let u : ℕ = b.4.1 in
      let o = rep.out b.0 b.2 in
      let c = rep.out b.1 b.3 in
      let l : (o.0).at < (c.0).at = (let y : (b.0).at ≡ (o.0).at = ap (λ z. z.at) o.2 in let z : (b.1).at ≡ (c.0).at = ap (λ z. z.at) c.2 in let m : (b.0).at < (b.1).at = b.5 in omega arith) in
      let over : list_any (is_overwrite (txn r) (o.0).at (item_of x)) q ≡ true = has_any (is_overwrite (txn r) (o.0).at (item_of x)) q c.0 c.1 (and_from _ _ (lt_true _ _ l) (commit_passes r u x (c.0).entry (subst (λ z. IsWrite z u x) c.2 b.4.3) b.4.4)) in
      has_any (λ n. is_read (λ v y s. is_txn (txn r) v && list_any (is_overwrite (txn r) n.at y) q) n.entry) q o.0 o.1
      (read_passes (λ v y s. is_txn (txn r) v && list_any (is_overwrite (txn r) (o.0).at y) q) (o.0).entry r x (subst (λ z. z.entry ≡ read r x) o.2 b.4.2) (λ s. and_from _ _ (eq_self r r refl) over))

  pub backward_model : (r : ℕ) → is_backward q (txn r) ≡ true → BackwardIn L r
  backward_model r h =
      let n = any_has (λ n. is_read (λ v x s. is_txn (txn r) v && list_any (is_overwrite (txn r) n.at x) q) n.entry) q h in
      let a = passes_read r (λ x. list_any (is_overwrite (txn r) (n.0).at x) q) (n.0).entry n.2 in
      let c = any_has (is_overwrite (txn r) (n.0).at a.0) q a.2 in
      let parts = and_parts (nat_lt (n.0).at (c.0).at) (is_commit (λ v request. not (is_txn (txn r) v) && holds a.0 request.writes) (c.0).entry) c.2 in
      let d = passes_commit r a.0 (c.0).entry parts.1 in
      (noted_of n.0, noted_of c.0, rep.into n.0 n.1, rep.into c.0 c.1, ((a.0).0, d.0, a.1, d.1, d.2), true_lt (n.0).at (c.0).at parts.0)
