-- Whoever has not committed and is not backward has no edge to another.
use Rattle.std.proofs.Common.{◌≡◌, ℕ, ◌<◌, nat_lt, Bool, true, false, not, ◌&&◌, ◌||◌, List, [], ◌∷◌, length, get_or, arith, sym, ◌∙◌, ap, subst, refl}
use Rattle.std.specs.List.{list_any, Contains}
use Rattle.std.proofs.lemmas.Bool.{true≢false, and_parts, and_from, eqb-true}
use Rattle.std.proofs.lemmas.Grind.{common_steps}
use Rattle.std.proofs.lemmas.List.Folds.{list_any_at}
use Rattle.raid_base.specs.declared.names.Txn.{Txn}
use Rattle.raid_base.specs.declared.names.Item.{Item}
use Rattle.raid_base.specs.declared.entry.Entry.{Entry}
use Rattle.raid_base.specs.declared.entry.Entry.TheVariants.{Read, Commit}
use Rattle.raid_base.specs.declared.entry.Noted.{Noted}
use Rattle.raid_base.specs.Names.{is_txn, is_item, holds}
use Rattle.raid_rules.specs.Entries.{is_read, is_commit, is_commit_of, reads_item, writes_item}
use Rattle.raid_rules.specs.History.{has_committed}
use Rattle.raid_rules.specs.Conflict.{Edge, Path}
use Rattle.raid_rules.specs.Views.{is_overwrite, is_backward}
use Rattle.raid_rules.proofs.Push.{same_txn}
use Rattle.raid_rules.proofs.Edges.{same_item}
use Rattle.raid_rules.proofs.Txns.{not_true}
use Rattle.raid_rules.proofs.Paths.{first_edge}

-- a test that one of a list passes
pub any_in : (f : Noted → Bool) (view : List Noted) (n : Noted) → Contains view n → f n ≡ true → list_any f view ≡ true
any_in f view n c e = list_any_at f view c.0 n c.1 (subst (λ z. f z ≡ true) (sym c.2) e)

-- a write is a Commit of its transaction
write_commits : (e : Entry) (t : Txn) (x : Item) → writes_item t x e ≡ true → is_commit_of t e ≡ true
write_commits (Commit u request applied) t x w = (and_parts (is_txn t u) (holds x request.writes) w).0
write_commits other t x w = absurd (true≢false (sym w))

-- a write by another is an overwrite
write_by : (e : Entry) (t u : Txn) (x : Item) → is_txn t u ≡ false → writes_item u x e ≡ true → is_commit (λ v request. not (is_txn t v) && holds x request.writes) e ≡ true
write_by (Commit v request applied) t u x d w =
    let r = and_parts (is_txn u v) (holds x request.writes) w in
    and_from _ _ (ap not (ap (is_txn t) (same_txn v u r.0) ∙ d)) r.1
write_by other t u x d w = absurd (true≢false (sym w))

-- a Read of the item, and a test of items that this one passes
read_of : (e : Entry) (t : Txn) (x : Item) (f : Item → Bool) → reads_item t x e ≡ true → f x ≡ true → is_read (λ u y s. is_txn t u && f y) e ≡ true
read_of (Read u y s) t x f r h =
    let q = and_parts (is_txn t u) (is_item x y) r in
    and_from _ _ q.0 (subst (λ z. f z ≡ true) (sym (same_item y x (eqb-true y.0 x.0 q.1))) h)
read_of other t x f r h = absurd (true≢false (sym r))

-- of two actions that clash, the first being no write, the first is a Read and the second a write
reads_first : (wa ra rb wb : Bool) → wa ≡ false → ((wa && (rb || wb)) || (ra && wb)) ≡ true → (ra ≡ true) × (wb ≡ true)
reads_first true ra rb wb e c = absurd (true≢false e)
reads_first false ra rb wb e c = and_parts ra wb c

module _ (view : List Noted) (t : Txn) (open_still : has_committed view t ≡ false) where
  no_write : (n : Noted) (x : Item) → Contains view n → writes_item t x n.entry ≡ false
  no_write n x c = not_true _ (λ w. true≢false (sym (any_in (λ m. is_commit_of t m.entry) view n c (write_commits n.entry t x w)) ∙ open_still))

  -- an edge from it comes from a Read that was overwritten
  pub edge_backward : (u : Txn) → Edge view t u → is_backward view t ≡ true
  edge_backward u e =
      let r : (reads_item t e.item e.first.entry ≡ true) × (writes_item u e.item e.second.entry ≡ true) =
      reads_first (writes_item t e.item e.first.entry) (reads_item t e.item e.first.entry) (reads_item u e.item e.second.entry) (writes_item u e.item e.second.entry) (no_write e.first e.item e.in_first) e.clashing in
      let later : nat_lt e.first.at e.second.at ≡ true = grind (arith, common_steps, e.earlier) in
      let over : list_any (is_overwrite t e.first.at e.item) view ≡ true = any_in (is_overwrite t e.first.at e.item) view e.second e.in_second (and_from _ _ later (write_by e.second.entry t u e.item e.differ r.1)) in
      any_in (λ n. is_read (λ v x s. is_txn t v && list_any (is_overwrite t n.at x) view) n.entry) view e.first e.in_first
      (read_of e.first.entry t e.item (λ x. list_any (is_overwrite t e.first.at x) view) r.0 over)

  -- so without one nothing leads from it
  pub no_path : is_backward view t ≡ false → (u : Txn) → Path (Edge view) t u → ⊥
  no_path still u p = let f = first_edge (Edge view) p in true≢false (sym (edge_backward f.0 f.1) ∙ still)
