-- Marks of transactions.
use Rattle.std.specs.Prelude.{◌≡◌, ◌≤◌, ◌<◌, ℕ, Bool, false, List, length, count_by, slice_index_or}
use Rattle.raid_base.specs.declared.names.Txn.{Txn}
use Rattle.raid_base.specs.Names.{has_txn}

-- the transaction is marked; none is past the end
abbrev pub is_marked : List Bool → Txn → Bool
is_marked marks t = slice_index_or marks t.0 false

-- just those of the list are marked, and it has no more than are marked
pub record Agrees (marks : List Bool) (list : List Txn) : Type 0 where
  pub marked : (t : Txn) → is_marked marks t ≡ has_txn list t
  pub counted : length list ≡ count_by (λ b. b) marks

-- the second list begins with the first
pub record Longer (xs ys : List Txn) : Type 0 where
  pub no_less : length xs ≤ length ys
  pub same : (k : ℕ) (d : Txn) → k < length xs → slice_index_or ys k d ≡ slice_index_or xs k d
