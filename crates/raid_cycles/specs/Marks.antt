-- The marks of a search: for each member the fewest edges along which it leads to the start, or 0.
use Rattle.std.specs.Prelude.{◌≡◌, ℕ, ◌+◌, ◌<◌, ◌≤◌, true, List, length, slice_index, slice_index_or, All, Contains}
use Rattle.raid_base.specs.declared.names.Txn.{Txn}
use Rattle.raid_cycles.specs.Cycles.{Edges, leads_along}

-- the member at a place
abbrev pub member_at : List Txn → ℕ → Txn
member_at members k = slice_index_or members k (record { 0 = 0 })

-- a transaction leads to the start along so many edges, through members
pub record HasWay (members : List Txn) (leads : Edges) (start from : Txn) (edges : ℕ) : Type 0 where
  pub through : List Txn
  pub long : length through + 1 ≡ edges
  pub among : All (Contains members) through
  pub along : leads_along leads from through start ≡ true

-- the marks of the members that lead to the start along so many edges at most, and of no others
pub record AreMarked (members : List Txn) (leads : Edges) (start : Txn) (most : ℕ) (marks : List ℕ) : Type 0 where
  pub long : length marks ≡ length members
  pub has_way : (k : ℕ) → k < length members → 0 < slice_index marks k →
      HasWay members leads start (member_at members k) (slice_index marks k)
  pub fewest : (k edges : ℕ) → k < length members → edges ≤ most → HasWay members leads start (member_at members k) edges →
      (0 < slice_index marks k) × (slice_index marks k ≤ edges)
  pub within : (k : ℕ) → k < length members → slice_index marks k ≤ most

-- the marks reach as far as the start's own, and it has one if it leads to itself
pub record AreSettled (members : List Txn) (leads : Edges) (start : Txn) (place : ℕ) (marks : List ℕ) : Type 0 where
  pub most : ℕ
  pub marked : AreMarked members leads start most marks
  pub whole : (edges : ℕ) → HasWay members leads start start edges → 0 < slice_index marks place
