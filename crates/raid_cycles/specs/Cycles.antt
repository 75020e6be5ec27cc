-- Cycles in a graph of transactions, and which of them is the least.
use Rattle.std.specs.Prelude.{◌≡◌, ◌<◌, ◌==◌, nat_lt, Bool, true, false, ◌&&◌, ◌||◌, List, [], ◌∷◌, length, All, AllPairs, Contains}
use Rattle.raid_base.specs.declared.names.Txn.{Txn}

-- each transaction's number is larger than those before it
abbrev pub IsAscending : List Txn → Type 0
IsAscending ts = AllPairs (λ t u. t.0 < u.0) ts

-- which transaction leads to which
abbrev pub Edges : Type 0
Edges = Txn → Txn → Bool

-- one transaction leads to the first of these, each of them to the next, and the last of them to another
abbrev pub leads_along : Edges → Txn → List Txn → Txn → Bool
leads_along leads from [] to = leads from to
leads_along leads from (next ∷ rest) to = leads from next && leads_along leads next rest to

-- members that begin with the start: each leads to the next, and the last to the start
pub record IsCycle (members : List Txn) (leads : Edges) (start : Txn) (cycle : List Txn) : Type 0 where
  pub rest : List Txn
  pub begins : cycle ≡ start ∷ rest
  pub among : All (Contains members) cycle
  pub closed : leads_along leads start rest start ≡ true

-- the first list has the smaller number at the first place where they differ
abbrev pub is_smaller : List Txn → List Txn → Bool
is_smaller (t ∷ ts) (u ∷ us) = nat_lt t.0 u.0 || (t.0 == u.0 && is_smaller ts us)
is_smaller ts us = false

-- the first list has fewer transactions, or as many and is smaller
abbrev pub comes_before : List Txn → List Txn → Bool
comes_before ts us = nat_lt (length ts) (length us) || (length ts == length us && is_smaller ts us)

-- a cycle that no other comes before
pub record IsLeastCycle (members : List Txn) (leads : Edges) (start : Txn) (cycle : List Txn) : Type 0 where
  pub cycles : IsCycle members leads start cycle
  pub least : (other : List Txn) → IsCycle members leads start other → comes_before other cycle ≡ false
