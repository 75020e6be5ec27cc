-- The committed transactions: edges between them, orders of them, and cycles.
use Rattle.std.specs.Prelude.{◌≡◌, Bool, true, false, ◌&&◌, ◌||◌, List, [], ◌∷◌, ◌++◌, ⊤, if◌then◌else◌}
use Rattle.std.specs.List.{list_any, list_all}
use Rattle.raid_base.specs.Names.{is_txn, has_txn}
use Rattle.raid_base.specs.declared.names.Txn.{Txn}
use Rattle.raid_base.specs.declared.entry.Noted.{Noted}
use Rattle.raid_rules.specs.declared.order.Order.{Order}
use Rattle.raid_rules.specs.declared.order.Order.TheVariants.{Whole, Cyclic}
use Rattle.raid_rules.specs.History.{has_committed}
use Rattle.raid_rules.specs.Conflict.{Edge, waits_for, listing, serial_order}

-- an edge from a committed transaction to a committed one
abbrev pub CommittedEdge : List Noted → Txn → Txn → Type 0
CommittedEdge p t u = Edge p t u × (has_committed p t ≡ true) × (has_committed p u ≡ true)

-- each transaction of the list stands there once
abbrev pub AllOnce : List Txn → Type 0
AllOnce [] = ⊤
AllOnce (t ∷ ts) = (has_txn ts t ≡ false) × AllOnce ts

-- the first stands before the second
abbrev pub is_before : List Txn → Txn → Txn → Bool
is_before [] t u = false
is_before (x ∷ xs) t u = (is_txn t x && has_txn xs u) || is_before xs t u

-- the order lists each committed transaction, once and no other, and each edge leads onward
pub record IsSerialOrder (p : List Noted) (order : List Txn) : Type 0 where
  pub lists : (t : Txn) → has_txn order t ≡ has_committed p t
  pub once : AllOnce order
  pub onward : (t u : Txn) → CommittedEdge p t u → is_before order t u ≡ true

-- the relation leads from the transaction to the first of the list, and from each of the list to the next
abbrev pub IsChain : (Txn → Txn → Type 0) → Txn → List Txn → Type 0
IsChain R t [] = ⊤
IsChain R t (u ∷ us) = R t u × IsChain R u us

-- the relation leads from each of the list to the next, and from the last to the first
abbrev pub IsCycle : (Txn → Txn → Type 0) → List Txn → Type 0
IsCycle R [] = ⊥
IsCycle R (t ∷ ts) = IsChain R t (ts ++ t ∷ [])

-- the list up to the transaction, and it
abbrev pub up_to : Txn → List Txn → List Txn
up_to t [] = []
up_to t (x ∷ xs) = x ∷ (if is_txn t x then [] else up_to t xs)

-- one of the edges leads from t to u, and both are among these
abbrev pub Joins : List (Txn × Txn) → List Txn → Txn → Txn → Type 0
Joins pairs all t u = (list_any (λ e. is_txn t e.0 && is_txn u e.1) pairs ≡ true) × (has_txn all t ≡ true) × (has_txn all u ≡ true)

-- whoever of these isn't listed has an edge from another that isn't
abbrev pub IsStuck : List (Txn × Txn) → List Txn → List Txn → Type 0
IsStuck pairs all listed = (t : Txn) → has_txn all t ≡ true → has_txn listed t ≡ false → list_any (waits_for all listed t) pairs ≡ true

-- a whole order is the listing of these, with all of them in it; a cyclic one is a cycle of theirs
abbrev pub Arranges : List (Txn × Txn) → List Txn → Order → Type 0
Arranges pairs all (Whole order) = (order ≡ listing pairs all) × (list_all (has_txn order) all ≡ true)
Arranges pairs all (Cyclic cycle) = IsCycle (Joins pairs all) cycle

-- a whole order is the serial order; a cyclic one is a cycle of committed transactions
abbrev pub IsOrderOf : List Noted → Order → Type 0
IsOrderOf p (Whole order) = (order ≡ serial_order p) × IsSerialOrder p order
IsOrderOf p (Cyclic cycle) = IsCycle (CommittedEdge p) cycle
