-- The committed transactions that are left to be listed, and which of them have to wait.
use Rattle.std.specs.Prelude.{◌≡◌, ℕ, nat_lt, Bool, true, not, ◌&&◌, List, take_while}
use Rattle.std.specs.List.{list_any}
use Rattle.raid_base.specs.declared.names.Txn.{Txn}
use Rattle.raid_base.specs.Names.{is_txn, has_txn}
use Rattle.raid_rules.specs.declared.conflict.Action.{Action}
use Rattle.raid_rules.specs.Conflict.{precedes}
use Rattle.raid_conflict.specs.declared.tables.Tables.{Tables}
use Rattle.raid_conflict.specs.Found.{is_marked}
use Rattle.raid_conflict.specs.Tables.{chain_at, mark}

-- just those of the first list that aren't in the second are marked
abbrev pub IsLeft : List Txn → List Bool → List Txn → Type 0
IsLeft all left listed = (t : Txn) → is_marked left t ≡ (has_txn all t && not (has_txn listed t))

-- the second action stands before the first and clashes with it, and its transaction is left and isn't aborted
abbrev pub is_ahead : Tables → List Bool → Action → Action → Bool
is_ahead t left a b = precedes b a && (not (mark t b.by).aborted && is_marked left b.by)

-- the actions at the front of a list that all have smaller numbers than this one
abbrev pub earliest : ℕ → List Action → List Action
earliest at actions = take_while (λ b. nat_lt b.at at) actions

-- such an action is at the front of the chain of its item
abbrev pub is_behind : Tables → List Bool → Action → Bool
is_behind t left a = list_any (is_ahead t left a) (earliest a.at (chain_at t.items.items a.item.0))

-- an edge from one that is left leads to the transaction
abbrev pub waits : Tables → List Bool → Txn → Bool
waits t left u = not (mark t u).aborted && list_any (is_behind t left) (chain_at t.own.items u.0)

-- one of these actions of u stands before the action, and u is left
abbrev pub is_ahead_of : Tables → List Bool → Txn → Action → List Action → Bool
is_ahead_of t left u a others = list_any (λ b. is_ahead t left a b && is_txn u b.by) others

-- an edge leads from u, which is left, by one of these actions
abbrev pub is_kept_by : Tables → List Bool → Txn → List Action → Bool
is_kept_by t left u actions = list_any (λ a. is_ahead_of t left u a (chain_at t.items.items a.item.0)) actions

-- an edge leads from u to v, and both are left
abbrev pub Joined : Tables → List Bool → Txn → Txn → Type 0
Joined t left u v = ((not (mark t v).aborted && is_kept_by t left u (chain_at t.own.items v.0)) ≡ true) × (is_marked left u ≡ true) × (is_marked left v ≡ true)
