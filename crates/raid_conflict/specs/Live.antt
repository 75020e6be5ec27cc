-- Which transactions of a list are live: those that go on, and the committed ones that one of these reaches.
use Rattle.std.specs.Prelude.{◌≡◌, ◌⊎◌, ℕ, ◌<◌, Bool, true, not, ◌&&◌, ◌||◌, List, [], ◌∷◌, ◌++◌, AllPairs, fold, filter, filter_map, length, Option, Some, None, if◌then◌else◌}
use Rattle.std.specs.List.{list_any}
use Rattle.raid_base.specs.declared.names.Txn.{Txn}
use Rattle.raid_base.specs.declared.entry.Entry.{Entry}
use Rattle.raid_base.specs.declared.entry.Entry.TheVariants.{Begin, Read, Commit, Abort}
use Rattle.raid_base.specs.declared.entry.Noted.{Noted}
use Rattle.raid_base.specs.Names.{has_txn}
use Rattle.raid_rules.specs.History.{has_committed, has_aborted, has_ended}
use Rattle.raid_rules.specs.Conflict.{Path, edges, leads}
use Rattle.raid_conflict.specs.declared.running.Running.{Running}
use Rattle.raid_conflict.specs.declared.state.State.{State}
use Rattle.raid_conflict.specs.declared.tables.Tables.{Tables}
use Rattle.raid_conflict.specs.Found.{is_marked}
use Rattle.raid_conflict.specs.Search.{Step}
use Rattle.raid_conflict.specs.Tables.{Tells}

-- the transaction of a Begin, Read or Commit
abbrev pub part_of : Entry → Option Txn
part_of (Begin t home) = Some t
part_of (Read t x site) = Some t
part_of (Commit t request applied) = Some t
part_of other = None

-- the list with the transaction at its end, if it isn't there yet
abbrev pub with_txn : List Txn → Txn → List Txn
with_txn ts t = if has_txn ts t then ts else ts ++ t ∷ []

-- the transactions with a Begin, Read or Commit in the list, each once
abbrev pub parts : List Noted → List Txn
parts view = fold with_txn [] (filter_map (λ n. part_of n.entry) view)

-- one without a Commit or Abort in the list reaches it
abbrev pub is_reached : List Noted → Txn → Bool
is_reached view t = list_any (λ u. not (has_ended view u) && leads (edges view) u t) (parts view)

-- it isn't aborted, and it has no Commit or one without a Commit or Abort reaches it
abbrev pub is_live : List Noted → Txn → Bool
is_live view t = not (has_aborted view t) && (not (has_committed view t) || is_reached view t)

-- how many are live
abbrev pub live : List Noted → ℕ
live view = length (filter (is_live view) (parts view))

-- the number of the transaction that an entry begins, goes on with or ends, 0 where there is none
abbrev pub place_of : Entry → ℕ
place_of (Begin t home) = t.0
place_of (Read t x site) = t.0
place_of (Commit t request applied) = t.0
place_of (Abort t cause act) = t.0
place_of other = 0

-- just those that have ended are marked, and just those that go on are listed
pub record Runs (r : Running) (view : List Noted) : Type 0 where
  pub ended : (t : Txn) → is_marked r.ended.items t ≡ has_ended view t
  pub listed : (t : Txn) → has_txn r.list.items t ≡ (has_txn (parts view) t && not (has_ended view t))

-- all transactions of the list have smaller numbers
abbrev pub Within : ℕ → List Txn → Type 0
Within places ts = (t : Txn) → has_txn ts t ≡ true → t.0 < places

-- the tables and the running transactions tell what the list says, and its numbers ascend
pub record Stands (g : State) (view : List Noted) : Type 0 where
  pub tells : Tells g.tables view
  pub runs : Runs g.running view
  pub ascends : AllPairs (λ m n. m.at < n.at) view

-- the transaction is one of these, or one of these reaches it
abbrev pub Reached : Tables → List Txn → Txn → Type 0
Reached t from v = (has_txn from v ≡ true) ⊎ ((u : Txn) × (has_txn from u ≡ true) × Path (Step t) u v)
