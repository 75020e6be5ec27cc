-- Steps of a search over the tables.
use Rattle.std.specs.Prelude.{◌≡◌, ℕ, nat_lt, Bool, true, not, ◌&&◌, ◌||◌, List, [], ◌∷◌, ◌++◌, fold, length, if◌then◌else◌}
use Rattle.std.specs.List.{list_any}
use Rattle.raid_base.specs.declared.names.Txn.{Txn}
use Rattle.raid_base.specs.declared.names.Item.{Item}
use Rattle.raid_base.specs.Names.{is_txn, is_item, has_txn}
use Rattle.raid_rules.specs.declared.conflict.Action.{Action}
use Rattle.raid_rules.specs.Conflict.{precedes}
use Rattle.raid_rules.specs.Verdicts.{Question, reading, writing}
use Rattle.raid_conflict.specs.declared.tables.Tables.{Tables}
use Rattle.raid_conflict.specs.Tables.{chain_at, chains_against, mark}

-- the second action stands after the first and clashes with it, and its transaction has a place and isn't aborted
abbrev pub is_against : Tables → Action → Action → Bool
is_against t a b = precedes a b && (not (mark t b.by).aborted && nat_lt b.by.0 (length t.own.items))

-- such an action of v is among these
abbrev pub is_after : Tables → Action → List Action → Txn → Bool
is_after t a others v = list_any (λ b. is_against t a b && is_txn v b.by) others

-- the actions at the end of a list that all have larger numbers than this one
abbrev pub latest : ℕ → List Action → List Action
latest at actions = fold (λ late b. if nat_lt at b.at then late ++ b ∷ [] else []) [] actions

-- one of these actions has such an action of v at the end of the chain of its item
abbrev pub leads_on : Tables → List Action → Txn → Bool
leads_on t actions v = list_any (λ a. is_after t a (latest a.at (chain_at (chains_against t a) a.item.0)) v) actions

-- u isn't aborted, and one of its actions leads to v
abbrev pub is_step : Tables → Txn → Txn → Bool
is_step t u v = not (mark t u).aborted && leads_on t (chain_at t.own.items u.0) v

abbrev pub Step : Tables → Txn → Txn → Type 0
Step t u v = is_step t u v ≡ true

-- one of the transaction's actions is on the item, or writes it
abbrev pub has_acted : Tables → Item → Txn → Bool
has_acted t x v = list_any (λ a. is_item x a.item) (chain_at t.own.items v.0)

abbrev pub has_written : Tables → Item → Txn → Bool
has_written t x v = list_any (λ a. a.writes && is_item x a.item) (chain_at t.own.items v.0)

-- the asker was found, or one whom the asked action would follow
abbrev pub closes : Tables → List Txn → Question → Bool
closes t found (reading u k x) = has_txn found u || list_any (has_written t x) found
closes t found (writing u k writes) = has_txn found u || list_any (λ p. list_any (has_acted t p.0) found) writes
