-- What a site stores, and what each call makes of it.
use Rattle.std.specs.Prelude.{ℕ, ℤ, nat_le, Bool, false, List, [], ◌∷◌, map, find, Option, Some, None, option_map, ◌+◌}
use Rattle.std.specs.Option.{option_map_or}
use Rattle.raid_base.specs.declared.names.Txn.{Txn}
use Rattle.raid_base.specs.declared.names.Item.{Item}
use Rattle.raid_base.specs.declared.names.Site.{Site}
use Rattle.raid_base.specs.declared.report.CopyLine.{CopyLine}
use Rattle.raid_base.specs.Names.{is_txn, is_item}
use Rattle.raid_workload.specs.declared.workload.Workload.{Workload}
use Rattle.raid_steps.specs.State.{Copy}
use Rattle.raid_steps.specs.Copies as steps
use Rattle.raid_steps.specs.World.{first_site}
use Rattle.raid_access.specs.declared.copies.Held.{Held}

-- a site's copies, by item, and what is staged there for each transaction, last staged last
pub record Stock : Type 0 where
  pub site : Site
  pub copies : List Copy
  pub staged : List (Txn × List (Item × ℤ))

-- what a site stores at the start
abbrev pub first_stock : Workload → Site → Stock
first_stock w s = record { site = s; copies = (first_site w s).copies; staged = [] }

-- the copies of the items that a table of slots, which begins at this item, has
abbrev pub copies_from : ℕ → List (Option Held) → List Copy
copies_from k [] = []
copies_from k (None ∷ slots) = copies_from (k + 1) slots
copies_from k (Some h ∷ slots) = record { item = record { 0 = k }; value = h.value; version = h.version } ∷ copies_from (k + 1) slots

-- the copy of an item, if there is one
abbrev pub copy_in : List Copy → Item → Option Copy
copy_in cs x = find (λ (c : Copy). is_item x c.item) cs

-- what a copy holds
abbrev pub held : Copy → Held
held c = record { value = c.value; version = c.version }

-- what is staged for the transaction, if anything is
abbrev pub staged_for : List (Txn × List (Item × ℤ)) → Txn → Option (List (Item × ℤ))
staged_for staged t = option_map (λ e. e.1) (find (λ e. is_txn t e.0) staged)

-- the copies after the writes that are staged for the transaction, if any are, have become copies with this version
abbrev pub renewed_by : List (Txn × List (Item × ℤ)) → Txn → ℕ → List Copy → List Copy
renewed_by staged t number cs = option_map_or (λ ps. map (steps.renewed number ps) cs) (staged_for staged t) cs

-- other writes are staged for the transaction
abbrev pub staging : Stock → Txn → List (Item × ℤ) → Stock
staging s t ps = record s { staged = steps.stage t ps s.staged }

-- nothing is staged for the transaction
abbrev pub unstaging : Stock → Txn → Stock
unstaging s t = record s { staged = steps.unstage t s.staged }

-- what is staged for the transaction has become copies with this version
abbrev pub applying : Stock → Txn → ℕ → Stock
applying s t number = record s { copies = renewed_by s.staged t number s.copies; staged = steps.unstage t s.staged }

-- the item has a copy, and its version is not larger than this one
abbrev pub may_refresh : List Copy → Item → ℕ → Bool
may_refresh cs x version = option_map_or (λ (c : Copy). nat_le c.version version) (copy_in cs x) false

-- the item's copy has this value and version
abbrev pub refreshed : Stock → Item → ℤ → ℕ → Stock
refreshed s x v version = record s { copies = steps.set_copy x v version s.copies }

-- what a stopped site keeps
abbrev pub stopped : Stock → Stock
stopped s = record s { staged = [] }

-- the copies as a report tells them
abbrev pub lines : Stock → List CopyLine
lines s = map (λ (c : Copy). record { site = s.site; item = c.item; value = c.value; version = c.version }) s.copies
