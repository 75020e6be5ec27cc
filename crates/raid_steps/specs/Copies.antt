-- What a site does with its copies, and with the writes that are staged for transactions until they commit.
use Rattle.std.specs.Prelude.{ℕ, ℤ, Bool, not, List, [], ◌∷◌, ◌++◌, map, filter, find, Option, option_map, if◌then◌else◌}
use Rattle.std.specs.List.{list_any}
use Rattle.std.specs.Option.{option_map_or}
use Rattle.raid_base.specs.declared.names.Txn.{Txn}
use Rattle.raid_base.specs.declared.names.Item.{Item}
use Rattle.raid_base.specs.Names.{is_txn, is_item}
use Rattle.raid_base.specs.Find.{first_of}
use Rattle.raid_steps.specs.State.{Copy, SiteState}

-- the site's copy of an item, if it holds one
abbrev pub copy_of : SiteState → Item → Option Copy
copy_of state x = find (λ (c : Copy). is_item x c.item) state.copies

-- the site holds a copy of the item
abbrev pub holds_copy : SiteState → Item → Bool
holds_copy state x = list_any (λ (c : Copy). is_item x c.item) state.copies

-- the copies with that of one item replaced
abbrev pub set_copy : Item → ℤ → ℕ → List Copy → List Copy
set_copy x v version cs = map (λ (c : Copy). if is_item x c.item then record { item = c.item; value = v; version = version } else c) cs

-- what is staged, without that of one transaction
abbrev pub unstage : Txn → List (Txn × List (Item × ℤ)) → List (Txn × List (Item × ℤ))
unstage t staged = filter (λ e. not (is_txn t e.0)) staged

-- what is staged, with these pairs for the transaction in place of what there was for it
abbrev pub stage : Txn → List (Item × ℤ) → List (Txn × List (Item × ℤ)) → List (Txn × List (Item × ℤ))
stage t ps staged = unstage t staged ++ (t, ps) ∷ []

-- what is staged for the transaction, if anything is
abbrev pub staged_of : SiteState → Txn → Option (List (Item × ℤ))
staged_of state t = option_map (λ e. e.1) (find (λ e. is_txn t e.0) state.staged)

-- a copy after the writes of the Commit with this number
abbrev pub renewed : ℕ → List (Item × ℤ) → Copy → Copy
renewed number ps c = option_map_or (λ v. record { item = c.item; value = v; version = number }) (first_of c.item ps) c

-- the site after the staged writes of a transaction have become its copies
abbrev pub apply : SiteState → Txn → ℕ → List (Item × ℤ) → SiteState
apply state t number ps = record state { copies = map (renewed number ps) state.copies; staged = unstage t state.staged }
