use Rattle.std.proofs.Common.{◌≡◌, ◌++◌, drop, map, true}
use Rattle.std.specs.List.{flat_map, list_all}
use Rattle.raid_workload.specs.Rules.{is_item}
use Rattle.raid_text.specs.Spelling.{line_text, item_words}
use Rattle.raid_text.proofs.writing.put_items.Given as goal

abbrev pub invariant-loop-item : goal.invariant-loop-item
invariant-loop-item l = record { written : l.out ++ flat_map line_text (map item_words (drop l.item-index l.items)) ≡ l.initial.out ++ flat_map line_text (map item_words l.items); fit : list_all (is_item l.sites) (drop l.item-index l.items) ≡ true }
