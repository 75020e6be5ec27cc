use Rattle.std.proofs.Common.{◌≡◌, ◌≤◌, ◌&&◌, nat_lt, if◌then◌else◌, None, slice_index_or}
use Rattle.raid_base.specs.declared.names.Site.{Site}
use Rattle.raid_base.specs.declared.names.Item.{Item}
use Rattle.raid_base.specs.Names.{is_item, has_site}
use Rattle.raid_copier.specs.Copiers as words
use Rattle.raid_copier.proofs.table.renew.Given as goal

-- the sites so far have no copy of the item under way
abbrev pub invariant-loop-number : goal.invariant-loop-number
invariant-loop-number l = record {
  least : 1 ≤ l.number;
  done : (s : Site) (x : Item) → 1 ≤ s.0 → s.0 ≤ 8 → slice_index_or l.table.items (words.place_of s x) None ≡ (if (is_item x l.item && has_site l.applied s) && nat_lt s.0 l.number then None else slice_index_or l.fn.table.items (words.place_of s x) None);
}
