use Rattle.std.proofs.Common.{◌≡◌, ◌≤◌, ◌&&◌, if◌then◌else◌, None, take, slice_index_or}
use Rattle.raid_base.specs.declared.names.Site.{Site}
use Rattle.raid_base.specs.declared.names.Item.{Item}
use Rattle.raid_base.specs.Names.{has_site, holds}
use Rattle.raid_copier.specs.Copiers as words
use Rattle.raid_copier.proofs.table.renew_all.Given as goal

-- the items so far have no copy under way to the sites
abbrev pub invariant-loop-item : goal.invariant-loop-item
invariant-loop-item l = (s : Site) (x : Item) → 1 ≤ s.0 → s.0 ≤ 8 → slice_index_or l.table.items (words.place_of s x) None ≡ (if holds x (take l.item-index l.writes) && has_site l.applied s then None else slice_index_or l.fn.table.items (words.place_of s x) None)
