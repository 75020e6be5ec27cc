use Rattle.std.proofs.Common.{◌≡◌, ◌≤◌, ◌&&◌, ◌||◌, length, take}
use Rattle.std.specs.List.{list_any}
use Rattle.raid_base.specs.declared.names.Site.{Site}
use Rattle.raid_base.specs.declared.names.Item.{Item}
use Rattle.raid_base.specs.Names.{is_site, is_item}
use Rattle.raid_faillock.specs.Sets.{has_at}
use Rattle.raid_faillock.proofs.locks.Locks.lock_all.Given as goal

-- the copies of the items so far are locked
abbrev pub invariant-loop-item : goal.invariant-loop-item
invariant-loop-item l = record {
  size : length l.self ≡ length l.fn.self;
  sets : (x : Item) (s : Site) → 1 ≤ s.0 → s.0 ≤ 8 → has_at l.self x.0 s ≡ (has_at l.fn.self x.0 s || (list_any (is_item x) (take l.item-index l.items) && is_site s l.site && has_at l.holders x.0 s));
}
