use Rattle.std.proofs.Common.{◌≡◌, ◌≤◌, ◌&&◌, not, if◌then◌else◌, length, take}
use Rattle.raid_base.specs.declared.names.Site.{Site}
use Rattle.raid_base.specs.declared.names.Item.{Item}
use Rattle.raid_base.specs.Names.{has_site, holds}
use Rattle.raid_faillock.specs.Sets.{has_at}
use Rattle.raid_faillock.proofs.locks.Locks.commit.Given as goal

-- the writes so far were applied
abbrev pub invariant-loop-item : goal.invariant-loop-item
invariant-loop-item l = record {
  size : length l.self ≡ length l.fn.self;
  sets : (x : Item) (s : Site) → 1 ≤ s.0 → s.0 ≤ 8 → has_at l.self x.0 s ≡ (if holds x (take l.item-index l.writes) then has_at l.holders x.0 s && not (has_site l.applied s) else has_at l.fn.self x.0 s);
}
