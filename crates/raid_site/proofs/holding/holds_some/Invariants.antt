use Rattle.std.proofs.Common.{◌≡◌, drop}
use Rattle.raid_legal.specs.Seen as seen
use Rattle.raid_site.proofs.holding.holds_some.Given as goal

-- the site holds none of those so far
abbrev pub invariant-loop-item : goal.invariant-loop-item
invariant-loop-item l = seen.holds_some l.workload (drop l.item-index l.writes) l.site ≡ seen.holds_some l.workload l.writes l.site
