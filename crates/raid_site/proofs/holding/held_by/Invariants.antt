use Rattle.std.proofs.Common.{◌≡◌, take}
use Rattle.raid_steps.specs.Programs as steps
use Rattle.raid_site.proofs.holding.held_by.Given as goal

-- those so far that the site holds
abbrev pub invariant-loop-item : goal.invariant-loop-item
invariant-loop-item l = l.held ≡ steps.held_by l.workload l.site (take l.item-index l.writes)
