use Rattle.std.proofs.Common.{◌≡◌, ◌+◌}
use Rattle.raid_driver.proofs.Follow.{from_on}
use Rattle.raid_steps.specs.Programs.{following}
use Rattle.raid_world.proofs.opening.first_of.Given as goal

-- the programs so far have other homes
abbrev pub invariant-loop-k : goal.invariant-loop-k
invariant-loop-k l = from_on l.workload l.site 0 (l.k + 1) ≡ following l.workload l.site 0
