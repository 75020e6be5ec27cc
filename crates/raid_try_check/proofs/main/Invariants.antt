use Rattle.std.proofs.Common.{length}
use Rattle.raid_try_check.proofs.main.Given as goal

abbrev pub decreases-loop-workload : goal.decreases-loop-workload
decreases-loop-workload l = length l.rest
