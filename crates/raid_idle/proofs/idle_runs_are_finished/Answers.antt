use Rattle.raid_idle.proofs.Finished.{finished}
use Rattle.raid_idle.proofs.idle_runs_are_finished.Goals as goal

-- src/lib.rt
pub returns : goal.returns
returns c = finished
