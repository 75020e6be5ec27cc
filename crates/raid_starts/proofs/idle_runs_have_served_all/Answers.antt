use Rattle.raid_starts.proofs.Runs.{idle_served}
use Rattle.raid_starts.proofs.idle_runs_have_served_all.Goals as goal

-- src/lib.rt
pub returns : goal.returns
returns c = idle_served
