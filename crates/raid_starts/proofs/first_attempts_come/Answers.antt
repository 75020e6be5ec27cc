use Rattle.raid_starts.proofs.Runs.{runs_first}
use Rattle.raid_starts.proofs.first_attempts_come.Goals as goal

-- src/lib.rt
pub returns : goal.returns
returns c = runs_first
