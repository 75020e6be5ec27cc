use Rattle.raid_causes.proofs.Opening as opening
use Rattle.raid_causes.proofs.merged_runs_are_schedules.Goals as goal

pub returns : goal.returns
returns c = opening.merged_runs
