use Rattle.raid_causes.proofs.Opening as opening
use Rattle.raid_causes.proofs.merges_are_schedules.Goals as goal

pub returns : goal.returns
returns c = opening.merge_runs
