use Rattle.raid_staged.proofs.what_is_to_be_applied_is_staged.Goals as goal
use Rattle.raid_staged.proofs.Runs.{runs_stage}

-- src/lib.rt:15:1
pub returns : goal.returns
returns c = runs_stage
