use Rattle.raid_staged.proofs.what_is_staged_is_to_be_committed.Goals as goal
use Rattle.raid_staged.proofs.PartRuns.{runs_agree}

pub returns : goal.returns
returns c = runs_agree
