use Rattle.raid_causes.proofs.Running as running
use Rattle.raid_causes.proofs.runs_have_histories.Goals as goal

pub returns : goal.returns
returns c = running.runs_come
