use Rattle.raid_legal_runs.proofs.Laws.{truthful}
use Rattle.raid_legal_runs.proofs.idle_runs_are_truthful.Goals as goal

pub returns : goal.returns
returns c = truthful
