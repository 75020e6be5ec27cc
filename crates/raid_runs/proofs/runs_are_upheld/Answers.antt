use Rattle.raid_runs.proofs.Upheld.{run_upheld}
use Rattle.raid_runs.proofs.runs_are_upheld.Goals as goal

pub returns : goal.returns
returns c = run_upheld
