use Rattle.raid_vectors.proofs.AckRuns.{none_owe}
use Rattle.raid_vectors.proofs.idle_runs_owe_nothing.Goals as goal

-- src/lib.rt
pub returns : goal.returns
returns c = none_owe
