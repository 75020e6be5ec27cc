use Rattle.raid_vectors.proofs.Runs.{runs_come}
use Rattle.raid_vectors.proofs.vectors_come_to_what_is_told.Goals as goal

-- src/lib.rt:15:1
pub returns : goal.returns
returns c = λ w schedule. runs_come w schedule
