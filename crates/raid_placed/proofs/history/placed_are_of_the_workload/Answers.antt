use Rattle.raid_placed.proofs.Orderly.{placed_known, placed_running}
use Rattle.raid_placed.proofs.history.placed_are_of_the_workload.Goals as goal

pub returns-clause-known : goal.returns-clause-known
returns-clause-known c = placed_known

pub returns-clause-running : goal.returns-clause-running
returns-clause-running c = placed_running
