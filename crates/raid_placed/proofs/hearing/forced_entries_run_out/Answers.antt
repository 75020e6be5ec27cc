use Rattle.raid_placed.proofs.Settled.{placed_falls, placed_bound}
use Rattle.raid_placed.proofs.hearing.forced_entries_run_out.Goals as goal

pub returns-clause-falls : goal.returns-clause-falls
returns-clause-falls c = placed_falls

pub returns-clause-bound : goal.returns-clause-bound
returns-clause-bound c = placed_bound
