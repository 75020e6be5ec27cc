use Rattle.raid_placed.proofs.Settled.{settle_placed, settle_settles, settle_quiet}
use Rattle.raid_placed.proofs.hearing.settling_keeps_placed.Goals as goal

pub returns-clause-placed : goal.returns-clause-placed
returns-clause-placed c = settle_placed

pub returns-clause-all : goal.returns-clause-all
returns-clause-all c = settle_settles

pub returns-clause-quiet : goal.returns-clause-quiet
returns-clause-quiet c = settle_quiet
