use Rattle.raid_placed.proofs.Opening.{opening_placed, opening_quiet}
use Rattle.raid_placed.proofs.hearing.openings_are_placed.Goals as goal

pub returns-clause-placed : goal.returns-clause-placed
returns-clause-placed c = opening_placed

pub returns-clause-quiet : goal.returns-clause-quiet
returns-clause-quiet c = opening_quiet
