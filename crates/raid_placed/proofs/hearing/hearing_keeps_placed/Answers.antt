use Rattle.raid_placed.proofs.Heard.{hear_placed, hear_quiet}
use Rattle.raid_placed.proofs.hearing.hearing_keeps_placed.Goals as goal

pub returns-clause-placed : goal.returns-clause-placed
returns-clause-placed c = hear_placed

pub returns-clause-quiet : goal.returns-clause-quiet
returns-clause-quiet c = hear_quiet
