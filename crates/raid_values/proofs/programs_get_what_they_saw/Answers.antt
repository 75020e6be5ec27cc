use Rattle.raid_values.proofs.programs_get_what_they_saw.Goals as goal
use Rattle.raid_values.proofs.GetsRuns.{runs_get}
use Rattle.raid_values.proofs.Given.{all_give}

pub returns-clause-answers : goal.returns-clause-answers
returns-clause-answers c = runs_get

pub returns-clause-given : goal.returns-clause-given
returns-clause-given c = all_give
