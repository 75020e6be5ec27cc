use Rattle.raid_moves.proofs.Swept.{none_ready_said}
use Rattle.raid_moves.proofs.steps_go_through_all_programs.Goals as goal

pub returns-clause-said : goal.returns-clause-said
returns-clause-said c = none_ready_said
