use Rattle.raid_placed.proofs.Growth.{placed_may_note, placed_extends}
use Rattle.raid_placed.proofs.views.controllers_may_note.Goals as goal

pub returns-clause-each : goal.returns-clause-each
returns-clause-each c = placed_may_note

pub returns-clause-graph : goal.returns-clause-graph
returns-clause-graph c = placed_extends
