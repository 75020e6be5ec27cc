use Rattle.raid_placed.proofs.Named.{placed_once, placed_never_cycles}
use Rattle.raid_placed.proofs.history.placed_are_serial.Goals as goal

pub returns-clause-once : goal.returns-clause-once
returns-clause-once c = placed_once

pub returns-clause-acyclic : goal.returns-clause-acyclic
returns-clause-acyclic c = placed_never_cycles
