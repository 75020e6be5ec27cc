use Rattle.raid_placed.proofs.Named.{turns_force}
use Rattle.raid_placed.proofs.Growth.{placed_same, placed_grow}
use Rattle.raid_placed.proofs.views.views_grow.Goals as goal

pub returns-clause-turn : goal.returns-clause-turn
returns-clause-turn c = turns_force

pub returns-clause-same : goal.returns-clause-same
returns-clause-same c = placed_same

pub returns-clause-grow : goal.returns-clause-grow
returns-clause-grow c = placed_grow
