use Rattle.raid_placed.proofs.Growth.{placed_joint, placed_ends}
use Rattle.raid_placed.proofs.views.switch_ends_leave_the_new_one.Goals as goal

pub returns-clause-joint : goal.returns-clause-joint
returns-clause-joint c = placed_joint

pub returns-clause-after : goal.returns-clause-after
returns-clause-after c = placed_ends
