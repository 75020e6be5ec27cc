use Rattle.raid_placed.proofs.Backward.{forced_aborts, forced_aborts_noted}
use Rattle.raid_placed.proofs.views.old_views_show_whom_a_switch_aborts.Goals as goal

pub returns-clause-before : goal.returns-clause-before
returns-clause-before c = forced_aborts

pub returns-clause-after : goal.returns-clause-after
returns-clause-after c = forced_aborts_noted
