use Rattle.raid_placed.proofs.Backward.{placed_running_on, switch_running_on}
use Rattle.raid_placed.proofs.views.old_views_have_no_end_of_who_runs.Goals as goal

pub returns-clause-before : goal.returns-clause-before
returns-clause-before c = placed_running_on

pub returns-clause-after : goal.returns-clause-after
returns-clause-after c = switch_running_on
