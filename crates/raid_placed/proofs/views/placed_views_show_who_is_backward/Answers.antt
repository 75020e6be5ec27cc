use Rattle.raid_placed.proofs.Backward.{placed_backward}
use Rattle.raid_placed.proofs.views.placed_views_show_who_is_backward.Goals as goal

pub returns : goal.returns
returns c = placed_backward
