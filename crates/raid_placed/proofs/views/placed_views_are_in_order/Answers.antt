use Rattle.raid_placed.proofs.Orderly.{placed_views}
use Rattle.raid_placed.proofs.views.placed_views_are_in_order.Goals as goal

pub returns : goal.returns
returns c = placed_views
