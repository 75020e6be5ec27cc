use Rattle.raid_serial.proofs.Views.{views_in_order}
use Rattle.raid_serial.proofs.views_are_in_order.Goals as goal

pub returns : goal.returns
returns c = views_in_order
