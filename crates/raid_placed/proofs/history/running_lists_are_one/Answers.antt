use Rattle.raid_placed.proofs.Listed.{placed_running_list}
use Rattle.raid_placed.proofs.history.running_lists_are_one.Goals as goal

pub returns : goal.returns
returns c = placed_running_list
