use Rattle.raid_placed.proofs.Named.{placed_names}
use Rattle.raid_placed.proofs.history.placeable_names_are_known.Goals as goal

pub returns : goal.returns
returns c = placed_names
