use Rattle.raid_causes.proofs.Reaching as reaching
use Rattle.raid_causes.proofs.ends_are_reached.Goals as goal

pub returns : goal.returns
returns c = reaching.reached
