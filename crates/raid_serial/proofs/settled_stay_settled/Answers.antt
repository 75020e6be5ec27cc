use Rattle.raid_serial.proofs.SettledStay.{settled_stay}
use Rattle.raid_serial.proofs.settled_stay_settled.Goals as goal

pub returns : goal.returns
returns c = settled_stay
