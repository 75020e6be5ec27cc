use Rattle.raid_text.proofs.Both.{one_reading}
use Rattle.raid_text.proofs.laws.one_reading.Goals as goal

pub returns : goal.returns
returns c = one_reading
