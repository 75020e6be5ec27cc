use Rattle.raid_text.proofs.Both.{one_of_both}
use Rattle.raid_text.proofs.laws.one_of_both.Goals as goal

pub returns : goal.returns
returns c = one_of_both
