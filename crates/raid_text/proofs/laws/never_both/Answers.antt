use Rattle.raid_text.proofs.Both.{never_both}
use Rattle.raid_text.proofs.laws.never_both.Goals as goal

pub returns : goal.returns
returns c = never_both
