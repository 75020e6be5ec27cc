use Rattle.raid_causes.proofs.Opening as opening
use Rattle.raid_causes.proofs.journals_rise.Goals as goal

pub returns : goal.returns
returns c = opening.journals_rise
