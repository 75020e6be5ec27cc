use Rattle.raid_causes.proofs.Limited as limited
use Rattle.raid_causes.proofs.clocks_below_the_limit_are_exact.Goals as goal

pub returns : goal.returns
returns c = limited.exact
