use Rattle.raid_values.proofs.live_copies_have_the_last_value.Goals as goal
use Rattle.raid_values.proofs.Current.{become_current}

pub returns : goal.returns
returns c = become_current
