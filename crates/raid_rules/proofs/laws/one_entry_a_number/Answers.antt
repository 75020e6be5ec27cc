use Rattle.raid_rules.proofs.Places.{one_entry}
use Rattle.raid_rules.proofs.laws.one_entry_a_number.Goals as goal

pub returns : goal.returns
returns c = one_entry
