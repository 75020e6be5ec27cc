use Rattle.raid_switch.proofs.May.{may_note}
use Rattle.raid_switch.proofs.laws.legal_entries_may_be_noted.Goals as goal

pub returns : goal.returns
returns c = may_note
