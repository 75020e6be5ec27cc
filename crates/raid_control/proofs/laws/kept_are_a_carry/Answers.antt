use Rattle.raid_control.proofs.Carried.{carried_is_a_carry, without_is_a_carry}
use Rattle.raid_control.proofs.laws.kept_are_a_carry.Goals as goal

pub returns-clause-carried : goal.returns-clause-carried
returns-clause-carried c = carried_is_a_carry

pub returns-clause-without : goal.returns-clause-without
returns-clause-without c = without_is_a_carry
