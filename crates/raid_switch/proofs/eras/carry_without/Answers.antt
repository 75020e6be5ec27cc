use Rattle.std.proofs.Common.{sym, subst}
use Rattle.raid_control.specs.Carried.{IsCarry}
use Rattle.raid_control.proofs.Carried.{carried_is_a_carry}
use Rattle.raid_switch.proofs.eras.carry_without.Goals as goal

pub returns-clause-may : goal.returns-clause-may
returns-clause-may g c = λ view s o. c.take_out.ensures.may (subst IsCarry (sym (c.in_ok-carry.ensures view s)) (carried_is_a_carry view o))
