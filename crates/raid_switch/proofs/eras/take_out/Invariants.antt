use Rattle.std.proofs.Common.{◌≡◌, take}
use Rattle.raid_control.specs.Carried.{IsCarry}
use Rattle.raid_switch.specs.Force.{without}
use Rattle.raid_switch.proofs.eras.take_out.Given as goal

-- the entries of the first of the list are out
abbrev pub invariant-loop-txn : goal.invariant-loop-txn
invariant-loop-txn l = record {
  is : l.carry ≡ without (take l.txn-index l.off) l.initial.carry;
  may : IsCarry l.initial.carry → IsCarry l.carry;
}
