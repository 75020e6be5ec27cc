use Rattle.std.proofs.Common.{◌≡◌, [], take}
use Rattle.raid_control.specs.Carried.{IsCarry}
use Rattle.raid_generic.specs.Known.{Known}
use Rattle.raid_generic.proofs.control.GenericControl.add_all.Given as goal

-- those so far were added, and the kind is the same
abbrev pub invariant-loop-noted : goal.invariant-loop-noted
invariant-loop-noted l = record {
  kind : l.self.kind ≡ l.fn.self.kind;
  added : Known l.fn.self [] → IsCarry l.entries → Known l.self (take l.noted-index l.entries);
}
