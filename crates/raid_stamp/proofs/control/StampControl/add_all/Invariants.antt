use Rattle.std.proofs.Common.{[], take}
use Rattle.raid_stamp.specs.Known.{Known}
use Rattle.raid_stamp.proofs.control.StampControl.add_all.Given as goal

-- those so far are known
abbrev pub invariant-loop-noted : goal.invariant-loop-noted
invariant-loop-noted l = Known l.fn.self [] → Known l.self (take l.noted-index l.entries)
