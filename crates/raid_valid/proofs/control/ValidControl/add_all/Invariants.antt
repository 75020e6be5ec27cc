use Rattle.std.proofs.Common.{[], take}
use Rattle.raid_valid.specs.Known.{Known}
use Rattle.raid_valid.proofs.control.ValidControl.add_all.Given as goal

-- those so far are known
abbrev pub invariant-loop-noted : goal.invariant-loop-noted
invariant-loop-noted l = Known l.fn.self [] → Known l.self (take l.noted-index l.entries)
