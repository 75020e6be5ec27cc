use Rattle.std.proofs.Common.{[], take}
use Rattle.raid_control.specs.Carried.{IsCarry}
use Rattle.raid_graph.specs.Known.{Known}
use Rattle.raid_graph.proofs.control.GraphControl.add_all.Given as goal

-- those so far were added
abbrev pub invariant-loop-noted : goal.invariant-loop-noted
invariant-loop-noted l = Known l.fn.self [] → IsCarry l.entries → Known l.self (take l.noted-index l.entries)
