use Rattle.std.proofs.Common.{map, take}
use Rattle.raid_causes.specs.Histories.{letter_of}
use Rattle.raid_nodes.specs.Nodes.{AreSent}
use Rattle.raid_nodes.proofs.sending.send_all.Given as goal

-- those so far were sent
abbrev pub invariant-loop-to : goal.invariant-loop-to
invariant-loop-to l = AreSent (map (letter_of l.session l.clock) (take l.to-index l.to-items)) l.fn.senders l.senders
