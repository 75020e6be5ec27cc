use Rattle.raid_nodes.specs.Turns.{Missed}
use Rattle.raid_nodes.proofs.node.ServerNode.take_among.Given as goal

-- none of those so far had come
abbrev pub invariant-loop-from : goal.invariant-loop-from
invariant-loop-from g l = Missed l.initial.self l.first l.from l.self
