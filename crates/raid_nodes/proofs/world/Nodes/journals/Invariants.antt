use Rattle.std.proofs.Common.{◌≡◌, map, take}
use Rattle.raid_nodes.proofs.world.Nodes.journals.Given as goal

-- the journals of the nodes so far
abbrev pub invariant-loop-node : goal.invariant-loop-node
invariant-loop-node g l = l.journals ≡ map (λ x. x.journal) (take l.node-index l.self.nodes.items)
