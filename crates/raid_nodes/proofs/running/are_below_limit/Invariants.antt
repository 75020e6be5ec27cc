use Rattle.std.proofs.Common.{◌<◌, ℕ, get_or}
use Rattle.raid_nodes.specs.Nodes.{limit}
use Rattle.raid_nodes.specs.declared.node.ServerNode.{ServerNode}
use Rattle.raid_nodes.proofs.running.are_below_limit.Given as goal

-- none of the nodes so far has come to it
abbrev pub invariant-loop-node : goal.invariant-loop-node
invariant-loop-node g l = (k : ℕ) (d : _) → k < l.node-index → (get_or l.nodes k d).clock < limit
