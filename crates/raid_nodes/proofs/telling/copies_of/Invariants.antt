use Rattle.std.proofs.Common.{◌≡◌, ◌-◌, take}
use Rattle.std.specs.Prelude.{flat_map}
use Rattle.raid_steps.specs.World as steps
use Rattle.raid_steps.specs.World.{copy_lines}
use Rattle.raid_nodes.specs.Ran.{AreServers}
use Rattle.raid_nodes.proofs.telling.copies_of.Given as goal

-- the copies of the sites so far were listed
abbrev pub invariant-loop-node : goal.invariant-loop-node
invariant-loop-node g l = (s : steps.Servers) → AreServers l.workload l.nodes s → l.copies ≡ flat_map copy_lines (take (l.node-index - 2) s.sites)
