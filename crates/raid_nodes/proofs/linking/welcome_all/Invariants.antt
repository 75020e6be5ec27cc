use Rattle.std.proofs.Common.{◌+◌}
use Rattle.raid_nodes.specs.Opening.{Welcomed}
use Rattle.raid_nodes.proofs.linking.welcome_all.Given as goal

-- the sites so far are welcomed
abbrev pub invariant-loop-k : goal.invariant-loop-k
invariant-loop-k l = Welcomed l.workload (l.k + 2) l.fn.senders l.senders
