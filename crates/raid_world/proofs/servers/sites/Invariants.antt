use Rattle.raid_world.specs.Stands.{AreFirst}
use Rattle.raid_world.proofs.servers.sites.Given as goal

-- the sites so far stand
abbrev pub invariant-loop-k : goal.invariant-loop-k
invariant-loop-k l = AreFirst l.workload l.k l.sites.items
