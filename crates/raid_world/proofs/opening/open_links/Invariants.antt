use Rattle.raid_world.proofs.Starting.{Opened}
use Rattle.raid_world.proofs.opening.open_links.Given as goal

-- the letters of the sites so far are on their way
abbrev pub invariant-loop-k : goal.invariant-loop-k
invariant-loop-k l = Opened l.workload l.k l.links
