use Rattle.raid_world.proofs.Starting.{live_first}
use Rattle.raid_world.proofs.world.World.new.Goals as goal

pub returns-clause-runs : goal.returns-clause-runs
returns-clause-runs g c = record {
  links = c.in_ok-links.ensures.shape;
  live = λ q. live_first _ c.args.workload.now _ c.in_ok-servers.ensures.go c.in_ok-servers.ensures.heard c.in_ok-links.ensures.in_time c.in_ok-times.ensures.clocks c.in_ok-times.ensures.journals;
}
