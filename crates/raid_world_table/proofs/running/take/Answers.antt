use Rattle.raid_world_table.proofs.Led.{led}
use Rattle.raid_world_table.proofs.running.take.Goals as goal

pub pick-requires-clause-runs : goal.pick-requires-clause-runs
pick-requires-clause-runs g c = c.requires.runs

pub returns : goal.returns
returns g c = led _ c.args.workload.now c.args.world.now c.pick.new.self c.args.pick c.requires c.in_ok-pick.ensures.stands c.pick.ensures.runs
