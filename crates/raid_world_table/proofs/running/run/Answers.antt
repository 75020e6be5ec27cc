use Rattle.raid_world_table.proofs.Led.{opened}
use Rattle.raid_world_table.proofs.running.run.Goals as goal

pub take_all-requires : goal.take_all-requires
take_all-requires g c = opened _ c.args.workload.now c.in_ok-world.world c.in_ok-world.ensures.runs c.in_ok-world.ensures.stands

pub first-requires : goal.first-requires
first-requires g c = (c.args.workload.now, c.in_ok-missed.ensures.runs)
