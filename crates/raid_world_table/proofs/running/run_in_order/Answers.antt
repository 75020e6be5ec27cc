use Rattle.raid_world_table.proofs.Led.{opened}
use Rattle.raid_world_table.proofs.running.run_in_order.Goals as goal

pub take_in_order-requires : goal.take_in_order-requires
take_in_order-requires g c = opened _ c.args.workload.now c.in_ok-world.world c.in_ok-world.ensures.runs c.in_ok-world.ensures.stands
