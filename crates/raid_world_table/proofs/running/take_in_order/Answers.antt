use Rattle.raid_world_table.proofs.running.take_in_order.Goals as goal

pub first-requires : goal.first-requires
first-requires g c = (c.args.workload.now, c.loop.invariant.runs)
