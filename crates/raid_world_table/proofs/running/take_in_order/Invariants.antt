use Rattle.raid_world_table.specs.Reached.{Reached}
use Rattle.raid_world_table.proofs.running.take_in_order.Given as goal

-- picks have led to the world
abbrev pub invariant-loop : goal.invariant-loop
invariant-loop g l = Reached (λ v. (g.dyn-1.0.entry v).1) l.workload l.world
