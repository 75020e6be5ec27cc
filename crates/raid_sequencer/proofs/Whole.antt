-- The serial order of a placed history is whole.
use Rattle.std.proofs.Common.{◌≡◌, List, ap}
use Rattle.raid_base.specs.declared.entry.Entry.{Entry}
use Rattle.raid_workload.specs.declared.workload.Workload.{Workload}
use Rattle.raid_rules.specs.declared.order.Order.{Order}
use Rattle.raid_rules.specs.declared.order.Order.TheVariants.{Whole, Cyclic}
use Rattle.raid_rules.specs.History.{noted}
use Rattle.raid_rules.specs.Conflict.{serial_order}
use Rattle.raid_rules.specs.Committed.{CommittedEdge, IsOrderOf}
use Rattle.raid_rules.proofs.Cycle.{cycle_path}
use Rattle.raid_placed.specs.Placed.{Placed}
use Rattle.raid_placed.proofs.Named.{placed_never_cycles}

pub whole_order : (w : Workload) (h : List Entry) (order : Order) → Placed w h → IsOrderOf (noted h) order → order ≡ Whole (serial_order (noted h))
whole_order w h (Whole ts) l o = ap Whole o.0
whole_order w h (Cyclic ts) l o = let p = cycle_path (CommittedEdge (noted h)) ts o in absurd (placed_never_cycles w h l p.0 p.1)
