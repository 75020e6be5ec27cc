use Rattle.raid_rules.specs.History.{noted}
use Rattle.raid_check.proofs.Judged.{never_cyclic}
use Rattle.raid_check.proofs.finals.order.Goals as goal

pub unreachable-requires : goal.unreachable-requires
unreachable-requires c =
    never_cyclic c.args.workload.now c.args.tables.now.history c.in_ok-order.order _ c.requires.legal (c.in_ok-order.ensures (noted c.args.tables.now.history) c.requires.kept.graph) c.in-Cyclic.is
