use Rattle.std.proofs.Common.{◌≡◌, List, subst}
use Rattle.raid_base.specs.declared.entry.Entry.{Entry}
use Rattle.raid_rules.specs.declared.order.Order.TheVariants.{Whole}
use Rattle.raid_rules.specs.History.{noted}
use Rattle.raid_rules.specs.Conflict.{serial_order}
use Rattle.raid_sequencer.proofs.Whole.{whole_order}
use Rattle.raid_sequencer.proofs.sequencer.Sequencer.order.Goals as goal

pub returns : goal.returns
returns g c =
    let q = c.args.self.now in
    let kept = (c.requires.runs c.requires.goes_on).kept.kept in
    λ s told. subst (λ (h : List Entry). c.in_ok-order.order ≡ Whole (serial_order (noted h))) told.history (whole_order q.workload q.parts.record.history c.in_ok-order.order kept.placed (c.in_ok-order.ensures (noted q.parts.record.history) kept.tables.graph))
