use Rattle.std.proofs.Common.{◌≡◌, ◌<◌, List, length, subst, sym, ◌∙◌, arith}
use Rattle.raid_base.specs.declared.entry.Entry.{Entry}
use Rattle.raid_world.proofs.Told.{report_is}
use Rattle.raid_nodes.proofs.telling.report_of.Goals as goal

pub returns-clause-is : goal.returns-clause-is
returns-clause-is g c = λ s are.
    let tells = c.sequencer_of-sequencer.ensures.tells c.args.workload.now s are in
    report_is c.args.workload.now s c.history-history.result.now c.in_ok-entries.entries c.in_ok-order.order c.in_ok-finals.finals c.in_ok-copies.copies
    (c.history-history.ensures.is s.sequencer tells) c.in_ok-entries.ensures (c.in_ok-order.ensures s.sequencer tells) c.in_ok-finals.ensures (c.in_ok-copies.ensures s are)

pub order-requires-clause-tells : goal.order-requires-clause-tells
order-requires-clause-tells g c = let a = c.requires.are in (a.0.sequencer, c.sequencer_of-sequencer.ensures.tells c.args.workload.now a.0 a.1)
