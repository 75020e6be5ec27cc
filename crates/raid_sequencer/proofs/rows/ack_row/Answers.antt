use Rattle.std.proofs.Common.{sym, ◌∙◌}
use Rattle.raid_base.specs.declared.entry.Entry.TheVariants.{Ack}
use Rattle.raid_rules.specs.Sessions.{owes}
use Rattle.raid_sequencer.proofs.Answering.{placed_where, left_where}
use Rattle.raid_sequencer.proofs.rows.ack_row.Goals as goal

pub returns-in_ok-place-clause-turns : goal.returns-in_ok-place-clause-turns
returns-in_ok-place-clause-turns g c =
    placed_where c.args.workload.now 0 (λ p. owes p c.args.site c.args.txn) (Ack c.args.txn c.args.site) c.args.parts.now.record c.place.new.self.record c.args.outs.now c.place.new.outs
    (sym c.owes.ensures ∙ c.if-owes.true) c.in_ok-place.ensures.turns

pub returns-else-owes-clause-turns : goal.returns-else-owes-clause-turns
returns-else-owes-clause-turns g c =
    left_where c.args.workload.now 0 (λ p. owes p c.args.site c.args.txn) (Ack c.args.txn c.args.site) c.args.parts.now.record c.args.outs.now (sym c.owes.ensures ∙ c.if-owes.false)
