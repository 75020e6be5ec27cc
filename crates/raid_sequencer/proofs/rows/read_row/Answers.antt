use Rattle.std.proofs.Common.{◌≡◌, true, Some, subst, sym, ap, ◌∙◌}
use Rattle.raid_base.specs.declared.entry.Entry.{Entry}
use Rattle.raid_rules.specs.History.{noted}
use Rattle.raid_legal.specs.Answers.{answer_read}
use Rattle.raid_faillock.specs.Stands.{names_sites}
use Rattle.raid_placed.specs.Placed.{Placeable}
use Rattle.raid_placed.proofs.Heard.{read_sent}
use Rattle.raid_record.specs.declared.records.Record.{Record}
use Rattle.raid_record.specs.Tells.{Turns}
use Rattle.raid_steps.specs.Sequencer.{place}
use Rattle.raid_sequencer.proofs.Answering.{quiet_sent, read_names, freed, unfreed}
use Rattle.raid_sequencer.proofs.rows.read_row.Goals as goal

pub place-requires-clause-placeable : goal.place-requires-clause-placeable
place-requires-clause-placeable g c =
    let w = c.args.workload.now in
    let p = noted c.args.parts.now.record.history in
    let free = sym (c.is_free.ensures w c.requires.kept.kept) ∙ c.if-is_free.true in
    subst (λ (r : Record). Placeable w (noted r.history) c.answer_to_read-entry.result) (sym c.answer_to_read-entry.ensures.record)
    (subst (Placeable w p) (sym c.answer_to_read-entry.ensures.is) (quiet_sent w p (answer_read w p c.args.txn c.args.item) c.requires.quiet (read_sent w p c.args.txn c.args.item free)))

pub place-requires-clause-sites : goal.place-requires-clause-sites
place-requires-clause-sites g c =
    let w = c.args.workload.now in
    let p = noted c.args.parts.now.record.history in
    subst (λ (e : Entry). names_sites w.sites e ≡ true) (sym c.answer_to_read-entry.ensures.is) (read_names w p c.args.txn c.args.item)

pub returns-in_ok-place-clause-turns : goal.returns-in_ok-place-clause-turns
returns-in_ok-place-clause-turns g c =
    let w = c.args.workload.now in
    let r = c.args.parts.now.record in
    let e = c.answer_to_read-entry.result in
    freed w c.args.ask c.args.txn (λ p. Some (answer_read w p c.args.txn c.args.item)) e r c.place.new.self.record c.args.outs.now c.place.new.outs
    (sym (c.is_free.ensures w c.requires.kept.kept) ∙ c.if-is_free.true) (ap Some (sym c.answer_to_read-entry.ensures.is))
    (subst (λ (before : Record). Turns w before c.args.outs.now c.place.new.self.record c.place.new.outs (λ turn. place w c.args.ask turn e)) c.answer_to_read-entry.ensures.record c.in_ok-place.ensures.turns)

pub returns-else-is_free-clause-turns : goal.returns-else-is_free-clause-turns
returns-else-is_free-clause-turns g c =
    let w = c.args.workload.now in
    unfreed w c.args.ask c.args.txn (λ p. Some (answer_read w p c.args.txn c.args.item)) c.args.parts.now.record c.args.outs.now (sym (c.is_free.ensures w c.requires.kept.kept) ∙ c.if-is_free.false)
