use Rattle.std.proofs.Common.{List, subst, sym, ◌∙◌}
use Rattle.raid_base.specs.declared.entry.Entry.{Entry}
use Rattle.raid_rules.specs.History.{noted}
use Rattle.raid_legal.specs.Answers.{answer_commit}
use Rattle.raid_placed.specs.Placed.{Placeable}
use Rattle.raid_placed.proofs.Heard.{commit_sent}
use Rattle.raid_sequencer.proofs.Answering.{quiet_sent, commit_names, freed}
use Rattle.raid_sequencer.proofs.rows.commit_row.Goals as goal

pub place-requires-clause-placeable : goal.place-requires-clause-placeable
place-requires-clause-placeable g c =
    let w = c.args.workload.now in
    let p = noted c.args.parts.now.record.history in
    let e = c.in-Some.entry in
    let free = sym (c.is_free.ensures w c.requires.kept.kept) ∙ c.if-is_free.true in
    subst (λ (h : List Entry). Placeable w (noted h) e) (sym c.answer_to_commit.ensures.history)
    (quiet_sent w p e c.requires.quiet (commit_sent w p c.args.txn c.args.request.now e free (sym c.in_ok-entry.ensures.is ∙ c.in-Some.is)))

pub place-requires-clause-sites : goal.place-requires-clause-sites
place-requires-clause-sites g c = commit_names c.args.workload.now (noted c.args.parts.now.record.history) c.args.txn c.args.request.now c.in-Some.entry (sym c.in_ok-entry.ensures.is ∙ c.in-Some.is)

pub returns-in_ok-place-clause-turns : goal.returns-in_ok-place-clause-turns
returns-in_ok-place-clause-turns g c =
    let w = c.args.workload.now in
    let r = c.args.parts.now.record in
    freed w 0 c.args.txn (λ p. answer_commit w p c.args.txn c.args.request.now) c.in-Some.entry r c.place.new.self.record c.args.outs.now c.place.new.outs
    (sym (c.is_free.ensures w c.requires.kept.kept) ∙ c.if-is_free.true) (sym c.in_ok-entry.ensures.is ∙ c.in-Some.is)
    (λ turn o. c.in_ok-place.ensures.turns turn (c.answer_to_commit.ensures.turns c.args.outs.now turn o))
