use Rattle.std.proofs.Common.{sym, ◌∙◌}
use Rattle.raid_rules.specs.History.{noted}
use Rattle.raid_check.proofs.Kept.{parts_of, asked_eras}
use Rattle.raid_check.proofs.Judged.{read_iff}
use Rattle.raid_check.proofs.allowed.answers_read.Goals as goal

pub answer_to_read-answer-requires-clause-of : goal.answer_to_read-answer-requires-clause-of
answer_to_read-answer-requires-clause-of g c = (parts_of (λ v. (g.dyn-1.0.entry v).1) c.args.workload.now c.args.replay.now c.requires).asked

pub returns-clause-is : goal.returns-clause-is
returns-clause-is g c =
    read_iff c.args.workload.now (noted c.args.replay.now.tables.history) c.args.txn c.args.item c.answer_to_read-answer.result c.args.entry.now c.is_same.result
    (sym (c.is_free.ensures c.args.workload.now c.requires.tables) ∙ c.if-not-is_free.false) (sym c.in_ok-asked.ensures ∙ c.if-not-asked.false) c.answer_to_read-answer.ensures.answer c.is_same.ensures

pub returns-clause-stands : goal.returns-clause-stands
returns-clause-stands g c = asked_eras (λ v. (g.dyn-1.0.entry v).1) c.args.workload.now c.args.replay.now c.answer_to_read-answer.new.eras c.answer_to_read-answer.ensures.keeps c.requires
