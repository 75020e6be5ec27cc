use Rattle.raid_check.proofs.Kept.{parts_of, asked_waits}
use Rattle.raid_check.proofs.allowed.answers_commit.Goals as goal

pub answer_to_commit-requires-clause-stand : goal.answer_to_commit-requires-clause-stand
answer_to_commit-requires-clause-stand g c = parts_of (λ v. (g.dyn-1.0.entry v).1) c.args.workload.now c.args.replay.now c.requires

pub returns-in_err-answer-clause-stands : goal.returns-in_err-answer-clause-stands
returns-in_err-answer-clause-stands g c = asked_waits (λ v. (g.dyn-1.0.entry v).1) c.args.workload.now c.args.replay.now c.answer_to_commit.new.waits c.answer_to_commit.new.eras c.answer_to_commit.ensures.same c.answer_to_commit.ensures.keeps c.requires

pub returns-in-Some-clause-stands : goal.returns-in-Some-clause-stands
returns-in-Some-clause-stands g c = asked_waits (λ v. (g.dyn-1.0.entry v).1) c.args.workload.now c.args.replay.now c.answer_to_commit.new.waits c.answer_to_commit.new.eras c.answer_to_commit.ensures.same c.answer_to_commit.ensures.keeps c.requires

pub returns-in-None-clause-stands : goal.returns-in-None-clause-stands
returns-in-None-clause-stands g c = asked_waits (λ v. (g.dyn-1.0.entry v).1) c.args.workload.now c.args.replay.now c.answer_to_commit.new.waits c.answer_to_commit.new.eras c.answer_to_commit.ensures.same c.answer_to_commit.ensures.keeps c.requires
