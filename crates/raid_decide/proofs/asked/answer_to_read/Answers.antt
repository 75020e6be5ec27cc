use Rattle.raid_rules.specs.History.{noted}
use Rattle.raid_decide.proofs.Told.{runs_known}
use Rattle.raid_decide.proofs.asked.answer_to_read.Goals as goal

pub answer_read-requires : goal.answer_read-requires
answer_read-requires g c = runs_known c.args.workload.now c.args.history.now c.args.txn c.requires.of.placed c.requires.running

pub returns-clause-answer : goal.returns-clause-answer
returns-clause-answer g c =
    c.answer_read.ensures (noted c.args.history.now) c.requires.locked (c.verdict_on_read-verdict.ensures.answers c.args.workload.now c.requires.of)
