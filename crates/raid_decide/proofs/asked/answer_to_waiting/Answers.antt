use Rattle.raid_rules.specs.History.{noted}
use Rattle.raid_decide.proofs.Answered.{if_ok}
use Rattle.raid_decide.proofs.asked.answer_to_waiting.Goals as goal

pub returns-clause-answer : goal.returns-clause-answer
returns-clause-answer g c =
    if_ok c.answer_waiting.result
    (λ e h. h (noted c.args.history.now) c.requires.stand.locked c.requires.waiting (c.verdict_on_commit-verdict.ensures.answers c.args.workload.now c.requires.stand.asked))
    c.answer_waiting.ensures
