use Rattle.std.proofs.Common.{ap, sym, ◌∙◌}
use Rattle.raid_workload.specs.Parts.{placement}
use Rattle.raid_legal.specs.Answers.{decided, answered}
use Rattle.raid_decide.proofs.Answered.{if_ok}
use Rattle.raid_decide.proofs.answers.answer_commit.Goals as goal

pub returns-in-Some-clause-answer : goal.returns-in-Some-clause-answer
returns-in-Some-clause-answer g c =
    if_ok c.refused.result
    (λ e h p o q s v.
    h ∙ ap (answered c.args.workload.now p c.args.txn c.args.request.now) (sym c.in-Some.is ∙ c.site_refusal.ensures p (c.vector-vector.ensures c.args.workload.now.sites (placement c.args.workload.now) p o)))
    c.refused.ensures

pub returns-in-None-clause-answer : goal.returns-in-None-clause-answer
returns-in-None-clause-answer g c =
    if_ok c.decided.result
    (λ e h p o q s v.
    let is = c.vector-vector.ensures c.args.workload.now.sites (placement c.args.workload.now) p o in
    h p is s q ∙ ap (decided c.args.workload.now p c.args.txn c.args.request.now) v
    ∙ ap (answered c.args.workload.now p c.args.txn c.args.request.now) (sym c.in-None.is ∙ c.site_refusal.ensures p is))
    c.decided.ensures.answer
