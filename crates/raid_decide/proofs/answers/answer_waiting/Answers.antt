use Rattle.std.proofs.Common.{ap, sym, ◌∙◌}
use Rattle.raid_workload.specs.Parts.{placement}
use Rattle.raid_legal.specs.Answers.{decided, answered}
use Rattle.raid_decide.proofs.Answered.{if_ok}
use Rattle.raid_decide.proofs.answers.answer_waiting.Goals as goal

pub returns-in-Some : goal.returns-in-Some
returns-in-Some c =
    if_ok c.refused.result
    (λ e h p o s v.
    h ∙ ap (answered c.args.workload.now p c.args.txn c.args.request.now) (sym c.in-Some.is ∙ c.site_refusal.ensures p (c.vector-vector.ensures c.args.workload.now.sites (placement c.args.workload.now) p o)))
    c.refused.ensures

pub returns-in-None : goal.returns-in-None
returns-in-None c =
    if_ok c.decided_waiting.result
    (λ e h p o s v.
    let is = c.vector-vector.ensures c.args.workload.now.sites (placement c.args.workload.now) p o in
    h p is s ∙ ap (decided c.args.workload.now p c.args.txn c.args.request.now) v
    ∙ ap (answered c.args.workload.now p c.args.txn c.args.request.now) (sym c.in-None.is ∙ c.site_refusal.ensures p is))
    c.decided_waiting.ensures
