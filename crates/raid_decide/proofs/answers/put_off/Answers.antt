use Rattle.std.proofs.Common.{true, false, sym, ◌∙◌, refl}
use Rattle.raid_decide.proofs.Answered.{if_ok, put_off_by, waits_already}
use Rattle.raid_decide.proofs.answers.put_off.Goals as goal

pub returns-then-is_waiting-clause-answer : goal.returns-then-is_waiting-clause-answer
returns-then-is_waiting-clause-answer g c = λ w p s q. waits_already w p c.args.txn c.args.request.now c.args.waits.now (sym c.is_waiting.ensures ∙ c.if-is_waiting.true) q

pub returns-then-closes-clause-answer : goal.returns-then-closes-clause-answer
returns-then-closes-clause-answer g c =
    if_ok c.refused.result (λ e h w p s q. h ∙ put_off_by w p c.args.txn c.args.request.now c.args.waits.now false true (sym c.is_waiting.ensures ∙ c.if-is_waiting.false) q (sym c.if-closes.true ∙ c.closes.ensures.closes w p c.args.request.now s q refl)) c.refused.ensures

pub returns-clause-answer : goal.returns-clause-answer
returns-clause-answer g c =
    if_ok c.made_wait.result (λ e h w p s q. h ∙ put_off_by w p c.args.txn c.args.request.now c.args.waits.now false false (sym c.is_waiting.ensures ∙ c.if-is_waiting.false) q (sym c.if-closes.false ∙ c.closes.ensures.closes w p c.args.request.now s q refl)) c.made_wait.ensures
