use Rattle.std.proofs.Common.{sym, ◌∙◌}
use Rattle.std.proofs.lemmas.Result.{err_from_is_err_and}
use Rattle.raid_scan.specs.Words.{words_of}
use Rattle.raid_text.proofs.Steps.{steps_more, steps_end}
use Rattle.raid_text.proofs.statements.take_steps.Goals as goal

pub returns-in_err-step : goal.returns-in_err-step
returns-in_err-step c =
    let p = err_from_is_err_and c.from_residual.result c.from_residual.ensures.1 in
    rw (p.1, p.2) (sym c.loop.invariant ∙ steps_end c.args.compared c.loop.steps c.loop.counter (words_of c.loop.rest.now) c.in_err-step.field-0.0 c.loop-test.true (sym c.ends.ensures ∙ c.if-ends.false) c.in_err-step.ensures)

pub loop-preserved : goal.loop-preserved
loop-preserved c =
    rw c.in_ok-push.ensures.ok (sym (steps_more c.args.compared c.loop.steps c.loop.counter (words_of c.loop.rest.now) c.in_ok-step.step (words_of c.in_ok-step.after.now) c.loop-test.true (sym c.ends.ensures ∙ c.if-ends.false) c.in_ok-step.ensures) ∙ c.loop.invariant)
