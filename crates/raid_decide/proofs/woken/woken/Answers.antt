use Rattle.std.proofs.Common.{ap, sym, arith, ◌∙◌}
use Rattle.raid_rules.specs.History.{noted}
use Rattle.raid_legal.specs.Answers.{answer_commit}
use Rattle.raid_decide.proofs.Told.{kept, kept_on, as_waiting, stands_on, runs_at, waits_at, at_place}
use Rattle.raid_decide.proofs.Waking.{first_from, here, beyond, none_left}
use Rattle.raid_decide.proofs.woken.woken.Goals as goal

pub loop-place-init : goal.loop-place-init
loop-place-init g c = record {
  keeps = kept (λ (v : g.dyn-1.0.I). (g.dyn-1.0.entry v).1) c.args.eras.now;
  left = ap (λ rs. first_from (λ r. answer_commit c.args.workload.now (noted c.args.history.now) r.0 r.1) rs 0) c.requires.stand.waited;
}

pub get-requires : goal.get-requires
get-requires g c = omega (arith, c.loop-place-test.true, c.len-place-end.ensures)

pub answer_to_waiting-requires : goal.answer_to_waiting-requires
answer_to_waiting-requires g c = record {
  stand = as_waiting (stands_on c.loop-place.invariant.keeps c.requires.stand);
  running = runs_at (noted c.args.history.now) c.args.waits.now c.loop-place.place (c.get.result.0, c.get.result.1.now) c.requires.stand.waited c.get.ensures;
  waiting = waits_at (noted c.args.history.now) c.args.waits.now c.loop-place.place (c.get.result.0, c.get.result.1.now) c.requires.stand.waited c.get.ensures;
}

pub returns-then-is_some : goal.returns-then-is_some
returns-then-is_some g c = record {
  answer =
      let w = c.args.workload.now in
      let h = c.args.history.now in
      here (λ r. answer_commit w (noted h) r.0 r.1) c.args.waits.now c.loop-place.place c.in_ok-answer.answer (omega (arith, c.loop-place-test.true, c.len-place-end.ensures)) (sym c.is_some.ensures ∙ c.if-is_some.true)
      (at_place w (noted h) c.args.waits.now c.loop-place.place (c.get.result.0, c.get.result.1.now) c.in_ok-answer.answer c.get.ensures c.in_ok-answer.ensures.answer)
      ∙ c.loop-place.invariant.left;
  keeps = kept_on c.loop-place.invariant.keeps c.answer_to_waiting.ensures.keeps;
}

pub loop-place-preserved : goal.loop-place-preserved
loop-place-preserved g c = record {
  keeps = kept_on c.loop-place.invariant.keeps c.answer_to_waiting.ensures.keeps;
  left =
      let w = c.args.workload.now in
      let h = c.args.history.now in
      beyond (λ r. answer_commit w (noted h) r.0 r.1) c.args.waits.now c.loop-place.place c.in_ok-answer.answer (omega (arith, c.loop-place-test.true, c.len-place-end.ensures)) (sym c.is_some.ensures ∙ c.if-is_some.false)
      (at_place w (noted h) c.args.waits.now c.loop-place.place (c.get.result.0, c.get.result.1.now) c.in_ok-answer.answer c.get.ensures c.in_ok-answer.ensures.answer)
      ∙ c.loop-place.invariant.left;
}

pub returns : goal.returns
returns g c = record {
  answer =
      let w = c.args.workload.now in
      let h = c.args.history.now in
      none_left (λ r. answer_commit w (noted h) r.0 r.1) c.args.waits.now c.loop-place.place (omega (arith, c.loop-place-test.false, c.len-place-end.ensures))
      ∙ c.loop-place.invariant.left;
  keeps = c.loop-place.invariant.keeps;
}

pub returns-in_err-answer-clause-keeps : goal.returns-in_err-answer-clause-keeps
returns-in_err-answer-clause-keeps g c = kept_on c.loop-place.invariant.keeps c.answer_to_waiting.ensures.keeps
