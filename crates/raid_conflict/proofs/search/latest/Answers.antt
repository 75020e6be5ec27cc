use Rattle.std.proofs.Common.{◌++◌, arith, sym, ap, drop, ◌∙◌}
use Rattle.std.proofs.lemmas.List.{take_rest}
use Rattle.raid_conflict.proofs.Latest.{latest_back, latest_front}
use Rattle.raid_conflict.proofs.search.latest.Goals as goal

pub loop-start-preserved : goal.loop-start-preserved
loop-start-preserved c = record {
  within = omega (arith, c.loop-start.invariant.within);
  late = c.loop-start.invariant.late ∙ latest_back c.args.at c.args.actions.now c.loop-start.start c.loop-start-test.ensures.some c.loop-start.invariant.within c.loop-start-test.ensures.yes;
}

pub returns : goal.returns
returns c =
    take_rest c.args.actions.now c.loop-start.start
    ∙ sym (c.loop-start.invariant.late ∙ ap (λ l. l ++ drop c.loop-start.start c.args.actions.now) (latest_front c.args.at c.args.actions.now c.loop-start.start c.loop-start.invariant.within c.loop-start-test.ensures.no))
