use Rattle.std.proofs.Common.{ap, sym, ◌∙◌, arith}
use Rattle.raid_steps.specs.Programs as steps
use Rattle.raid_driver.proofs.Kept.{round_more}
use Rattle.raid_site.specs.Whole.{turn}
use Rattle.raid_site.proofs.programs.start.Goals as goal

pub loop-preserved : goal.loop-preserved
loop-preserved c = record {
  rounds =
      c.in_ok-begin_next.ensures.ok ∙ ap (steps.begin_next c.args.workload.now) c.loop.invariant.rounds
      ∙ sym (round_more (steps.begin_next c.args.workload.now) c.loop.counter (turn c.args.parts.now c.args.outs.now));
  live = c.in_ok-begin_next.ensures.live;
  whole = c.in_ok-begin_next.ensures.whole;
  begun = let before = c.loop.invariant.begun in let more = c.in_ok-begin_next.ensures.more in omega (arith, before, more);
}

pub begin_next-requires-clause-room : goal.begin_next-requires-clause-room
begin_next-requires-clause-room c =
    let listed = c.count.ensures in
    let free = c.saturating_sub-free.ensures in
    let begun = c.loop.invariant.begun in
    let test = c.loop-test.true in
    omega (arith, listed, free, begun, test)
