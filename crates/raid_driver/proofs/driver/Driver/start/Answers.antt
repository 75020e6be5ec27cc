use Rattle.std.proofs.Common.{ap, sym, ◌∙◌}
use Rattle.raid_driver.specs.Drive.{turn, begin_next}
use Rattle.raid_driver.proofs.Kept.{round_more}
use Rattle.raid_driver.proofs.driver.Driver.start.Goals as goal

pub loop-preserved : goal.loop-preserved
loop-preserved c =
    c.in_ok-begin_next.ensures.ok ∙ ap (begin_next c.args.workload.now) c.loop.invariant ∙ sym (round_more (begin_next c.args.workload.now) c.loop.counter (turn c.args.self.now c.args.outs.now))
