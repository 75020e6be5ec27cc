use Rattle.std.proofs.Common.{arith, ◌∙◌}
use Rattle.raid_steps.specs.State.{to_site}
use Rattle.raid_record.specs.Turns.{message_of}
use Rattle.raid_record.proofs.Sites.{each_more}
use Rattle.raid_record.proofs.sends.send_each.Goals as goal

pub loop-number-preserved : goal.loop-number-preserved
loop-number-preserved c = record {
  least = omega arith;
  rest =
      each_more (λ s. to_site c.args.vector s (message_of c.args.notice)) c.args.targets c.loop-number.number _ _ c.loop-number.invariant.least c.loop-number-test.true c.in_ok-send_one.ensures
      ∙ c.loop-number.invariant.rest;
}
