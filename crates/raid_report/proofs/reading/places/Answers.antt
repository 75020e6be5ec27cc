use Rattle.std.proofs.Common.{◌∙◌}
use Rattle.raid_report.proofs.Slots.{places_more}
use Rattle.raid_report.proofs.reading.places.Goals as goal

pub loop-before-preserved : goal.loop-before-preserved
loop-before-preserved c = rw c.in_ok-push_places.ensures (places_more c.args.workload.now c.loop-before.before c.loop-before.slots c.loop-before-test.true ∙ c.loop-before.invariant)
