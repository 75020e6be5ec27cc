use Rattle.std.proofs.Common.{refl}
use Rattle.raid_rounds_tests.proofs.Settles.{one_more}
use Rattle.raid_rounds_tests.proofs.settling.settle_ring.Goals as goal

pub loop-k-preserved : goal.loop-k-preserved
loop-k-preserved c =
    let pair = rw c.next_place.ensures at c.settle_pair-more.ensures in
    (refl, one_more c.args.members.now c.loop-k.k c.loop-k.some c.loop-k.members _ c.settle_pair-more.result c.loop-k.invariant.1 c.requires c.loop-k-test.true pair)
