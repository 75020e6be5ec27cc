use Rattle.raid_merge.proofs.Rising.{rises_more}
use Rattle.raid_merge.proofs.is_rising.Goals as goal

pub loop-k-preserved : goal.loop-k-preserved
loop-k-preserved c = rises_more c.args.journal.now c.loop-k.k _ c.loop-k-test.true c.if-journal-k.false c.loop-k.invariant
