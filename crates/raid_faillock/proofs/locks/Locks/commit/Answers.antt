use Rattle.std.proofs.Common.{◌∙◌}
use Rattle.raid_faillock.proofs.Cells.{more_writes}
use Rattle.raid_faillock.proofs.locks.Locks.commit.Goals as goal

pub loop-item-preserved : goal.loop-item-preserved
loop-item-preserved c = record {
  size = c.pass.ensures.size ∙ c.loop-item.invariant.size;
  sets = λ x s least most. more_writes x c.args.writes.now c.loop-item.item-index _ _ _ _ _ c.loop-item-test.true (c.pass.ensures.sets x s least most) (c.loop-item.invariant.sets x s least most);
}
