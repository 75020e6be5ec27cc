use Rattle.std.proofs.Common.{arith}
use Rattle.raid_base.specs.Names.{is_item}
use Rattle.raid_copier.proofs.Renewed.{more_sites}
use Rattle.raid_copier.proofs.table.renew.Goals as goal

pub loop-number-preserved : goal.loop-number-preserved
loop-number-preserved c = record {
  least = omega arith;
  done = λ s x least most. more_sites c.args.applied c.loop-number.number s (is_item x c.args.item) _ _ _ (c.renew_at.ensures s x least most) (c.loop-number.invariant.done s x least most);
}
