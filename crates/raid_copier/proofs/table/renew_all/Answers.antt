use Rattle.raid_base.specs.Names.{has_site}
use Rattle.raid_copier.proofs.Renewed.{more_items}
use Rattle.raid_copier.proofs.table.renew_all.Goals as goal

pub loop-item-preserved : goal.loop-item-preserved
loop-item-preserved c = λ s x least most.
    more_items x c.args.writes.now c.loop-item.item-index _ (has_site c.args.applied s) _ _ _ c.loop-item-test.true (c.renew.ensures s x least most) (c.loop-item.invariant s x least most)
