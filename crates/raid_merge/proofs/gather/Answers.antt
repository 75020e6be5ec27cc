use Rattle.raid_merge.proofs.Flat.{flat_step}
use Rattle.std.proofs.Common.{◌≡◌, [], get_or, ◌∙◌}
use Rattle.std.proofs.lemmas.List.{get_or_default}
use Rattle.raid_merge.proofs.gather.Goals as goal

pub loop-k-preserved : goal.loop-k-preserved
loop-k-preserved c =
    let is : c.index-journals-k.result ≡ get_or c.args.journals.now c.loop-k.k [] = c.index-journals-k.is ∙ get_or_default c.args.journals.now c.loop-k.k c.index-journals-k.result [] c.loop-k-test.true in
    flat_step c.args.journals.now c.loop-k.k c.loop-k.all.items c.add.new.all.items c.index-journals-k.result c.loop-k-test.true is c.loop-k.invariant
    (rw (← c.as_slice.ensures) c.in_ok-add.ensures)
