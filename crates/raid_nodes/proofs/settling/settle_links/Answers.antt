use Rattle.std.proofs.Common.{◌≡◌, ◌<◌, refl, arith}
use Rattle.raid_nodes.proofs.Settles.{whole_settled, none_settled, row_more, all_rows}
use Rattle.raid_nodes.proofs.settling.settle_links.Goals as goal

pub loop-from-init : goal.loop-from-init
loop-from-init g c = (refl, none_settled _ _ (λ i j h. absurd (omega (arith, h))))

pub loop-from-preserved : goal.loop-from-preserved
loop-from-preserved g c =
    (refl, row_more _ _ _ c.loop-from.from c.loop-from.some c.settle_from-more.result c.requires c.loop-from.invariant.1 c.settle_from-more.ensures)

pub returns : goal.returns
returns g c = all_rows _ _ c.loop-from.from _ (omega (arith, c.loop-from-test.false, c.loop-from.invariant.0)) c.loop-from.invariant.1

pub settle_from-more-requires-clause-whole : goal.settle_from-more-requires-clause-whole
settle_from-more-requires-clause-whole g c = whole_settled (λ i j. i < c.loop-from.from) _ _ _ c.requires c.loop-from.invariant.1
