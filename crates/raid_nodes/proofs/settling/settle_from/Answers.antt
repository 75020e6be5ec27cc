use Rattle.std.proofs.Common.{◌≡◌, ◌<◌, refl, arith}
use Rattle.raid_nodes.proofs.Settles.{whole_settled, none_settled, one_more, all_from}
use Rattle.raid_nodes.proofs.settling.settle_from.Goals as goal

pub loop-to-init : goal.loop-to-init
loop-to-init g c = (refl, none_settled _ _ (λ i j h. absurd (let g = h.1 in omega (arith, g))))

pub loop-to-preserved : goal.loop-to-preserved
loop-to-preserved g c =
    (refl, one_more _ _ _ c.args.from c.loop-to.to c.loop-to.some c.settle_pair-more.result c.requires.whole c.requires.from (omega (arith, c.loop-to-test.true, c.loop-to.invariant.0)) c.loop-to.invariant.1 c.settle_pair-more.ensures)

pub returns : goal.returns
returns g c = all_from _ _ _ c.loop-to.to _ (omega (arith, c.loop-to-test.false, c.loop-to.invariant.0)) c.loop-to.invariant.1

pub settle_pair-more-requires-clause-whole : goal.settle_pair-more-requires-clause-whole
settle_pair-more-requires-clause-whole g c = whole_settled (λ i j. (i ≡ c.args.from) × (j < c.loop-to.to)) _ _ _ c.requires.whole c.loop-to.invariant.1
