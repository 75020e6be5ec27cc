use Rattle.std.proofs.Common.{arith}
use Rattle.std.specs.Int.{w64, w128}
use Rattle.std.proofs.lemmas.Int.{to_z-of_z, ints}
use Rattle.raid_report.proofs.Totals.{summed_more}
use Rattle.raid_report.proofs.summary.total.Goals as goal

pub loop-pair-preserved : goal.loop-pair-preserved
loop-pair-preserved c =
    let sum = to_z-of_z w128 c.plus-total.result c.plus-total.ensures.fits in
    let value = to_z-of_z w64 c.value_of.result c.value_of.ensures.fits in
    rw (sum, c.plus-total.ensures.sum, value, c.value_of.ensures.value) (record {
      least = rw (← c.value_of.ensures.value) (omega (arith, ints));
      most = rw (← c.value_of.ensures.value) (omega (arith, ints));
      summed = summed_more _ _ _ _ _ c.loop-pair-test.true c.loop-pair.invariant.summed;
    })
