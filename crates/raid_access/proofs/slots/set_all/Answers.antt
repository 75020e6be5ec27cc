use Rattle.std.proofs.Common.{◌-◌, arith, ◌∙◌, drop, get_or, pos, ℤ, refl}
use Rattle.std.proofs.lemmas.Grind.{common_steps}
use Rattle.raid_base.specs.declared.names.Item.{Item}
use Rattle.raid_access.specs.Stock.{copies_from}
use Rattle.raid_access.proofs.Stored.{renewed_none, renewed_cons, dropped_one}
use Rattle.raid_access.proofs.slots.set_all.Goals as goal

pub loop-k-init : goal.loop-k-init
loop-k-init c = record { told = grind (arith, common_steps, renewed_none c.args.version (copies_from 0 c.args.slots.now)); length = refl }

pub loop-k-preserved : goal.loop-k-preserved
loop-k-preserved c =
    let n = c.args.version in
    let cs = copies_from 0 c.args.slots.now in
    let ps = c.args.pairs.now in
    let p : Item × ℤ = get_or ps (c.loop-k.k - 1) (record { 0 = 0 }, pos 0) in
    let left = dropped_one ps c.loop-k.k (record { 0 = 0 }, pos 0) (omega (arith, c.loop-k-test.true)) (omega (arith, c.loop-k.auto.k)) in
    record {
      told = grind (arith, common_steps, c.set.ensures.is, c.loop-k.invariant.told, renewed_cons n p (drop c.loop-k.k ps) cs, left);
      length = c.set.ensures.length ∙ c.loop-k.invariant.length;
    }
