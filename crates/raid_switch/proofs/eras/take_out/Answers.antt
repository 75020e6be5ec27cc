use Rattle.std.proofs.Common.{arith, subst, get_or, take, sym}
use Rattle.std.proofs.lemmas.List.{take_more}
use Rattle.std.proofs.lemmas.Grind.{common_steps}
use Rattle.raid_base.specs.declared.names.Txn.{Txn}
use Rattle.raid_control.specs.Carried.{IsCarry}
use Rattle.raid_control.proofs.Carried.{without_is_a_carry}
use Rattle.raid_switch.proofs.Together.{without_none, without_push}
use Rattle.raid_switch.proofs.eras.take_out.Goals as goal

pub loop-txn-init : goal.loop-txn-init
loop-txn-init c = record { is = without_none c.args.carry.now; may = λ i. i }

pub loop-txn-preserved : goal.loop-txn-preserved
loop-txn-preserved c =
    let t : Txn = record { 0 = 0 } in
    record {
      is = grind (arith, common_steps, c.without.ensures, c.loop-txn.invariant.is, take_more c.args.off.now c.loop-txn.txn-index t c.loop-txn-test.true, without_push (take c.loop-txn.txn-index c.args.off.now) (get_or c.args.off.now c.loop-txn.txn-index t) c.args.carry.now);
      may = λ i. subst IsCarry (sym c.without.ensures) (without_is_a_carry c.loop-txn.carry _ (c.loop-txn.invariant.may i));
    }
