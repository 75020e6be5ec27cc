use Rattle.std.proofs.Common.{◌∙◌, sym, arith}
use Rattle.std.proofs.lemmas.Grind.{common_steps}
use Rattle.std.proofs.lemmas.Int.{to_z-of_z}
use Rattle.raid_program.proofs.Sums.{leaves, goes_on}
use Rattle.raid_program.proofs.program.Expr.value.Goals as goal

pub returns-in_err-sum : goal.returns-in_err-sum
returns-in_err-sum c =
    c.from_residual.ensures ∙ sym (leaves c.args.registers.now _ _ _ _ _ c.loop-add-test.true c.loop-add.invariant.value (sym c.with_term.ensures ∙ c.in_err-sum.was))

pub loop-add-preserved : goal.loop-add-preserved
loop-add-preserved c =
    let l = goes_on c.args.registers.now _ _ _ _ c.in_ok-sum.sum _ c.loop-add-test.true c.loop-add.invariant.value (sym c.with_term.ensures ∙ c.in_ok-sum.was) in
    record { value = grind (arith, common_steps, to_z-of_z, l); formed = grind (arith, common_steps) }
