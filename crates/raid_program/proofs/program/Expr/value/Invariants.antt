use Rattle.std.proofs.Common.{◌≡◌, IsTrue, drop, fold, Some}
use Rattle.std.specs.List.{list_all}
use Rattle.raid_program.specs.Form.{is_term}
use Rattle.raid_program.specs.Run.{with_term, expr_value}
use Rattle.raid_program.proofs.program.Expr.value.Given as goal

-- the terms that are left, added to the sum so far, give the value; and they have their form
abbrev pub invariant-loop-add : goal.invariant-loop-add
invariant-loop-add l = record {
  value : fold (with_term l.registers) (Some l.sum) (drop l.add-index l.add-items) ≡ expr_value l.registers l.self;
  formed : IsTrue (list_all (λ t. is_term t.1) (drop l.add-index l.add-items));
}
