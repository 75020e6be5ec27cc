use Rattle.std.proofs.Common.{◌≡◌, ◌+◌, ◌-◌, ◌*◌, suc, length, arith, sym, ◌∙◌}
use Rattle.raid_base.specs.declared.names.Txn.{Txn}
use Rattle.raid_rules.specs.Sessions.{owes}
use Rattle.raid_rules.specs.History.{noted}
use Rattle.raid_check.proofs.Counted.{any_step, any_stop}
use Rattle.raid_check.proofs.rest.owes_any.Goals as goal

pub returns-then-owes : goal.returns-then-owes
returns-then-owes c =
    let test = c.loop-number-test.true in
    let more : (length c.args.workload.now.programs * (c.args.workload.now.restarts + 1) + 1) - c.loop-number.number ≡ suc ((length c.args.workload.now.programs * (c.args.workload.now.restarts + 1) + 1) - (c.loop-number.number + 1)) = omega (arith, test, c.count-number-end.ensures.is) in
    sym (any_stop (owes (noted c.args.tables.now.history) c.args.site) (λ k. let t : Txn = record { 0 = k } in t) c.loop-number.number ((length c.args.workload.now.programs * (c.args.workload.now.restarts + 1) + 1) - c.loop-number.number) ((length c.args.workload.now.programs * (c.args.workload.now.restarts + 1) + 1) - (c.loop-number.number + 1)) more (sym c.owes.ensures ∙ c.if-owes.true)) ∙ c.loop-number.invariant.rest

pub loop-number-preserved : goal.loop-number-preserved
loop-number-preserved c =
    let test = c.loop-number-test.true in
    let more : (length c.args.workload.now.programs * (c.args.workload.now.restarts + 1) + 1) - c.loop-number.number ≡ suc ((length c.args.workload.now.programs * (c.args.workload.now.restarts + 1) + 1) - (c.loop-number.number + 1)) = omega (arith, test, c.count-number-end.ensures.is) in
    record {
      least = omega arith;
      most = omega (arith, test, c.count-number-end.ensures.is);
      rest = any_step (owes (noted c.args.tables.now.history) c.args.site) (λ k. let t : Txn = record { 0 = k } in t) c.loop-number.number ((length c.args.workload.now.programs * (c.args.workload.now.restarts + 1) + 1) - c.loop-number.number) ((length c.args.workload.now.programs * (c.args.workload.now.restarts + 1) + 1) - (c.loop-number.number + 1)) more (sym c.owes.ensures ∙ c.if-owes.false) ∙ c.loop-number.invariant.rest;
    }
