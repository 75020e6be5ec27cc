use Rattle.std.proofs.Common.{◌≡◌, ◌+◌, ◌-◌, ◌*◌, suc, length, arith, sym, ◌∙◌}
use Rattle.raid_base.specs.declared.names.Txn.{Txn}
use Rattle.raid_legal.specs.Switched.{is_served}
use Rattle.raid_rules.specs.History.{noted}
use Rattle.raid_check.proofs.Counted.{all_step, all_stop}
use Rattle.raid_check.proofs.rest.are_served.Goals as goal

pub returns-then-not-is_served : goal.returns-then-not-is_served
returns-then-not-is_served c =
    let test = c.loop-number-test.true in
    let more : (length c.args.workload.now.programs * (c.args.workload.now.restarts + 1) + 1) - c.loop-number.number ≡ suc ((length c.args.workload.now.programs * (c.args.workload.now.restarts + 1) + 1) - (c.loop-number.number + 1)) = omega (arith, test, c.count-number-end.ensures.is) in
    sym (all_stop (is_served c.args.workload.now (noted c.args.tables.now.history)) (λ k. let t : Txn = record { 0 = k } in t) c.loop-number.number ((length c.args.workload.now.programs * (c.args.workload.now.restarts + 1) + 1) - c.loop-number.number) ((length c.args.workload.now.programs * (c.args.workload.now.restarts + 1) + 1) - (c.loop-number.number + 1)) more (sym c.is_served.ensures ∙ c.if-not-is_served.true)) ∙ c.loop-number.invariant.rest

pub loop-number-preserved : goal.loop-number-preserved
loop-number-preserved c =
    let test = c.loop-number-test.true in
    let more : (length c.args.workload.now.programs * (c.args.workload.now.restarts + 1) + 1) - c.loop-number.number ≡ suc ((length c.args.workload.now.programs * (c.args.workload.now.restarts + 1) + 1) - (c.loop-number.number + 1)) = omega (arith, test, c.count-number-end.ensures.is) in
    record {
      least = omega arith;
      most = omega (arith, test, c.count-number-end.ensures.is);
      rest = all_step (is_served c.args.workload.now (noted c.args.tables.now.history)) (λ k. let t : Txn = record { 0 = k } in t) c.loop-number.number ((length c.args.workload.now.programs * (c.args.workload.now.restarts + 1) + 1) - c.loop-number.number) ((length c.args.workload.now.programs * (c.args.workload.now.restarts + 1) + 1) - (c.loop-number.number + 1)) more (sym c.is_served.ensures ∙ c.if-not-is_served.false) ∙ c.loop-number.invariant.rest;
    }
