use Rattle.std.proofs.Common.{◌≡◌, ◌+◌, ◌-◌, suc, arith, sym, ◌∙◌}
use Rattle.std.specs.List.{list_all}
use Rattle.raid_base.specs.Sites.{site}
use Rattle.raid_workload.specs.Parts.{items}
use Rattle.raid_legal.specs.Switched.{is_settled}
use Rattle.raid_rules.specs.History.{noted}
use Rattle.raid_check.proofs.Counted.{all_step, all_stop}
use Rattle.raid_check.proofs.rest.are_settled.Goals as goal

pub returns-then-not-are_settled_at : goal.returns-then-not-are_settled_at
returns-then-not-are_settled_at c =
    let test = c.loop-number-test.true in
    let more : (c.args.workload.now.sites + 1) - c.loop-number.number ≡ suc ((c.args.workload.now.sites + 1) - (c.loop-number.number + 1)) = omega (arith, test) in
    sym (all_stop (λ s. list_all (is_settled c.args.workload.now (noted c.args.tables.now.history) s) (items c.args.workload.now)) site c.loop-number.number ((c.args.workload.now.sites + 1) - c.loop-number.number) ((c.args.workload.now.sites + 1) - (c.loop-number.number + 1)) more (sym c.are_settled_at.ensures ∙ c.if-not-are_settled_at.true)) ∙ c.loop-number.invariant.rest

pub loop-number-preserved : goal.loop-number-preserved
loop-number-preserved c =
    let test = c.loop-number-test.true in
    let more : (c.args.workload.now.sites + 1) - c.loop-number.number ≡ suc ((c.args.workload.now.sites + 1) - (c.loop-number.number + 1)) = omega (arith, test) in
    record {
      least = omega arith;
      most = omega (arith, test);
      rest = all_step (λ s. list_all (is_settled c.args.workload.now (noted c.args.tables.now.history) s) (items c.args.workload.now)) site c.loop-number.number ((c.args.workload.now.sites + 1) - c.loop-number.number) ((c.args.workload.now.sites + 1) - (c.loop-number.number + 1)) more (sym c.are_settled_at.ensures ∙ c.if-not-are_settled_at.false) ∙ c.loop-number.invariant.rest;
    }
