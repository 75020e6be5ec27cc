use Rattle.std.proofs.Common.{◌≡◌, ◌+◌, ◌-◌, suc, arith, sym, ◌∙◌}
use Rattle.std.specs.List.{list_any}
use Rattle.raid_base.specs.Sites.{site}
use Rattle.raid_workload.specs.Parts.{txns}
use Rattle.raid_rules.specs.Sessions.{owes}
use Rattle.raid_rules.specs.History.{noted}
use Rattle.raid_check.proofs.Counted.{any_step, any_stop}
use Rattle.raid_check.proofs.rest.is_any_owed.Goals as goal

pub returns-then-owes_any : goal.returns-then-owes_any
returns-then-owes_any c =
    let test = c.loop-number-test.true in
    let more : (c.args.workload.now.sites + 1) - c.loop-number.number ≡ suc ((c.args.workload.now.sites + 1) - (c.loop-number.number + 1)) = omega (arith, test) in
    sym (any_stop (λ s. list_any (owes (noted c.args.tables.now.history) s) (txns c.args.workload.now)) site c.loop-number.number ((c.args.workload.now.sites + 1) - c.loop-number.number) ((c.args.workload.now.sites + 1) - (c.loop-number.number + 1)) more (sym c.owes_any.ensures ∙ c.if-owes_any.true)) ∙ c.loop-number.invariant.rest

pub loop-number-preserved : goal.loop-number-preserved
loop-number-preserved c =
    let test = c.loop-number-test.true in
    let more : (c.args.workload.now.sites + 1) - c.loop-number.number ≡ suc ((c.args.workload.now.sites + 1) - (c.loop-number.number + 1)) = omega (arith, test) in
    record {
      least = omega arith;
      most = omega (arith, test);
      rest = any_step (λ s. list_any (owes (noted c.args.tables.now.history) s) (txns c.args.workload.now)) site c.loop-number.number ((c.args.workload.now.sites + 1) - c.loop-number.number) ((c.args.workload.now.sites + 1) - (c.loop-number.number + 1)) more (sym c.owes_any.ensures ∙ c.if-owes_any.false) ∙ c.loop-number.invariant.rest;
    }
