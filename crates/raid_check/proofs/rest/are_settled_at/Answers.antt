use Rattle.std.proofs.Common.{◌≡◌, ◌+◌, ◌-◌, suc, length, arith, sym, ◌∙◌}
use Rattle.raid_base.specs.declared.names.Item.{Item}
use Rattle.raid_legal.specs.Switched.{is_settled}
use Rattle.raid_rules.specs.History.{noted}
use Rattle.raid_check.proofs.Counted.{all_step, all_stop}
use Rattle.raid_check.proofs.rest.are_settled_at.Goals as goal

pub returns-then-not-is_settled : goal.returns-then-not-is_settled
returns-then-not-is_settled c =
    let test = c.loop-place-test.true in
    let more : length c.args.workload.now.items - c.loop-place.place ≡ suc (length c.args.workload.now.items - (c.loop-place.place + 1)) = omega (arith, test, c.len-place-end.ensures) in
    sym (all_stop (is_settled c.args.workload.now (noted c.args.tables.now.history) c.args.site) (λ k. let x : Item = record { 0 = k } in x) c.loop-place.place (length c.args.workload.now.items - c.loop-place.place) (length c.args.workload.now.items - (c.loop-place.place + 1)) more (sym c.is_settled.ensures ∙ c.if-not-is_settled.true)) ∙ c.loop-place.invariant.rest

pub loop-place-preserved : goal.loop-place-preserved
loop-place-preserved c =
    let test = c.loop-place-test.true in
    let more : length c.args.workload.now.items - c.loop-place.place ≡ suc (length c.args.workload.now.items - (c.loop-place.place + 1)) = omega (arith, test, c.len-place-end.ensures) in
    record {
      most = omega (arith, test, c.len-place-end.ensures);
      rest = all_step (is_settled c.args.workload.now (noted c.args.tables.now.history) c.args.site) (λ k. let x : Item = record { 0 = k } in x) c.loop-place.place (length c.args.workload.now.items - c.loop-place.place) (length c.args.workload.now.items - (c.loop-place.place + 1)) more (sym c.is_settled.ensures ∙ c.if-not-is_settled.false) ∙ c.loop-place.invariant.rest;
    }
