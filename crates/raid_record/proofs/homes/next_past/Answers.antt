use Rattle.std.proofs.Common.{◌<◌, ◌≤◌, length, sym, arith, ◌∙◌}
use Rattle.raid_rules.specs.History.{noted}
use Rattle.raid_record.proofs.Next.{begins_after, passes, is_next, none_left}
use Rattle.raid_record.proofs.homes.next_past.Goals as goal

pub loop-k-init : goal.loop-k-init
loop-k-init c = begins_after c.args.workload.now (noted c.args.history.now) c.args.site c.args.after

pub returns-then-is_open : goal.returns-then-is_open
returns-then-is_open c =
    let below : c.loop-k.k < length c.args.workload.now.programs = omega (arith, c.loop-k-test.true, c.len-k-end.ensures) in
    sym (is_next c.args.workload.now (noted c.args.history.now) c.args.site c.args.after c.loop-k.k c.get.result.now c.get.ensures below c.loop-k.auto.k (sym c.is_open.ensures ∙ c.if-is_open.true)) ∙ c.loop-k.invariant

pub loop-k-preserved : goal.loop-k-preserved
loop-k-preserved c =
    let below : c.loop-k.k < length c.args.workload.now.programs = omega (arith, c.loop-k-test.true, c.len-k-end.ensures) in
    passes c.args.workload.now (noted c.args.history.now) c.args.site c.args.after c.loop-k.k c.get.result.now c.get.ensures below c.loop-k.auto.k (sym c.is_open.ensures ∙ c.if-is_open.false) ∙ c.loop-k.invariant

pub returns : goal.returns
returns c =
    let all : length c.args.workload.now.programs ≤ c.loop-k.k = omega (arith, c.loop-k-test.false, c.len-k-end.ensures) in
    sym (none_left c.args.workload.now (noted c.args.history.now) c.args.site c.args.after c.loop-k.k all) ∙ c.loop-k.invariant
