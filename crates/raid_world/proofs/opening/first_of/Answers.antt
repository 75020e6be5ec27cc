use Rattle.std.proofs.Common.{◌<◌, ◌≤◌, length, sym, arith, ◌∙◌}
use Rattle.raid_driver.proofs.Follow.{begins_after, passes, is_next, none_left}
use Rattle.raid_world.proofs.opening.first_of.Goals as goal

pub loop-k-init : goal.loop-k-init
loop-k-init c = begins_after c.args.workload.now c.args.site 0 0 (omega arith)

pub returns-then-eq : goal.returns-then-eq
returns-then-eq c =
    let below : c.loop-k.k < length c.args.workload.now.programs = omega (arith, c.loop-k-test.true, c.len-k-end.ensures) in
    sym (is_next c.args.workload.now c.args.site 0 c.loop-k.k c.get.result.now c.get.ensures below (omega arith) (sym c.if-eq.ensures)) ∙ c.loop-k.invariant

pub loop-k-preserved : goal.loop-k-preserved
loop-k-preserved c =
    let below : c.loop-k.k < length c.args.workload.now.programs = omega (arith, c.loop-k-test.true, c.len-k-end.ensures) in
    passes c.args.workload.now c.args.site 0 c.loop-k.k c.get.result.now c.get.ensures below (sym c.if-eq.ensures) ∙ c.loop-k.invariant

pub returns : goal.returns
returns c =
    let all : length c.args.workload.now.programs ≤ c.loop-k.k = omega (arith, c.loop-k-test.false, c.len-k-end.ensures) in
    sym (none_left c.args.workload.now c.args.site 0 c.loop-k.k all) ∙ c.loop-k.invariant
