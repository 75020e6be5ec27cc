use Rattle.std.proofs.Common.{◌<◌, ◌+◌, ◌++◌, ◌∷◌, [], ap, arith, subst, sym, ◌∙◌}
use Rattle.raid_steps.specs.World.{link, set_link}
use Rattle.raid_world.proofs.Starting.{Opened, opened_none, opened_more, opened_all}
use Rattle.raid_world.proofs.opening.open_links.Goals as goal

pub loop-k-init : goal.loop-k-init
loop-k-init c = subst (Opened c.args.workload.now 0) (sym c.in_ok-links.ensures) (opened_none c.args.workload.now)

pub loop-k-preserved : goal.loop-k-preserved
loop-k-preserved c =
    let w = c.args.workload.now in
    let k = c.loop-k.k in
    let links = c.loop-k.links in
    let below : c.loop-k.k < w.sites = omega (arith, c.loop-k-test.true) in
    subst (Opened w (k + 1)) (sym (c.in_ok-push.ensures.ok ∙ ap (λ l. set_link links (k + 2) 1 (link links (k + 2) 1 ++ l ∷ [])) c.welcome-letter.ensures))
    (opened_more w k below links c.loop-k.invariant)

pub returns-clause-are : goal.returns-clause-are
returns-clause-are c = opened_all c.args.workload.now c.loop-k.k c.loop-k.links (omega (arith, c.loop-k-test.false)) c.loop-k.invariant
