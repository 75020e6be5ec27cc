use Rattle.std.proofs.Common.{◌+◌, List, subst, sym}
use Rattle.raid_site.specs.declared.server.SiteServer.{SiteServer}
use Rattle.raid_world.specs.Stands.{AreFirst}
use Rattle.raid_world.proofs.Serving.{first_more}
use Rattle.raid_world.proofs.servers.sites.Goals as goal

pub loop-k-preserved : goal.loop-k-preserved
loop-k-preserved c =
    let n = c.in_ok-new.ensures in
    subst (AreFirst c.args.workload.now (c.loop-k.k + 1)) (sym {A = List SiteServer} c.in_ok-push.ensures.items)
    (first_more c.args.workload.now c.loop-k.k c.loop-k.sites.items c.in_ok-new.field-0 c.loop-k.invariant n.state n.run n.live n.heard)
