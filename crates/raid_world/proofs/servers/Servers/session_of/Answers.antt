use Rattle.std.proofs.Common.{◌≡◌, ◌-◌, ◌<◌, suc, length, arith, ◌∙◌}
use Rattle.raid_world.proofs.Shape.{get_is}
use Rattle.raid_world.proofs.Serving.{session_is}
use Rattle.raid_world.proofs.servers.Servers.session_of.Goals as goal

pub returns : goal.returns
returns g c = λ s are.
    let sites = c.args.self.now.sites.items in
    let below : c.args.server - 2 < length sites = omega (arith, c.if-server-len.false, c.len.ensures) in
    let number : c.args.server ≡ suc (suc (c.args.server - 2)) = omega (arith, c.if-server-lt2.false) in
    c.session.ensures
    ∙ session_is c.args.self.now c.args.server (c.args.server - 2) number c.index.result.now
    (get_is sites (c.args.server - 2) c.index.result.now below c.index.ensures) s are
