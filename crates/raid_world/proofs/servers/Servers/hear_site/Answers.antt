use Rattle.std.proofs.Common.{◌≡◌, ◌-◌, ◌<◌, suc, length, refl, arith}
use Rattle.std.specs.Vec.{with_item}
use Rattle.raid_world.proofs.Shape.{get_is}
use Rattle.raid_world.proofs.Serving.{site_state, site_outs, site_goes, site_counts}
use Rattle.raid_world.proofs.servers.Servers.hear_site.Goals as goal

pub returns-clause-state : goal.returns-clause-state
returns-clause-state g c =
    let s = c.args.self.now in
    let k = c.args.server - 2 in
    let number : c.args.server ≡ suc (suc (c.args.server - 2)) = omega (arith, c.requires.site) in
    let below : c.args.server - 2 < length s.sites.items = omega (arith, c.requires.site, c.requires.server, c.requires.go.count) in
    let at = get_is s.sites.items k c.index_mut.result.now below c.index_mut.ensures.value in
    site_state c.args.workload.now s _ c.args.server k number c.index_mut.result.now c.hear.new.self at refl refl refl c.args.from c.args.letter.now c.hear.result c.hear.ensures.step

pub returns-clause-outs : goal.returns-clause-outs
returns-clause-outs g c =
    let s = c.args.self.now in
    let k = c.args.server - 2 in
    let number : c.args.server ≡ suc (suc (c.args.server - 2)) = omega (arith, c.requires.site) in
    let below : c.args.server - 2 < length s.sites.items = omega (arith, c.requires.site, c.requires.server, c.requires.go.count) in
    let at = get_is s.sites.items k c.index_mut.result.now below c.index_mut.ensures.value in
    site_outs c.args.workload.now s s c.args.server k number c.index_mut.result.now c.hear.new.self at c.args.from c.args.letter.now c.hear.result c.hear.ensures.step

pub returns-clause-go : goal.returns-clause-go
returns-clause-go g c =
    let s = c.args.self.now in
    let k = c.args.server - 2 in
    let number : c.args.server ≡ suc (suc (c.args.server - 2)) = omega (arith, c.requires.site) in
    let below : c.args.server - 2 < length s.sites.items = omega (arith, c.requires.site, c.requires.server, c.requires.go.count) in
    let at = get_is s.sites.items k c.index_mut.result.now below c.index_mut.ensures.value in
    site_goes c.args.workload.now s _ c.args.server k number c.index_mut.result.now c.hear.new.self at refl refl refl _ c.hear.result c.requires.go c.hear.ensures.run c.hear.ensures.after

pub returns-clause-heard : goal.returns-clause-heard
returns-clause-heard g c =
    let s = c.args.self.now in
    let k = c.args.server - 2 in
    let number : c.args.server ≡ suc (suc (c.args.server - 2)) = omega (arith, c.requires.site) in
    let below : c.args.server - 2 < length s.sites.items = omega (arith, c.requires.site, c.requires.server, c.requires.go.count) in
    let at = get_is s.sites.items k c.index_mut.result.now below c.index_mut.ensures.value in
    site_counts c.args.workload.now s (record { monitor = s.monitor; sequencer = s.sequencer; sites = with_item s.sites (c.args.server - 2) c.hear.new.self }) c.args.server k number c.index_mut.result.now c.hear.new.self at refl refl refl c.hear.result below c.hear.ensures.count
