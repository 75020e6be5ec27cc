use Rattle.std.proofs.Common.{◌≡◌, ◌-◌, List, filter, ◌&&◌, not, bit_and, subst}
use Rattle.raid_base.specs.declared.names.Site.{Site}
use Rattle.raid_base.specs.Names.{has_site}
use Rattle.raid_base.specs.Sites.{all_sites, sites_of}
use Rattle.raid_session.proofs.Kept.{difference_bits}
use Rattle.raid_session.proofs.sets.difference.Goals as goal

pub returns : goal.returns
returns c =
    let bits = bit_and c.first.inside.0 (255 - c.second.inside.0) in
    subst (λ (b : List Site). sites_of bits ≡ filter (λ s. has_site c.args.first s && not (has_site b s)) all_sites) c.second.view_is
    (subst (λ (a : List Site). sites_of bits ≡ filter (λ s. has_site a s && not (has_site (sites_of c.second.inside.0) s)) all_sites) c.first.view_is
    (difference_bits c.first.inside.0 c.second.inside.0 c.second.invariant))
