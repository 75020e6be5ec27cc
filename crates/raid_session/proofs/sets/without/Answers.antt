use Rattle.std.proofs.Common.{◌≡◌, ◌-◌, ◌*◌, ◌%◌, ◌^◌, List, filter, not, bit_and, subst}
use Rattle.raid_base.specs.declared.names.Site.{Site}
use Rattle.raid_base.specs.Names.{is_site}
use Rattle.raid_base.specs.Sites.{sites_of}
use Rattle.raid_session.proofs.Kept.{without_bit}
use Rattle.raid_session.proofs.sets.without.Goals as goal

pub returns : goal.returns
returns c =
    subst (λ (a : List Site). sites_of (bit_and c.sites.inside.0 (255 - 1 * 2 ^ (c.args.site.0 - 1) % 256)) ≡ filter (λ r. not (is_site c.args.site r)) a) c.sites.view_is
    (without_bit c.sites.inside.0 c.args.site c.requires.least c.requires.most)
