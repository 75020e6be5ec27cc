use Rattle.std.proofs.Common.{List, subst, ◌≡◌, filter}
use Rattle.raid_base.specs.declared.names.Site.{Site}
use Rattle.raid_base.specs.Names.{has_site}
use Rattle.raid_base.specs.Sites.{all_sites}
use Rattle.raid_session.proofs.Kept.{set_again}
use Rattle.raid_session.proofs.sets.ascends.Goals as goal

pub returns : goal.returns
returns c = subst (λ (a : List Site). filter (has_site a) all_sites ≡ a) c.sites.view_is (set_again c.sites.inside.0)
