use Rattle.raid_base.proofs.Bits.{with_site}
use Rattle.raid_base.proofs.sites.Sites.with.Goals as goal

pub returns : goal.returns
returns c = rw (← c.self.view_is) (with_site c.self.inside.0 c.args.site.0 c.self.invariant c.requires.least c.requires.most)
