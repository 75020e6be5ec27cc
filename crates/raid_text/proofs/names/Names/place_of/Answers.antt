use Rattle.std.proofs.Common.{◌∙◌}
use Rattle.raid_text.proofs.Keys.{place_is}
use Rattle.raid_text.proofs.names.Names.place_of.Goals as goal

pub returns-clause-place : goal.returns-clause-place
returns-clause-place c = c.get_index_of.ensures.index ∙ place_is c.args.name.now (λ k. k.now) c.self.inside.set.keys c.args.self.now c.self.view_is
