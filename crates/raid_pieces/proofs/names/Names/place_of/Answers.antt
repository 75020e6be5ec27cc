use Rattle.std.proofs.Common.{◌∙◌}
use Rattle.raid_pieces.proofs.Keys.{place_is, place_within}
use Rattle.raid_pieces.proofs.names.Names.place_of.Goals as goal

pub returns-clause-place : goal.returns-clause-place
returns-clause-place c = c.get_index_of.ensures.index ∙ place_is c.args.name.now (λ k. k.now) c.self.inside.set.keys c.args.self.now c.self.view_is

pub returns-clause-within : goal.returns-clause-within
returns-clause-within c = place_within c.args.self.now c.args.name.now c.get_index_of.result (c.get_index_of.ensures.index ∙ place_is c.args.name.now (λ k. k.now) c.self.inside.set.keys c.args.self.now c.self.view_is)
