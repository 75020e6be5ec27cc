use Rattle.std.proofs.Common.{arith, ◌∙◌}
use Rattle.raid_conflict.proofs.graph.Graph.note.Goals as goal

pub invariant_of-self-2 : goal.invariant_of-self-2
invariant_of-self-2 c = (
  c.make_places-2.ensures.found ∙ c.make_places.ensures.found ∙ c.self.invariant.0,
  omega (arith, c.note.ensures.few, c.self.invariant.1, c.places_of.ensures, c.in_ok-make_places.ensures.ok, c.make_places-2.ensures.more),
  λ t i.
      c.note.ensures.within c.make_places-2.new.self.1
      (λ u h. omega (arith, c.self.invariant.2 u h, c.make_places.ensures.more, c.make_places-2.ensures.more))
      (omega (arith, c.place_of.ensures.is, c.in_ok-make_places-2.ensures.ok)) t i,
)
