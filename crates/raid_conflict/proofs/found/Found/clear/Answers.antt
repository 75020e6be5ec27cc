use Rattle.std.proofs.Common.{arith, sym, subst}
use Rattle.std.proofs.lemmas.Grind.{common_steps}
use Rattle.raid_conflict.specs.Found.{Agrees}
use Rattle.raid_conflict.proofs.Marks.{agrees_none}
use Rattle.raid_conflict.proofs.found.Found.clear.Goals as goal

pub invariant_of-self : goal.invariant_of-self
invariant_of-self c = (
  subst (λ ts. Agrees c.unmark.new.marks.items ts) (sym c.clear.ensures.items) (agrees_none c.self.inside.marks.items c.unmark.new.marks.items c.self.inside.list.items c.self.invariant.0 (λ t. grind (arith, common_steps, c.unmark.ensures.marks t, c.as_slice.ensures.value))),
  omega (arith, c.unmark.ensures.same, c.clear.ensures.capacity, c.self.invariant.1),
)
