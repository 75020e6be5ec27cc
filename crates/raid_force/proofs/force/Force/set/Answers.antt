use Rattle.std.proofs.lemmas.Bool.{OnTrue_at}
use Rattle.raid_force.proofs.Racked.{generic_first}
use Rattle.raid_force.proofs.force.Force.set.Goals as goal

pub returns-clause-turned : goal.returns-clause-turned
returns-clause-turned g c =
    OnTrue_at (generic_first (λ v. (g.dyn-1.0.entry v).1) c.args.self.now c.requires.racked c.turn_generic.result c.turn_generic.ensures.answers) c.turn_generic.ensures.turned
