use Rattle.std.proofs.Common.{sym}
use Rattle.raid_force.proofs.Racked.{of_same, generic_method}
use Rattle.raid_force.proofs.force.Force.turn.Goals as goal

pub set-requires-clause-racked : goal.set-requires-clause-racked
set-requires-clause-racked g c = of_same (λ v. (g.dyn-1.0.entry v).1) c.args.self.now _ _ (generic_method c.args.structure c.args.method c.requires.fits c.in-Generic.is) c.requires.racked

pub returns-in-Generic-clause-racked : goal.returns-in-Generic-clause-racked
returns-in-Generic-clause-racked g c = of_same (λ v. (g.dyn-1.0.entry v).1) _ _ _ (sym (generic_method c.args.structure c.args.method c.requires.fits c.in-Generic.is)) c.set.ensures.racked
