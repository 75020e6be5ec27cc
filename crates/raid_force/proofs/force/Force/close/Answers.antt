use Rattle.std.proofs.Common.{◌≤◌, sym, subst}
use Rattle.raid_force.specs.Lasting.{wanted}
use Rattle.raid_force.proofs.Whole.{enough_whole}
use Rattle.raid_force.proofs.force.Force.close.Goals as goal

pub returns-clause-whole : goal.returns-clause-whole
returns-clause-whole g c = enough_whole (λ v. (g.dyn-1.0.entry v).1) c.gather.result.slots.items (λ k t. subst (λ n. wanted t ≤ n) (sym (c.gather.ensures.lasting k t)) (c.requires.racked.1.enough k t))
