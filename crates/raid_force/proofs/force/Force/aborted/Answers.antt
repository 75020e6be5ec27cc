use Rattle.raid_force.proofs.Told.{aborts_so, if_ok}
use Rattle.raid_force.proofs.force.Force.aborted.Goals as goal

pub returns : goal.returns
returns g c =
    if_ok c.abort_list.result (λ ts says w k l goes s. aborts_so (λ v. (g.dyn-1.0.entry v).1) w c.args.history.now c.args.self.now k c.args.kind c.args.method l goes s c.running.result.now c.running.ensures.has c.running.ensures.ascends c.old.result.now c.old.ensures ts says) c.abort_list.ensures
