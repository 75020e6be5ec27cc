use Rattle.raid_conflict.proofs.Extend.{may_extend}
use Rattle.raid_conflict.proofs.Stand.{on_ok}
use Rattle.raid_generic.proofs.control.GenericControlController.note.Goals as goal

pub returns-clause-ok : goal.returns-clause-ok
returns-clause-ok c = on_ok c.add.result (λ f view known may. f view known (may_extend c.args.self.now.kind view _ may)) c.add.ensures.ok
