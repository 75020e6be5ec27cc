use Rattle.std.proofs.Common.{ap, sym, ◌∙◌, subst, List}
use Rattle.raid_base.specs.declared.names.Txn.{Txn}
use Rattle.raid_driver.specs.Drive.{Drive, Ascends}
use Rattle.raid_driver.proofs.Kept.{done_ascends}
use Rattle.raid_driver.proofs.driver.Driver.prepared.Goals as goal

pub returns-clause-ascends : goal.returns-clause-ascends
returns-clause-ascends c live =
    let k = c.self.invariant.0 (ap (λ (d : Drive). d.finished) c.self.view_is ∙ live) in
    subst (λ (ts : List Txn). Ascends ts) (sym k.done) (done_ascends c.self.inside.tasks.items k.ascends)
