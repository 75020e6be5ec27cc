use Rattle.raid_driver.proofs.Kept.{keeps_without}
use Rattle.raid_driver.proofs.driver.Driver.ended.Goals as goal

pub invariant_of-self : goal.invariant_of-self
invariant_of-self c =
    let kept = c.self.invariant in
    (λ live. keeps_without c.args.txn c.self.inside.tasks.items _ c.self.inside.running c.self.inside.prepared _ _ c.remove.ensures c.remove-2.ensures c.remove-3.ensures (kept.0 live), kept.1, kept.2)
