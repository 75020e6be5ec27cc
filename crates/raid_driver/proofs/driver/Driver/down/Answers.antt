use Rattle.std.proofs.Common.{arith, ◌∙◌}
use Rattle.std.proofs.lemmas.Grind.{common_steps}
use Rattle.raid_driver.proofs.Kept.{keeps_lost, written_back}
use Rattle.raid_driver.proofs.driver.Driver.down.Goals as goal

pub invariant_of-self-2 : goal.invariant_of-self-2
invariant_of-self-2 c =
    let kept = c.self.invariant in
    let back = written_back c.self.inside.tasks.items c.lose.new.tasks c.self.inside.tasks.len (grind (arith, common_steps, c.in_ok-lose.ensures.length)) (grind (arith, common_steps)) in
    (λ live. keeps_lost c.args.site c.self.inside.tasks.items _ c.self.inside.running c.self.inside.prepared (back ∙ grind (arith, common_steps, c.in_ok-lose.ensures.tasks)) (kept.0 c.if-self.false), kept.1, kept.2)
