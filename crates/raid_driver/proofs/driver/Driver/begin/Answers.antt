use Rattle.std.proofs.Common.{ap, ◌∙◌}
use Rattle.raid_driver.specs.Drive.{txns_of, done_of}
use Rattle.raid_driver.proofs.Kept.{keeps_put}
use Rattle.raid_driver.proofs.driver.Driver.begin.Goals as goal

pub invariant_of-self-2 : goal.invariant_of-self-2
invariant_of-self-2 c =
    let kept = c.self.invariant in (
      λ live. keeps_put _ c.self.inside.tasks.items c.begin.new.tasks.items _ _ c.in_ok-begin.ensures.tasks (kept.0 c.if-self.false).ascends
          (c.in_ok-self-inside.ensures ∙ ap txns_of c.as_slice.ensures.value) (c.in_ok-self-inside-2.ensures ∙ ap done_of c.as_slice-2.ensures.value),
      kept.1,
      kept.2,
    )
