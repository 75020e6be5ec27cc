use Rattle.std.proofs.Common.{◌≡◌, true, take}
use Rattle.raid_driver.specs.Drive.{may_ask}
use Rattle.raid_driver.proofs.tasks.may_ask.Given as goal

-- those so far may ask
abbrev pub invariant-loop-task : goal.invariant-loop-task
invariant-loop-task l = may_ask (take l.task-index l.tasks) ≡ true
