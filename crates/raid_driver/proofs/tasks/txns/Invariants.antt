use Rattle.std.proofs.Common.{◌≡◌, take}
use Rattle.raid_driver.specs.Drive.{txns_of}
use Rattle.raid_driver.proofs.tasks.txns.Given as goal

-- those so far are listed
abbrev pub invariant-loop-task : goal.invariant-loop-task
invariant-loop-task l = l.list ≡ txns_of (take l.task-index l.tasks)
