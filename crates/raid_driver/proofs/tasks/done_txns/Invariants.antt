use Rattle.std.proofs.Common.{◌≡◌, take}
use Rattle.raid_driver.specs.Drive.{done_of}
use Rattle.raid_driver.proofs.tasks.done_txns.Given as goal

-- those so far that are done are listed
abbrev pub invariant-loop-task : goal.invariant-loop-task
invariant-loop-task l = l.list ≡ done_of (take l.task-index l.tasks)
