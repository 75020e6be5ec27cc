use Rattle.std.proofs.Common.{◌≡◌, drop}
use Rattle.raid_driver.specs.Drive.{task_of}
use Rattle.raid_driver.proofs.tasks.place_of.Given as goal

-- those so far are of others
abbrev pub invariant-loop-k : goal.invariant-loop-k
invariant-loop-k l = task_of (drop l.k l.tasks) l.txn ≡ task_of l.tasks l.txn
