use Rattle.std.proofs.Common.{◌≡◌, ◌++◌, take, drop}
use Rattle.raid_driver.specs.Drive.{put_task}
use Rattle.raid_driver.proofs.tasks.put.Given as goal

-- those so far are of smaller numbers, and nothing has changed
abbrev pub invariant-loop-k : goal.invariant-loop-k
invariant-loop-k l = record {
  smaller : take l.k l.tasks.items ++ put_task l.task (drop l.k l.tasks.items) ≡ put_task l.task l.fn.tasks.items;
  same : l.tasks ≡ l.fn.tasks;
}
