use Rattle.std.proofs.Common.{◌≡◌, ◌++◌, take, drop, map}
use Rattle.std.specs.List.{flat_map}
use Rattle.raid_driver.specs.Drive.{lost, lost_outs}
use Rattle.raid_driver.proofs.tasks.lose.Given as goal

-- those so far have lost what the site was to serve
abbrev pub invariant-loop-k : goal.invariant-loop-k
invariant-loop-k l = record {
  tasks : l.tasks ≡ map (lost l.site) (take l.k l.fn.tasks) ++ drop l.k l.fn.tasks;
  outs : l.outs ≡ l.fn.outs ++ flat_map (lost_outs l.site) (take l.k l.fn.tasks);
}
