use Rattle.std.proofs.Common.{◌≡◌, ◌≤◌, ◌++◌, take, drop, length}
use Rattle.raid_conflict.specs.Search.{latest}
use Rattle.raid_conflict.proofs.search.latest.Given as goal

-- those from here on have larger numbers
abbrev pub invariant-loop-start : goal.invariant-loop-start
invariant-loop-start l = record {
  within : l.start ≤ length l.actions;
  late : latest l.at l.actions ≡ latest l.at (take l.start l.actions) ++ drop l.start l.actions;
}

abbrev pub decreases-loop-start : goal.decreases-loop-start
decreases-loop-start l = l.start
