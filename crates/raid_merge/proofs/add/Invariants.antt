use Rattle.std.proofs.Common.{◌≡◌, ◌++◌, map, take}
use Rattle.raid_merge.specs.Gathered.{tag}
use Rattle.raid_merge.proofs.add.Given as goal

-- the steps so far have been added
abbrev pub invariant-loop-step : goal.invariant-loop-step
invariant-loop-step l = l.all.items ≡ l.initial.all.items ++ map (tag l.server) (take l.step-index l.journal)
