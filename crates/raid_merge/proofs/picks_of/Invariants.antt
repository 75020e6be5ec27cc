use Rattle.std.proofs.Common.{◌≡◌, map, take}
use Rattle.raid_merge.specs.Merged.{pick_of}
use Rattle.raid_merge.proofs.picks_of.Given as goal

-- the picks of the steps so far
abbrev pub invariant-loop-taken : goal.invariant-loop-taken
invariant-loop-taken l = l.picks ≡ map pick_of (take l.taken-index l.all)
