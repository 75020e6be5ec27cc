use Rattle.std.proofs.Common.{◌≡◌, ◌++◌, ◌-◌, replicate}
use Rattle.raid_world.proofs.opening.all_first.Given as goal

-- so many sessions are first ones
abbrev pub invariant-loop-k : goal.invariant-loop-k
invariant-loop-k l = l.sessions ≡ replicate l.k 1 ++ replicate (8 - l.k) 0
