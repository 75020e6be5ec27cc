use Rattle.std.proofs.Common.{◌≡◌, ◌≤◌, ◌-◌, vec_len, vec_capacity, replicate, []}
use Rattle.raid_faillock.proofs.locks.Locks.new.Given as goal

-- the sets so far are empty
abbrev pub invariant-loop-sets : goal.invariant-loop-sets
invariant-loop-sets l = record {
  sets : l.sets.items ≡ replicate (vec_len l.sets) [];
  room : vec_capacity l.sets ≡ l.items;
  most : vec_len l.sets ≤ l.items;
}

abbrev pub decreases-loop-sets : goal.decreases-loop-sets
decreases-loop-sets l = l.items - vec_len l.sets
