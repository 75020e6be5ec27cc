use Rattle.std.proofs.Common.{◌≡◌, ◌≤◌, ◌+◌, ◌-◌, ℕ, vec_len, max}
use Rattle.raid_conflict.specs.Tables.{chain_at, room}
use Rattle.raid_conflict.proofs.chains.grow.Given as goal

-- each chain is as it was
abbrev pub invariant-loop-alloc : goal.invariant-loop-alloc
invariant-loop-alloc l = record {
  same : (k : ℕ) → chain_at l.chains.items k ≡ chain_at l.fn.chains.items k;
  rooms : (k : ℕ) → room l.fn.chains.items k ≤ room l.chains.items k;
  few : vec_len l.chains ≤ max (vec_len l.fn.chains) (l.place + 1);
}

abbrev pub decreases-loop-alloc : goal.decreases-loop-alloc
decreases-loop-alloc l = l.place + 1 - vec_len l.chains
