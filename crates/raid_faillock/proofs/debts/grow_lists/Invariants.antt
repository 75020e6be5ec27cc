use Rattle.std.proofs.Common.{◌≡◌, ◌+◌, ◌-◌, ℕ, [], vec_len, slice_index_or}
use Rattle.raid_faillock.proofs.debts.grow_lists.Given as goal

-- the table says what it said
abbrev pub invariant-loop-alloc : goal.invariant-loop-alloc
invariant-loop-alloc l = (k : ℕ) → slice_index_or l.table.items k [] ≡ slice_index_or l.fn.table.items k []

abbrev pub decreases-loop-alloc : goal.decreases-loop-alloc
decreases-loop-alloc l = l.place + 1 - vec_len l.table
