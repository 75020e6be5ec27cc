use Rattle.std.proofs.Common.{◌≡◌, ◌+◌, ◌-◌, ℕ, [], vec_len, slice_index_or}
use Rattle.raid_faillock.proofs.debts.grow_sets.Given as goal

-- the table says what it said
abbrev pub invariant-loop-table : goal.invariant-loop-table
invariant-loop-table l = (k : ℕ) → slice_index_or l.table.items k [] ≡ slice_index_or l.fn.table.items k []

abbrev pub decreases-loop-table : goal.decreases-loop-table
decreases-loop-table l = l.place + 1 - vec_len l.table
