use Rattle.std.proofs.Common.{◌≡◌, ◌+◌, ◌-◌, ℕ, vec_len}
use Rattle.raid_tables.specs.Rows.{row_of}
use Rattle.raid_tables.proofs.rows.grow_rows.Given as goal

-- the rows are what they were
abbrev pub invariant-loop-alloc : goal.invariant-loop-alloc
invariant-loop-alloc g l = (k : ℕ) → row_of l.rows.items k ≡ row_of l.fn.rows.items k

abbrev pub decreases-loop-alloc : goal.decreases-loop-alloc
decreases-loop-alloc g l = l.place + 1 - vec_len l.rows
