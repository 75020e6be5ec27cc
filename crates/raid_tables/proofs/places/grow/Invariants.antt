use Rattle.std.proofs.Common.{◌≡◌, ◌≤◌, ◌+◌, ◌-◌, ℕ, vec_len, slice_index_or}
use Rattle.raid_tables.proofs.places.grow.Given as goal

-- the table says what it said
abbrev pub invariant-loop-blank : goal.invariant-loop-blank
invariant-loop-blank g l = record {
  same : (k : ℕ) → slice_index_or l.table.items k l.blank ≡ slice_index_or l.fn.table.items k l.blank;
  longer : vec_len l.fn.table ≤ vec_len l.table;
}

abbrev pub decreases-loop-blank : goal.decreases-loop-blank
decreases-loop-blank g l = l.place + 1 - vec_len l.table
