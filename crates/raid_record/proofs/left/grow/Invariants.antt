use Rattle.std.proofs.Common.{◌≡◌, ◌≤◌, ◌+◌, ◌-◌, ℕ, false, max, vec_len, slice_index_or}
use Rattle.raid_record.proofs.left.grow.Given as goal

-- the table says what it said
abbrev pub invariant-loop-marks : goal.invariant-loop-marks
invariant-loop-marks l = record {
  same : (k : ℕ) → slice_index_or l.marks.items k false ≡ slice_index_or l.fn.marks.items k false;
  few : vec_len l.marks ≤ max (vec_len l.fn.marks) (l.place + 1);
}

abbrev pub decreases-loop-marks : goal.decreases-loop-marks
decreases-loop-marks l = l.place + 1 - vec_len l.marks
