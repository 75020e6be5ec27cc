use Rattle.std.proofs.Common.{◌≡◌, ◌≤◌, ◌-◌, max, vec_len}
use Rattle.std.specs.List.{count_by}
use Rattle.raid_base.specs.declared.names.Txn.{Txn}
use Rattle.raid_conflict.specs.Found.{is_marked}
use Rattle.raid_conflict.proofs.found.make_marks.Given as goal

-- the same are marked
abbrev pub invariant-loop-marks : goal.invariant-loop-marks
invariant-loop-marks l = record {
  same : (t : Txn) → is_marked l.marks.items t ≡ is_marked l.fn.marks.items t;
  counted : count_by (λ b. b) l.marks.items ≡ count_by (λ b. b) l.fn.marks.items;
  more : vec_len l.fn.marks ≤ vec_len l.marks;
  few : vec_len l.marks ≤ max (vec_len l.fn.marks) l.places;
}

abbrev pub decreases-loop-marks : goal.decreases-loop-marks
decreases-loop-marks l = l.places - vec_len l.marks
