use Rattle.std.proofs.Common.{◌≡◌, ◌<◌, ◌≤◌, ◌&&◌, not, ℕ, false, vec_len, slice_index_or}
use Rattle.raid_base.specs.Names.{is_site}
use Rattle.raid_workload.specs.Parts.{home}
use Rattle.raid_record.proofs.First.{txn}
use Rattle.raid_record.proofs.left.lose.Given as goal

-- the marks so far are taken where the site was the home, and the others are as they were
abbrev pub invariant-loop-k : goal.invariant-loop-k
invariant-loop-k l = record {
  same : vec_len l.marks ≡ vec_len l.fn.marks;
  done : (j : ℕ) → j < l.k → slice_index_or l.marks.items j false ≡ (slice_index_or l.fn.marks.items j false && not (is_site l.site (home l.workload (txn j))));
  rest : (j : ℕ) → l.k ≤ j → slice_index_or l.marks.items j false ≡ slice_index_or l.fn.marks.items j false;
}
