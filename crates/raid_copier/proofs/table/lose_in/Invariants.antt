use Rattle.std.proofs.Common.{◌≡◌, ◌<◌, ◌≤◌, ◌+◌, ◌%◌, ℕ, None, vec_len, slice_index_or}
use Rattle.raid_base.specs.Sites.{site}
use Rattle.raid_copier.specs.Copiers as words
use Rattle.raid_copier.proofs.table.lose_in.Given as goal

-- the places so far are changed, and the others as they were
abbrev pub invariant-loop-k : goal.invariant-loop-k
invariant-loop-k l = record {
  same : vec_len l.table ≡ vec_len l.fn.table;
  done : (j : ℕ) → j < l.k → slice_index_or l.table.items j None ≡ words.left l.lost (site (j % 8 + 1)) (slice_index_or l.fn.table.items j None);
  rest : (j : ℕ) → l.k ≤ j → slice_index_or l.table.items j None ≡ slice_index_or l.fn.table.items j None;
}
