use Rattle.std.proofs.Common.{◌≡◌, ◌==◌, ◌<◌, ℕ, [], drop, length}
use Rattle.std.specs.Prelude.{slice_index_or}
use Rattle.std.specs.List.{list_all}
use Rattle.raid_links.proofs.row.first_full.Given as goal

-- those so far are empty
abbrev pub invariant-loop-k : goal.invariant-loop-k
invariant-loop-k l = record {
  rest : list_all (λ queue. length queue == 0) (drop l.k l.queues) ≡ list_all (λ queue. length queue == 0) l.queues;
  before : (k : ℕ) → k < l.k → slice_index_or l.queues k [] ≡ [];
}
