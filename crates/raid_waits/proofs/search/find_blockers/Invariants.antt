use Rattle.std.proofs.Common.{◌≡◌, ◌<◌, ◌≤◌, ℕ, ◌||◌, length, map}
use Rattle.raid_waits.specs.Waiting.{Test}
use Rattle.raid_waits.specs.Marks.{is_found, is_followed, mark_at, request_at}
use Rattle.raid_waits.proofs.search.find_blockers.Given as goal

-- the marks before the index say what they said, or that the request blocks the waiter
abbrev pub invariant-loop-k : goal.invariant-loop-k
invariant-loop-k g l = record {
  length : length l.marks ≡ length l.initial.marks;
  followed : map is_followed l.marks ≡ map is_followed l.initial.marks;
  found : (test : Test) → g.B.Blocks.says l.blocks test → (k : ℕ) → k < l.k → is_found (mark_at l.marks k) ≡ (is_found (mark_at l.initial.marks k) || test (request_at l.held k).0 l.waiter l.writes);
  rest : (k : ℕ) → l.k ≤ k → mark_at l.marks k ≡ mark_at l.initial.marks k;
}
