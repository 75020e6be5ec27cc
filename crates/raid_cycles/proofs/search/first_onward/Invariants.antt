use Rattle.std.proofs.Common.{◌≡◌, ℕ, ◌<◌, true}
use Rattle.std.specs.Prelude.{slice_index}
use Rattle.raid_cycles.specs.Marks.{member_at}
use Rattle.raid_cycles.proofs.search.first_onward.Given as goal

-- none of the places so far
abbrev pub invariant-loop-k : goal.invariant-loop-k
invariant-loop-k g l = (k : ℕ) → k < l.k → slice_index l.marks k ≡ l.mark → g.G.Graph.edges l.graph l.from (member_at l.members k) ≡ true → ⊥
