use Rattle.std.proofs.Common.{◌+◌, ◌≤◌, ◌==◌, length}
use Rattle.std.specs.Prelude.{count_by}
use Rattle.raid_cycles.specs.Marks.{member_at, AreMarked}
use Rattle.raid_cycles.proofs.marks.settle.Given as goal

-- the marks reach so far, and each round marks one more at least
abbrev pub invariant-loop-most : goal.invariant-loop-most
invariant-loop-most g l = record {
  marked : AreMarked l.members (g.G.Graph.edges l.graph) (member_at l.members l.place) l.most l.marks;
  few : l.most + count_by (λ m. m == 0) l.marks ≤ length l.members + 1;
}
