use Rattle.std.proofs.Common.{◌≡◌, ◌<◌, ◌++◌, List, length}
use Rattle.std.specs.Prelude.{slice_index}
use Rattle.raid_base.specs.declared.names.Txn.{Txn}
use Rattle.raid_cycles.specs.Cycles.{IsLeastCycle}
use Rattle.raid_cycles.specs.Marks.{member_at}
use Rattle.raid_cycles.proofs.Walking.{IsLeastWay}
use Rattle.raid_cycles.proofs.search.follow.Given as goal

-- with the least way from its last member the cycle is the least
abbrev pub invariant-loop-edges : goal.invariant-loop-edges
invariant-loop-edges g l = record {
  place : l.last < length l.members;
  mark : slice_index l.marks l.last ≡ l.edges;
  some : 0 < l.edges;
  grows : (tail : List Txn) → IsLeastWay l.members (g.G.Graph.edges l.graph) (member_at l.members l.place) (member_at l.members l.last) l.edges tail →
      IsLeastCycle l.members (g.G.Graph.edges l.graph) (member_at l.members l.place) (l.cycle ++ tail);
}

abbrev pub decreases-loop-edges : goal.decreases-loop-edges
decreases-loop-edges g l = l.edges
