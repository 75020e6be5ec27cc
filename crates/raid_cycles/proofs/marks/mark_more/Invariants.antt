use Rattle.raid_cycles.proofs.Marking.{Round}
use Rattle.raid_cycles.proofs.marks.mark_more.Given as goal

-- those that lead to the places so far are marked
abbrev pub invariant-loop-k : goal.invariant-loop-k
invariant-loop-k g l = Round l.members (g.G.Graph.edges l.graph) l.most l.next l.initial.marks l.k l.marks l.found
