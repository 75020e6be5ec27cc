use Rattle.raid_cycles.specs.Marks.{member_at}
use Rattle.raid_cycles.proofs.Marking.{Scan}
use Rattle.raid_cycles.proofs.marks.mark_sources.Given as goal

-- the members so far are marked, and the others are as they were
abbrev pub invariant-loop-k : goal.invariant-loop-k
invariant-loop-k g l = Scan (λ k. g.G.Graph.edges l.graph (member_at l.members k) l.to) l.mark l.initial.marks l.k l.marks l.found
