use Rattle.std.proofs.Common.{◌≡◌, cond, map, take}
use Rattle.raid_cycles.proofs.marks.first_marks.Given as goal

-- the marks of the members so far
abbrev pub invariant-loop-member : goal.invariant-loop-member
invariant-loop-member g l = l.marks.items ≡ map (λ t. cond (g.G.Graph.edges l.graph t l.start) 1 0) (take l.member-index l.members)
