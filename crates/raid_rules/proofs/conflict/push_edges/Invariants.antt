use Rattle.std.proofs.Common.{◌≡◌, ◌++◌, map, filter, take}
use Rattle.raid_rules.specs.Conflict as words
use Rattle.raid_rules.proofs.conflict.push_edges.Given as goal

-- the edges to the actions so far are added
abbrev pub invariant-loop-second : goal.invariant-loop-second
invariant-loop-second l = l.edges ≡ l.initial.edges ++ map (λ b. (l.first.by, b.by)) (filter (words.precedes l.first) (take l.second-index l.actions))
