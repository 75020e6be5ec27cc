use Rattle.std.proofs.Common.{◌≡◌, map, filter, take}
use Rattle.std.specs.List.{flat_map}
use Rattle.raid_rules.specs.Conflict as words
use Rattle.raid_rules.proofs.conflict.edges_among.Given as goal

-- the edges from the actions so far
abbrev pub invariant-loop-first : goal.invariant-loop-first
invariant-loop-first l = l.edges ≡ flat_map (λ a. map (λ b. (a.by, b.by)) (filter (words.precedes a) l.actions)) (take l.first-index l.actions)
