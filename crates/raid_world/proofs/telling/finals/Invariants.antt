use Rattle.std.proofs.Common.{◌≡◌, map}
use Rattle.raid_rules.specs.History.{noted}
use Rattle.raid_legal.specs.Seen.{value_of}
use Rattle.raid_world.proofs.Told.{items_below}
use Rattle.raid_world.proofs.telling.finals.Given as goal

-- the items so far have been listed
abbrev pub invariant-loop-k : goal.invariant-loop-k
invariant-loop-k l = l.pairs ≡ map (λ x. (x, value_of l.workload (noted l.history) x)) (items_below l.k)
