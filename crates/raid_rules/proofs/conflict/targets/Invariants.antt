use Rattle.std.proofs.Common.{◌≡◌, ◌∷◌, take}
use Rattle.raid_rules.specs.Conflict as words
use Rattle.raid_rules.proofs.conflict.targets.Given as goal

-- the targets of the edges so far
abbrev pub invariant-loop-from : goal.invariant-loop-from
invariant-loop-from l = l.targets ≡ words.targets (take l.from-index l.pairs) (l.txn ∷ l.found)
