use Rattle.std.proofs.Common.{◌≡◌, [], ◌∷◌, fold, take}
use Rattle.raid_rules.specs.Conflict as words
use Rattle.raid_rules.proofs.conflict.reached.Given as goal

-- what the rounds so far have found
abbrev pub invariant-loop-round : goal.invariant-loop-round
invariant-loop-round l = l.found ≡ fold (λ found e. words.targets l.pairs (l.txn ∷ found)) [] (take l._round-index l.pairs)
