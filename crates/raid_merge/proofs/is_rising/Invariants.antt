use Rattle.raid_merge.proofs.Rising.{RisesTo}
use Rattle.raid_merge.proofs.is_rising.Given as goal

-- the clocks rise so far
abbrev pub invariant-loop-k : goal.invariant-loop-k
invariant-loop-k l = RisesTo l.k l.journal
