use Rattle.std.proofs.Common.{◌≡◌, drop}
use Rattle.raid_base.specs.Find.{first_of}
use Rattle.raid_seen.proofs.answers.value_in.Given as goal

-- what is left has the answer
abbrev pub invariant-loop-other : goal.invariant-loop-other
invariant-loop-other l = first_of l.item (drop l.other-index l.pairs) ≡ first_of l.item l.initial.pairs
