use Rattle.std.proofs.Common.{◌≡◌, take}
use Rattle.raid_rules.specs.Verdicts as verdicts
use Rattle.raid_rules.proofs.conflict.last_number.Given as goal

-- the largest number so far
abbrev pub invariant-loop-noted : goal.invariant-loop-noted
invariant-loop-noted l = l.last ≡ verdicts.last_number (take l.noted-index l.view)
