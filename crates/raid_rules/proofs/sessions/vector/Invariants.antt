use Rattle.std.proofs.Common.{◌≡◌, take}
use Rattle.raid_rules.specs.Sessions as words
use Rattle.raid_rules.proofs.sessions.vector.Given as goal

-- the vector after the entries so far
abbrev pub invariant-loop-noted : goal.invariant-loop-noted
invariant-loop-noted l = l.vector ≡ words.vector l.sites (take l.noted-index l.view)
