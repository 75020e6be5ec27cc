use Rattle.std.proofs.Common.{◌≡◌, ◌++◌, ◌-◌, replicate}
use Rattle.raid_rules.proofs.sessions.opening.Given as goal

-- the sites so far have their first session, the others none
abbrev pub invariant-loop-number : goal.invariant-loop-number
invariant-loop-number l = l.vector ≡ replicate l.number 1 ++ replicate (l.sites - l.number) 0
