use Rattle.std.proofs.Common.{◌≡◌, [], replicate}
use Rattle.raid_world.proofs.times.journals.Given as goal

-- so many empty journals stand
abbrev pub invariant-loop : goal.invariant-loop
invariant-loop l = l.journals.items ≡ replicate l.counter []
