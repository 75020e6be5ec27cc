use Rattle.std.proofs.Common.{◌≡◌, take}
use Rattle.raid_world.proofs.telling.entries.Given as goal

-- the entries so far were copied
abbrev pub invariant-loop-k : goal.invariant-loop-k
invariant-loop-k l = l.entries ≡ take l.k l.history
