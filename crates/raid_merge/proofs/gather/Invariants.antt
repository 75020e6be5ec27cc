use Rattle.std.proofs.Common.{◌≡◌, ◌++◌, drop}
use Rattle.raid_merge.specs.Gathered.{flat}
use Rattle.raid_merge.proofs.gather.Given as goal

-- with the journals that are left it is all
abbrev pub invariant-loop-k : goal.invariant-loop-k
invariant-loop-k l = l.all.items ++ flat l.k (drop l.k l.journals) ≡ flat 0 l.journals
