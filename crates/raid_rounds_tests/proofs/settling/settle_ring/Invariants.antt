use Rattle.std.proofs.Common.{◌≡◌, length}
use Rattle.raid_rounds_tests.specs.Ring.{SettledUpTo}
use Rattle.raid_rounds_tests.proofs.settling.settle_ring.Given as goal

abbrev pub invariant-loop-k : goal.invariant-loop-k
invariant-loop-k l = (l.count ≡ length l.fn.members) × SettledUpTo l.fn.members l.k l.some l.members
