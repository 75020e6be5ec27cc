use Rattle.std.proofs.Common.{◌≡◌, ◌<◌, length}
use Rattle.raid_nodes.specs.Settled.{SettledSo}
use Rattle.raid_nodes.proofs.settling.settle_from.Given as goal

-- the links to the members so far are settled
abbrev pub invariant-loop-to : goal.invariant-loop-to
invariant-loop-to g l = (l.count ≡ length l.fn.members) × SettledSo (λ i j. (i ≡ l.from) × (j < l.to)) l.fn.members l.some l.members
