use Rattle.std.proofs.Common.{◌≡◌, ◌<◌, length}
use Rattle.raid_nodes.specs.Settled.{SettledSo}
use Rattle.raid_nodes.proofs.settling.settle_links.Given as goal

-- the links from the members so far are settled
abbrev pub invariant-loop-from : goal.invariant-loop-from
invariant-loop-from g l = (l.count ≡ length l.fn.members) × SettledSo (λ i j. i < l.from) l.fn.members l.some l.members
