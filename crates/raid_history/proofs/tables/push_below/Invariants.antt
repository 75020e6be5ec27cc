use Rattle.std.proofs.Common.{◌≡◌, ◌++◌, nat_lt, filter, take}
use Rattle.raid_history.proofs.tables.push_below.Given as goal

-- those so far were added
abbrev pub invariant-loop-other : goal.invariant-loop-other
invariant-loop-other l = l.list ≡ l.fn.list ++ filter (λ u. nat_lt u.0 l.txn.0) (take l.other-index l.txns)
