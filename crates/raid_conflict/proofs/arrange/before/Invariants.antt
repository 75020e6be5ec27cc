use Rattle.std.proofs.Common.{◌≡◌, ◌++◌, take}
use Rattle.raid_conflict.proofs.arrange.before.Given as goal

-- the first, and those so far
abbrev pub invariant-loop-txn : goal.invariant-loop-txn
invariant-loop-txn l = l.list ≡ l.initial.list ++ take l.txn-index l.rest
