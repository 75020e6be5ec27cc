use Rattle.std.proofs.Common.{◌≡◌, ◌++◌, drop}
use Rattle.raid_rules.specs.Committed as sets
use Rattle.raid_conflict.proofs.arrange.front.Given as goal

-- what is left to add comes after the front
abbrev pub invariant-loop-txn : goal.invariant-loop-txn
invariant-loop-txn l = l.front ++ sets.up_to l.last (drop l.txn-index l.list) ≡ sets.up_to l.last l.list
