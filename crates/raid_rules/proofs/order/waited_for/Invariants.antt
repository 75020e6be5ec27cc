use Rattle.std.proofs.Common.{◌≡◌, false, take}
use Rattle.std.specs.List.{list_any}
use Rattle.raid_rules.specs.Conflict as words
use Rattle.raid_rules.proofs.order.waited_for.Given as goal

-- none of the edges so far
abbrev pub invariant-loop-from : goal.invariant-loop-from
invariant-loop-from l = list_any (words.waits_for l.all l.listed l.txn) (take l.from-index l.pairs) ≡ false
