use Rattle.std.proofs.Common.{◌≡◌, ◌++◌, take}
use Rattle.raid_faillock.proofs.debts.push_items.Given as goal

-- those so far were added
abbrev pub invariant-loop-item : goal.invariant-loop-item
invariant-loop-item l = l.list ≡ l.fn.list ++ take l.item-index l.items
