use Rattle.std.proofs.Common.{◌≡◌, ◌++◌, map, take}
use Rattle.raid_faillock.proofs.debts.push_written.Given as goal

-- those so far were added
abbrev pub invariant-loop-item : goal.invariant-loop-item
invariant-loop-item l = l.list ≡ l.fn.list ++ map (λ p. p.0) (take l.item-index l.writes)
