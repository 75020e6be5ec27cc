use Rattle.std.proofs.Common.{◌≡◌, not, filter, take}
use Rattle.raid_base.specs.Names.{is_txn}
use Rattle.raid_history.proofs.tables.without.Given as goal

-- those so far are kept, but for the transaction
abbrev pub invariant-loop-other : goal.invariant-loop-other
invariant-loop-other l = l.list ≡ filter (λ u. not (is_txn l.txn u)) (take l.other-index l.other-items)
