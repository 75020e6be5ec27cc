use Rattle.std.proofs.Common.{◌≡◌, take}
use Rattle.raid_base.specs.declared.names.Txn.{Txn}
use Rattle.raid_base.specs.Names.{has_txn}
use Rattle.raid_conflict.specs.Found.{is_marked}
use Rattle.raid_conflict.proofs.arrange.marks_of.Given as goal

-- those so far are marked
abbrev pub invariant-loop-txn : goal.invariant-loop-txn
invariant-loop-txn l = (t : Txn) → is_marked l.left.items t ≡ has_txn (take l.txn-index l.txns) t
