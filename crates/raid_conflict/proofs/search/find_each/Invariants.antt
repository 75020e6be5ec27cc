use Rattle.std.proofs.Common.{◌≡◌, ◌||◌, take}
use Rattle.raid_base.specs.declared.names.Txn.{Txn}
use Rattle.raid_base.specs.Names.{has_txn}
use Rattle.raid_conflict.proofs.search.find_each.Given as goal

-- those so far were found
abbrev pub invariant-loop-txn : goal.invariant-loop-txn
invariant-loop-txn l = record {
  found : (v : Txn) → has_txn l.found.0 v ≡ (has_txn l.fn.found.0 v || has_txn (take l.txn-index l.txns) v);
  places : l.found.1 ≡ l.fn.found.1;
}
