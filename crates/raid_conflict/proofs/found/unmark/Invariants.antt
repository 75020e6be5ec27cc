use Rattle.std.proofs.Common.{◌≡◌, ◌&&◌, not, vec_len, take}
use Rattle.raid_base.specs.declared.names.Txn.{Txn}
use Rattle.raid_base.specs.Names.{has_txn}
use Rattle.raid_conflict.specs.Found.{is_marked}
use Rattle.raid_conflict.proofs.found.unmark.Given as goal

-- those so far have no mark
abbrev pub invariant-loop-txn : goal.invariant-loop-txn
invariant-loop-txn l = record {
  same : vec_len l.marks ≡ vec_len l.fn.marks;
  marks : (t : Txn) → is_marked l.marks.items t ≡ (is_marked l.fn.marks.items t && not (has_txn (take l.txn-index l.list) t));
}
