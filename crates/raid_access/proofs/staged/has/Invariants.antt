use Rattle.std.proofs.Common.{◌≡◌, false, take}
use Rattle.std.specs.List.{list_any}
use Rattle.raid_base.specs.Names.{is_txn}
use Rattle.raid_access.proofs.staged.has.Given as goal

-- those so far are others
abbrev pub invariant-loop-other : goal.invariant-loop-other
invariant-loop-other l = list_any (λ e. is_txn l.txn e.0) (take l.other-index l.staged) ≡ false
