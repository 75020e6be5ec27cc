use Rattle.std.proofs.Common.{◌≡◌, drop, find}
use Rattle.raid_base.specs.Names.{is_txn}
use Rattle.raid_access.proofs.slots.set_staged.Given as goal

-- what was passed is staged for others, and nothing has changed
abbrev pub invariant-loop-other : goal.invariant-loop-other
invariant-loop-other l = record {
  others : find (λ e. is_txn l.txn e.0) (drop l.other-index l.staged) ≡ find (λ e. is_txn l.txn e.0) l.staged;
  same : l.slots ≡ l.fn.slots;
}
