use Rattle.std.proofs.Common.{◌≡◌, false, ◌&&◌, List, All, take, filter}
use Rattle.raid_base.specs.declared.entry.Noted.{Noted}
use Rattle.raid_rules.specs.History.{has_ended}
use Rattle.raid_rules.specs.Views.{is_backward}
use Rattle.raid_switch.proofs.abort.abort_list.Given as goal

-- listed are those of the first of the list that are to be aborted
abbrev pub invariant-loop-txn : goal.invariant-loop-txn
invariant-loop-txn g l = (view : List Noted) → (goal.Controller-dyn g (l.old.vtable, l.old.value)).stands l.old.value view → All (λ t. has_ended view t ≡ false) l.running → l.off ≡ filter (λ t. l.aborts && is_backward view t) (take l.txn-index l.running)
