use Rattle.std.proofs.Common.{◌≡◌, false, List, All, take}
use Rattle.std.specs.List.{list_any}
use Rattle.raid_base.specs.declared.entry.Noted.{Noted}
use Rattle.raid_rules.specs.History.{has_ended}
use Rattle.raid_conflict.specs.Listed.{reaches_before}
use Rattle.raid_conflict.specs.Live.{Stands}
use Rattle.raid_switch.proofs.eras.any_reaches_before.Given as goal

-- conflicts lead back from none of the first of the list, and the graph stands for what it stood for
abbrev pub invariant-loop-txn : goal.invariant-loop-txn
invariant-loop-txn l = record {
  stands : (view : List Noted) → Stands l.initial.graph view → Stands l.graph view;
  none : (view : List Noted) → Stands l.initial.graph view → All (λ t. has_ended view t ≡ false) l.running → list_any (λ t. reaches_before view t l.before) (take l.txn-index l.running) ≡ false;
}
