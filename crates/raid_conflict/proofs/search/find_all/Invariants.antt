use Rattle.std.proofs.Common.{◌≡◌, ◌||◌, take}
use Rattle.raid_base.specs.declared.names.Txn.{Txn}
use Rattle.raid_base.specs.Names.{has_txn}
use Rattle.raid_conflict.specs.Found.{Longer}
use Rattle.raid_conflict.specs.Search.{leads_on}
use Rattle.raid_conflict.proofs.search.find_all.Given as goal

-- those so far were found
abbrev pub invariant-loop-action : goal.invariant-loop-action
invariant-loop-action l = record {
  found : (v : Txn) → has_txn l.found.0 v ≡ (has_txn l.fn.found.0 v || leads_on l.tables (take l.action-index l.actions) v);
  longer : Longer l.fn.found.0 l.found.0;
  places : l.found.1 ≡ l.fn.found.1;
}
