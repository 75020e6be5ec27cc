use Rattle.std.proofs.Common.{◌≡◌, ◌≤◌, ◌+◌, ◌-◌, ◌*◌, length, map}
use Rattle.std.specs.List.{list_any}
use Rattle.raid_base.specs.declared.names.Txn.{Txn}
use Rattle.raid_workload.specs.Parts.{count_from, txns}
use Rattle.raid_rules.specs.History.{noted}
use Rattle.raid_rules.specs.Sessions.{owes}
use Rattle.raid_check.proofs.rest.owes_any.Given as goal

-- none is owed for the transactions so far
abbrev pub invariant-loop-number : goal.invariant-loop-number
invariant-loop-number l = record {
  least : 1 ≤ l.number;
  most : l.number ≤ length l.workload.programs * (l.workload.restarts + 1) + 1;
  rest :
      list_any (owes (noted l.tables.history) l.site) (map (λ k. let t : Txn = record { 0 = k } in t) (count_from l.number (length l.workload.programs * (l.workload.restarts + 1) + 1 - l.number)))
      ≡ list_any (owes (noted l.tables.history) l.site) (txns l.workload);
}
