use Rattle.std.proofs.Common.{◌≡◌, ◌≤◌, ◌+◌, ◌-◌, ◌*◌, length, map}
use Rattle.std.specs.List.{list_all}
use Rattle.raid_base.specs.declared.names.Txn.{Txn}
use Rattle.raid_workload.specs.Parts.{count_from, txns}
use Rattle.raid_rules.specs.History.{noted}
use Rattle.raid_legal.specs.Switched.{is_served}
use Rattle.raid_check.proofs.rest.are_served.Given as goal

-- the transactions so far are served
abbrev pub invariant-loop-number : goal.invariant-loop-number
invariant-loop-number l = record {
  least : 1 ≤ l.number;
  most : l.number ≤ length l.workload.programs * (l.workload.restarts + 1) + 1;
  rest :
      list_all (is_served l.workload (noted l.tables.history)) (map (λ k. let t : Txn = record { 0 = k } in t) (count_from l.number (length l.workload.programs * (l.workload.restarts + 1) + 1 - l.number)))
      ≡ list_all (is_served l.workload (noted l.tables.history)) (txns l.workload);
}
