use Rattle.std.proofs.Common.{◌≡◌, ◌≤◌, ◌+◌, ◌-◌, map}
use Rattle.std.specs.List.{list_any}
use Rattle.raid_base.specs.Sites.{site}
use Rattle.raid_workload.specs.Parts.{count_from, txns, sites}
use Rattle.raid_rules.specs.History.{noted}
use Rattle.raid_rules.specs.Sessions.{owes}
use Rattle.raid_check.proofs.rest.is_any_owed.Given as goal

-- the sites so far owe none
abbrev pub invariant-loop-number : goal.invariant-loop-number
invariant-loop-number l = record {
  least : 1 ≤ l.number;
  most : l.number ≤ l.workload.sites + 1;
  rest :
      list_any (λ s. list_any (owes (noted l.tables.history) s) (txns l.workload)) (map site (count_from l.number (l.workload.sites + 1 - l.number)))
      ≡ list_any (λ s. list_any (owes (noted l.tables.history) s) (txns l.workload)) (sites l.workload);
}
