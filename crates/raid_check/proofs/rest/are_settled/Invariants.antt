use Rattle.std.proofs.Common.{◌≡◌, ◌≤◌, ◌+◌, ◌-◌, map}
use Rattle.std.specs.List.{list_all}
use Rattle.raid_base.specs.Sites.{site}
use Rattle.raid_workload.specs.Parts.{count_from, items, sites}
use Rattle.raid_rules.specs.History.{noted}
use Rattle.raid_legal.specs.Switched.{is_settled}
use Rattle.raid_check.proofs.rest.are_settled.Given as goal

-- the copies of the sites so far are settled
abbrev pub invariant-loop-number : goal.invariant-loop-number
invariant-loop-number l = record {
  least : 1 ≤ l.number;
  most : l.number ≤ l.workload.sites + 1;
  rest :
      list_all (λ s. list_all (is_settled l.workload (noted l.tables.history) s) (items l.workload)) (map site (count_from l.number (l.workload.sites + 1 - l.number)))
      ≡ list_all (λ s. list_all (is_settled l.workload (noted l.tables.history) s) (items l.workload)) (sites l.workload);
}
