use Rattle.std.proofs.Common.{◌≡◌, ◌≤◌, ◌+◌, ◌-◌, map}
use Rattle.std.specs.List.{list_all}
use Rattle.raid_base.specs.Sites.{site}
use Rattle.raid_workload.specs.Parts.{count_from, sites}
use Rattle.raid_rules.specs.Sessions.{is_site_up}
use Rattle.raid_decide.proofs.homes.are_all_up.Given as goal

-- the sites so far are up
abbrev pub invariant-loop-number : goal.invariant-loop-number
invariant-loop-number l = record {
  least : 1 ≤ l.number;
  most : l.number ≤ l.workload.sites + 1;
  rest : list_all (is_site_up l.vector) (map site (count_from l.number (l.workload.sites + 1 - l.number))) ≡ list_all (is_site_up l.vector) (sites l.workload);
}
