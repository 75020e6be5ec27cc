use Rattle.std.proofs.Common.{◌≡◌, ◌≤◌, ◌-◌, length, map}
use Rattle.std.specs.List.{list_all}
use Rattle.raid_base.specs.declared.names.Item.{Item}
use Rattle.raid_workload.specs.Parts.{count_from, items}
use Rattle.raid_rules.specs.History.{noted}
use Rattle.raid_legal.specs.Switched.{is_settled}
use Rattle.raid_check.proofs.rest.are_settled_at.Given as goal

-- the copies so far are settled
abbrev pub invariant-loop-place : goal.invariant-loop-place
invariant-loop-place l = record {
  most : l.place ≤ length l.workload.items;
  rest :
      list_all (is_settled l.workload (noted l.tables.history) l.site) (map (λ k. let x : Item = record { 0 = k } in x) (count_from l.place (length l.workload.items - l.place)))
      ≡ list_all (is_settled l.workload (noted l.tables.history) l.site) (items l.workload);
}
