use Rattle.std.proofs.Common.{◌≡◌, ◌≤◌, ◌-◌, ◌+◌, map}
use Rattle.std.specs.Prelude.{filter, flat_map}
use Rattle.raid_base.specs.Names.{has_site}
use Rattle.raid_base.specs.Sites.{site}
use Rattle.raid_workload.specs.Parts.{count_from, placement, items}
use Rattle.raid_rules.specs.Sessions.{holders}
use Rattle.raid_check.proofs.copies.places.Given as goal

-- those of the sites so far are listed
abbrev pub invariant-loop-number : goal.invariant-loop-number
invariant-loop-number l = record {
  least : 1 ≤ l.number;
  most : l.number ≤ l.workload.sites + 1;
  listed : l.places.items ≡ flat_map (λ s. map (λ x. (s, x)) (filter (λ x. has_site (holders (placement l.workload) x) s) (items l.workload))) (map site (count_from 1 (l.number - 1)));
}
