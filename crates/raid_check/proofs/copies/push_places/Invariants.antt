use Rattle.std.proofs.Common.{◌≡◌, ◌++◌, map}
use Rattle.std.specs.Prelude.{filter}
use Rattle.raid_base.specs.declared.names.Item.{Item}
use Rattle.raid_base.specs.Names.{has_site}
use Rattle.raid_workload.specs.Parts.{count_from, placement}
use Rattle.raid_rules.specs.Sessions.{holders}
use Rattle.raid_check.proofs.copies.push_places.Given as goal

-- those of the items so far are added
abbrev pub invariant-loop-place : goal.invariant-loop-place
invariant-loop-place l =
    l.places.items
    ≡ l.fn.places.items ++ map (λ x. (l.site, x)) (filter (λ x. has_site (holders (placement l.workload) x) l.site) (map (λ k. let x : Item = record { 0 = k } in x) (count_from 0 l.place)))
