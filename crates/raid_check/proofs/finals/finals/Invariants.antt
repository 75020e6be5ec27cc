use Rattle.std.proofs.Common.{◌≡◌, map}
use Rattle.raid_base.specs.declared.names.Item.{Item}
use Rattle.raid_workload.specs.Parts.{count_from}
use Rattle.raid_rules.specs.History.{noted}
use Rattle.raid_legal.specs.Seen.{value_of}
use Rattle.raid_check.proofs.finals.finals.Given as goal

-- the items so far have been listed
abbrev pub invariant-loop-place : goal.invariant-loop-place
invariant-loop-place l = l.finals ≡ map (λ x. (x, value_of l.workload (noted l.tables.history) x)) (map (λ k. let x : Item = record { 0 = k } in x) (count_from 0 l.place))
