use Rattle.std.proofs.Common.{◌≡◌, not, filter, take}
use Rattle.std.specs.List.{flat_map}
use Rattle.raid_rules.specs.Conflict.{acts}
use Rattle.raid_rules.specs.History.{has_aborted}
use Rattle.raid_rules.proofs.conflict.actions.Given as goal

-- the actions of the entries so far
abbrev pub invariant-loop-noted : goal.invariant-loop-noted
invariant-loop-noted l = l.actions ≡ filter (λ a. not (has_aborted l.view a.by)) (flat_map (λ n. acts n n.entry) (take l.noted-index l.view))
