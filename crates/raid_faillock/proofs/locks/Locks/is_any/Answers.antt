use Rattle.std.proofs.Common.{ap, ◌∙◌, nat_lt, List}
use Rattle.std.specs.List.{list_any}
use Rattle.raid_base.specs.declared.names.Site.{Site}
use Rattle.raid_faillock.specs.Sets.{has_any}
use Rattle.raid_faillock.proofs.Cells.{any_counted}
use Rattle.raid_faillock.proofs.locks.Locks.is_any.Goals as goal

pub returns : goal.returns
returns c = ap (λ k. nat_lt 0 k) c.self.invariant ∙ any_counted has_any c.self.inside.sets.items ∙ ap (λ (sets : List (List Site)). list_any has_any sets) c.self.view_is
