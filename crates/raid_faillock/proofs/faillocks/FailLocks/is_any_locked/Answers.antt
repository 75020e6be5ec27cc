use Rattle.std.proofs.Common.{subst, ap, ◌∙◌, ◌≡◌, length}
use Rattle.std.specs.List.{list_any}
use Rattle.raid_faillock.specs.Sets.{has_any}
use Rattle.raid_faillock.specs.Stands.{Parts}
use Rattle.raid_faillock.proofs.Sources.{any_locked}
use Rattle.raid_faillock.proofs.faillocks.FailLocks.is_any_locked.Goals as goal

pub returns : goal.returns
returns c = λ sites placement p o.
    c.is_any.ensures ∙ ap (λ (f : Parts). list_any has_any f.locks) c.self.view_is
    ∙ any_locked c.args.self.now sites placement p (subst (λ (f : Parts). length f.holders ≡ length f.locks) c.self.view_is c.self.invariant.0) o
