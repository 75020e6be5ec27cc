use Rattle.std.proofs.Common.{subst, ap, ◌∙◌, ◌≡◌, length}
use Rattle.std.specs.List.{list_any}
use Rattle.raid_base.specs.Names.{has_site}
use Rattle.raid_faillock.specs.Stands.{Parts}
use Rattle.raid_faillock.proofs.Sources.{any_locked_at}
use Rattle.raid_faillock.proofs.faillocks.FailLocks.locked_sites.Goals as goal

pub returns : goal.returns
returns c = λ sites placement p o s least most.
    c.anywhere.ensures s least most ∙ ap (λ (f : Parts). list_any (λ set. has_site set s) f.locks) c.self.view_is
    ∙ any_locked_at c.args.self.now sites placement p s (subst (λ (f : Parts). length f.holders ≡ length f.locks) c.self.view_is c.self.invariant.0) o least most
