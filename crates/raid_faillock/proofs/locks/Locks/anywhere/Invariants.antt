use Rattle.std.proofs.Common.{◌≡◌, ◌≤◌, take}
use Rattle.std.specs.List.{list_any}
use Rattle.raid_base.specs.declared.names.Site.{Site}
use Rattle.raid_base.specs.Names.{has_site}
use Rattle.raid_faillock.proofs.locks.Locks.anywhere.Given as goal

-- the sites that the sets so far have
abbrev pub invariant-loop-set : goal.invariant-loop-set
invariant-loop-set l = (s : Site) → 1 ≤ s.0 → s.0 ≤ 8 → has_site l.found s ≡ list_any (λ set. has_site set s) (take l.set-index l.self)
