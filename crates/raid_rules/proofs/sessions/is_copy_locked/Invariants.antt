use Rattle.std.proofs.Common.{◌≡◌, take}
use Rattle.raid_rules.specs.Sessions as words
use Rattle.raid_rules.proofs.sessions.is_copy_locked.Given as goal

-- whether it is locked after the entries so far
abbrev pub invariant-loop-place : goal.invariant-loop-place
invariant-loop-place l = l.locked ≡ words.is_copy_locked (take l.place l.view) l.site l.item
