use Rattle.std.proofs.Common.{◌≡◌, false, take}
use Rattle.std.specs.List.{list_any}
use Rattle.raid_conflict.specs.Arrange as words
use Rattle.raid_conflict.proofs.ahead.first_behind.Given as goal

-- none of those so far
abbrev pub invariant-loop-action : goal.invariant-loop-action
invariant-loop-action l = list_any (words.is_behind l.tables l.left) (take l.action-index l.actions) ≡ false
