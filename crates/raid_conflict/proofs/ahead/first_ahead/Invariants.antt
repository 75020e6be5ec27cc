use Rattle.std.proofs.Common.{◌≡◌, false, take}
use Rattle.std.specs.List.{list_any}
use Rattle.raid_conflict.specs.Arrange as words
use Rattle.raid_conflict.proofs.ahead.first_ahead.Given as goal

-- none of those so far
abbrev pub invariant-loop-other : goal.invariant-loop-other
invariant-loop-other l = list_any (words.is_ahead l.tables l.left l.action) (take l.other-index l.others) ≡ false
