use Rattle.std.proofs.Common.{All, take}
use Rattle.raid_merge.specs.Merged.{IsRising}
use Rattle.raid_merge.proofs.are_rising.Given as goal

-- the journals so far rise
abbrev pub invariant-loop-journal : goal.invariant-loop-journal
invariant-loop-journal l = All IsRising (take l.journal-index l.journal-items)
