use Rattle.std.proofs.Common.{◌≡◌, length}
use Rattle.raid_advise.specs.Advice as words
use Rattle.raid_advise.proofs.past.window.Given as goal

-- what is left has so many ends, and its window is the whole one's
abbrev pub invariant-loop-left : goal.invariant-loop-left
invariant-loop-left l = record { ends : l.left ≡ words.ends l.seen; window : words.window l.last l.seen ≡ words.window l.last l.entries }

abbrev pub decreases-loop-left : goal.decreases-loop-left
decreases-loop-left l = length l.seen
