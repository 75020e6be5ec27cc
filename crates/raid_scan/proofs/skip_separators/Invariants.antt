use Rattle.std.proofs.Common.{◌≡◌, ◌-◌, ◌≤◌, length, drop}
use Rattle.raid_scan.specs.Words.{words_of}
use Rattle.raid_scan.proofs.skip_separators.Given as goal

abbrev pub invariant-loop-i : goal.invariant-loop-i
invariant-loop-i l = record { within : l.i ≤ length l.line; words : words_of (drop l.i l.line) ≡ words_of l.line }

abbrev pub decreases-loop-i : goal.decreases-loop-i
decreases-loop-i l = length l.line - l.i
