use Rattle.std.proofs.Common.{◌≡◌, ℕ, ◌<◌, false, get_or}
use Rattle.raid_scan.specs.Words.{is_separator}
use Rattle.raid_scan.proofs.word_len.Given as goal

abbrev pub invariant-loop-i : goal.invariant-loop-i
invariant-loop-i l = (k : ℕ) → k < l.i → is_separator (get_or l.line k 0) ≡ false
