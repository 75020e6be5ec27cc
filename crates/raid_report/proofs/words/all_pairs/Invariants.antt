use Rattle.std.proofs.Common.{◌≡◌, length}
use Rattle.raid_pieces.specs.Pieces.{pieces, pieces_behind}
use Rattle.raid_report.specs.Forms.{all_pairs}
use Rattle.raid_report.proofs.Loops.{prefixed}
use Rattle.raid_report.proofs.words.all_pairs.Given as goal

abbrev pub invariant-loop-part : goal.invariant-loop-part
invariant-loop-part l = prefixed l.pairs (all_pairs l.known (pieces_behind 44 l.rest)) ≡ all_pairs l.known (pieces 44 l.word)

abbrev pub decreases-loop-part : goal.decreases-loop-part
decreases-loop-part l = length l.rest
