use Rattle.std.proofs.Common.{◌≡◌, ◌∷◌, length}
use Rattle.raid_pieces.specs.Pieces.{pieces_behind}
use Rattle.raid_report.specs.Drafts.{all_txns}
use Rattle.raid_report.proofs.Loops.{prefixed}
use Rattle.raid_report.proofs.lines.all_txns.Given as goal

abbrev pub invariant-loop-word : goal.invariant-loop-word
invariant-loop-word l = prefixed l.txns (all_txns l.known (pieces_behind 32 l.rest)) ≡ all_txns l.known (l.fn.word ∷ pieces_behind 32 l.line)

abbrev pub decreases-loop-word : goal.decreases-loop-word
decreases-loop-word l = length l.rest
