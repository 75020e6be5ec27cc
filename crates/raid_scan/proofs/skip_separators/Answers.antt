use Rattle.std.proofs.Common.{arith, ◌∙◌, sym}
use Rattle.raid_scan.proofs.Pieces.{words_drop}
use Rattle.raid_scan.proofs.skip_separators.Goals as goal

pub loop-i-preserved : goal.loop-i-preserved
loop-i-preserved c = record { within = omega arith; words = words_drop c.args.line.now c.loop-i.i (omega arith) (sym c.is_separator.ensures ∙ c.if-not-is_separator.false) ∙ c.loop-i.invariant.words }
