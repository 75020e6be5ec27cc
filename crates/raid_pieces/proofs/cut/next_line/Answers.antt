use Rattle.std.proofs.Common.{◌+◌, arith}
use Rattle.std.proofs.lemmas.List.{take_rest}
use Rattle.std.proofs.lemmas.Bool.Decides.{nat_tests}
use Rattle.raid_pieces.proofs.Cuts.{no_line, line_is, rest_is, whole_is}
use Rattle.raid_pieces.proofs.cut.next_line.Goals as goal

pub returns-then-end-text-clause-line : goal.returns-then-end-text-clause-line
returns-then-end-text-clause-line c = no_line c.args.text.now c.piece_len-end.result (grind (arith, nat_tests)) c.piece_len-end.ensures.piece

pub returns-clause-line : goal.returns-clause-line
returns-clause-line c =
    rw (take_rest c.args.text.now (c.piece_len-end.result + 1)) (line_is c.args.text.now c.piece_len-end.result (grind (arith, nat_tests)) c.piece_len-end.ensures.piece (c.piece_len-end.ensures.behind (grind (arith, nat_tests))))

pub returns-then-end-text-clause-unfinished : goal.returns-then-end-text-clause-unfinished
returns-then-end-text-clause-unfinished c = whole_is c.args.text.now c.piece_len-end.result (grind (arith, nat_tests)) c.piece_len-end.ensures.piece

pub returns-clause-unfinished : goal.returns-clause-unfinished
returns-clause-unfinished c =
    rw (take_rest c.args.text.now (c.piece_len-end.result + 1)) (rest_is c.args.text.now c.piece_len-end.result (grind (arith, nat_tests)) c.piece_len-end.ensures.piece (c.piece_len-end.ensures.behind (grind (arith, nat_tests))))
