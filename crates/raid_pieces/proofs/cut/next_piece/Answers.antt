use Rattle.std.proofs.Common.{◌∙◌, ◌+◌, arith}
use Rattle.std.proofs.lemmas.List.{take_rest, length-drop}
use Rattle.std.proofs.lemmas.Bool.Decides.{nat_tests}
use Rattle.raid_pieces.proofs.Cuts.{none_behind, next_is}
use Rattle.raid_pieces.proofs.cut.next_piece.Goals as goal

pub returns-then-before-rest-clause-piece : goal.returns-then-before-rest-clause-piece
returns-then-before-rest-clause-piece c = none_behind c.args.mark c.piece_len-before.result c.args.rest.now (grind (arith, nat_tests)) c.piece_len-before.ensures.piece

pub returns-clause-piece : goal.returns-clause-piece
returns-clause-piece c =
    next_is c.args.mark c.piece_len-before.result c.args.rest.now (grind arith) c.piece_len-before.ensures.piece (c.piece_len-before.ensures.behind (grind arith))
    ∙ (rw (take_rest c.args.rest.now (c.piece_len-before.result + 1)) at c.first_piece.ensures.piece)

pub returns-clause-shorter : goal.returns-clause-shorter
returns-clause-shorter c =
    let within = rw (take_rest c.args.rest.now (c.piece_len-before.result + 1)) at c.first_piece.ensures.within in
    omega (arith, length-drop (c.piece_len-before.result + 1) c.args.rest.now)
