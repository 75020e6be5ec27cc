use Rattle.raid_pieces.proofs.Cuts.{first_is}
use Rattle.raid_pieces.proofs.cut.first_piece.Goals as goal

pub returns-clause-piece : goal.returns-clause-piece
returns-clause-piece c =
    rw (c.split_at.ensures.front, c.split_at.ensures.back) (first_is c.args.mark c.piece_len.result c.args.bytes.now c.piece_len.ensures.within c.piece_len.ensures.piece c.piece_len.ensures.behind)
