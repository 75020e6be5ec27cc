use Rattle.raid_pieces.proofs.Digits.{number_longer}
use Rattle.raid_pieces.proofs.numbers.short_worth.Goals as goal

pub worth-requires : goal.worth-requires
worth-requires c = number_longer c.args.digits.now c.requires
