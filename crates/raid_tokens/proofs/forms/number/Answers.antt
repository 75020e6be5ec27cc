use Rattle.std.proofs.Common.{arith}
use Rattle.raid_tokens.proofs.Digits.{number_longer, nine_digits}
use Rattle.raid_tokens.proofs.forms.number.Goals as goal

pub decimal-requires : goal.decimal-requires
decimal-requires c = number_longer c.args.digits.now c.requires

pub overflow_cast-result : goal.overflow_cast-result
overflow_cast-result c = let b = nine_digits c.args.digits.now c.decimal.result c.requires c.decimal.ensures.bound in omega arith
