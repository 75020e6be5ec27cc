use Rattle.std.proofs.Common.{◌≡◌, ◌<◌, ◌^◌, drop}
use Rattle.raid_tokens.specs.Words.{decimal_from, decimal}
use Rattle.raid_tokens.proofs.forms.decimal.Given as goal

abbrev pub invariant-loop-b : goal.invariant-loop-b
invariant-loop-b l = record { value : decimal_from l.n (drop l.b-index l.digits) ≡ decimal l.digits; bound : l.n < 10 ^ l.b-index }
