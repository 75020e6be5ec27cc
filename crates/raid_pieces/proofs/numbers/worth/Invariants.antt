use Rattle.std.proofs.Common.{◌≡◌, ◌<◌, ◌^◌, drop}
use Rattle.raid_pieces.specs.Numbers.{worth_from, worth}
use Rattle.raid_pieces.proofs.numbers.worth.Given as goal

abbrev pub invariant-loop-b : goal.invariant-loop-b
invariant-loop-b l = record { value : worth_from l.n (drop l.b-index l.digits) ≡ worth l.digits; bound : l.n < 10 ^ l.b-index }
