-- One letter after another.
use Rattle.std.proofs.Common.{◌∙◌, ℕ, ◌+◌, arith}
use Rattle.raid_link.specs.Link.{SameReceiver}
use Rattle.raid_link.specs.declared.ends.Receiver.{Receiver}
use Rattle.raid_link.proofs.Same.{SameSender-trans, SameReceiver-trans}
use Rattle.raid_rounds_tests.specs.Ring.{After}
use Rattle.raid_rounds_tests.specs.declared.relay.Relay.{Relay}

-- a letter came out of the input of y, which is r then, and z took it in
pub turn_more : (x : Relay) (n : ℕ) (y : Relay) (r : Receiver) (z : Relay) → After x n y → SameReceiver y.input r → After (record y { input = r }) 1 z → After x (n + 1) z
turn_more x n y r z p same q = record {
  number = q.number ∙ p.number;
  heard = omega (arith, p.heard, q.heard);
  sender = SameSender-trans x.out y.out z.out p.sender q.sender;
  receiver = SameReceiver-trans x.input r z.input (SameReceiver-trans x.input y.input r p.receiver same) q.receiver;
}
