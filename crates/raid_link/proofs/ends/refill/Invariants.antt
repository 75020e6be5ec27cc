use Rattle.std.proofs.Common.{◌≡◌, ◌+◌, ◌++◌, length}
use Rattle.rtrb.specs.Ring.{sent, known_free, SameProducer}
use Rattle.raid_link.proofs.ends.refill.Given as goal

abbrev pub invariant-loop-waiting : goal.invariant-loop-waiting
invariant-loop-waiting l =
    record {
      same_ring : SameProducer l.initial.producer l.producer;
      same_letters : sent l.producer ++ l.waiting.items ≡ sent l.initial.producer ++ l.initial.waiting.items;
      same_room : known_free l.producer + length (sent l.producer) ≡ known_free l.initial.producer + length (sent l.initial.producer);
    }

abbrev pub decreases-loop-waiting : goal.decreases-loop-waiting
decreases-loop-waiting l = length l.waiting.items
