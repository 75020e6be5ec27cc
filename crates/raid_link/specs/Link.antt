-- What a contract sees of the two ends of a link.
use Rattle.std.specs.Prelude.{◌≡◌, ℕ, ◌<◌, List, length, ◌++◌, take, drop}
use Rattle.rtrb.specs.Ring.{sent, known_free, received, known_items, consumer_capacity, producer_capacity, IsPair, SameProducer, SameConsumer}
use Rattle.raid_message.specs.declared.letter.Letter.{Letter}
use Rattle.raid_link.specs.declared.ends.Sender.{Sender}
use Rattle.raid_link.specs.declared.ends.Receiver.{Receiver}

-- every letter that was sent, oldest first: those that went into the ring, and then those that wait
abbrev pub all_sent : Sender → List Letter
all_sent s = sent s.producer ++ s.waiting.items

-- the letters that wait for a place in the ring, oldest first
abbrev pub waits : Sender → List Letter
waits s = s.waiting.items

-- how many free places of the ring the sender knows of
abbrev pub free : Sender → ℕ
free s = known_free s.producer

-- every letter that was taken, oldest first
abbrev pub given : Receiver → List Letter
given r = received r.consumer

-- the letters that the next calls of `take` are sure to give, oldest first
abbrev pub known : Receiver → List Letter
known r = known_items r.consumer

-- how many letters the ring holds at most
abbrev pub places_of : Receiver → ℕ
places_of r = consumer_capacity r.consumer

-- the two are the ends of one link, which has a place
pub record IsLink (s : Sender) (r : Receiver) : Type 0 where
  pub pair : IsPair s.producer r.consumer
  pub capacity : producer_capacity s.producer ≡ consumer_capacity r.consumer
  pub some : 0 < consumer_capacity r.consumer

-- the letters that were sent and not taken yet, oldest first
abbrev pub left : Sender → Receiver → List Letter
left s r = drop (length (given r)) (all_sent s)

-- the link is settled: what was taken and what is left are what was sent, and of what is left the first letters are known, as many as there are places
pub record IsSettled (s : Sender) (r : Receiver) : Type 0 where
  pub whole : given r ++ left s r ≡ all_sent s
  pub first : known r ≡ take (places_of r) (left s r)

-- it is still the sending end of the same link
abbrev pub SameSender : Sender → Sender → Type 0
SameSender a b = SameProducer a.producer b.producer

-- it is still the receiving end of the same link
abbrev pub SameReceiver : Receiver → Receiver → Type 0
SameReceiver a b = SameConsumer a.consumer b.consumer

-- what is in the ring and what waits is what it was
abbrev pub Unchanged : Sender → Sender → Type 0
Unchanged a b = (b.producer ≡ a.producer) × (waits b ≡ waits a)
