-- Three relays, each of which sends to the next, are a ring.
use Rattle.std.proofs.Common.{ℕ, zero, suc, ◌<◌, ◌∷◌, [], get_or, arith}
use Rattle.raid_link.specs.Link.{IsLink, SameSender}
use Rattle.raid_link.specs.declared.ends.Sender.{Sender}
use Rattle.raid_link.specs.declared.ends.Receiver.{Receiver}
use Rattle.raid_link.proofs.Same.{SameReceiver-same, IsLink-same}
use Rattle.raid_rounds_tests.specs.Ring.{next, Whole}
use Rattle.raid_rounds_tests.specs.declared.relay.Relay.{Relay}

-- a link is one after a letter was sent
pub still_link : (s t : Sender) (r : Receiver) → IsLink s r → SameSender s t → IsLink t r
still_link s t r l a = IsLink-same s t r r a (SameReceiver-same r) l

three_links : (a b c : Relay) → IsLink a.out b.input → IsLink b.out c.input → IsLink c.out a.input → (k : ℕ) (d : Relay) → k < 3 → IsLink (get_or (a ∷ b ∷ c ∷ []) k d).out (get_or (a ∷ b ∷ c ∷ []) (next 3 k) d).input
three_links a b c l m n zero d h = l
three_links a b c l m n (suc zero) d h = m
three_links a b c l m n (suc (suc zero)) d h = n
three_links a b c l m n (suc (suc (suc k))) d h = absurd (omega arith)

pub whole_three : (a b c : Relay) → IsLink a.out b.input → IsLink b.out c.input → IsLink c.out a.input → Whole (a ∷ b ∷ c ∷ [])
whole_three a b c l m n = record { two = omega arith; links = three_links a b c l m n }
