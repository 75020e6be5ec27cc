-- The two ends of a link stay its ends.
use Rattle.std.proofs.Common.{◌≡◌, ◌∙◌, ◌<◌, refl, subst}
use Rattle.rtrb.specs.Ring.{consumer_capacity}
use Rattle.raid_link.specs.Link.{IsLink, SameSender, SameReceiver}
use Rattle.raid_link.specs.declared.ends.Sender.{Sender}
use Rattle.raid_link.specs.declared.ends.Receiver.{Receiver}

pub SameSender-same : (a : Sender) → SameSender a a
SameSender-same a = ((refl, refl, refl, refl), refl)

pub SameReceiver-same : (a : Receiver) → SameReceiver a a
SameReceiver-same a = ((refl, refl, refl, refl), refl)

pub SameSender-trans : (a b c : Sender) → SameSender a b → SameSender b c → SameSender a c
SameSender-trans a b c p q = ((q.0.0 ∙ p.0.0, q.0.1 ∙ p.0.1, q.0.2 ∙ p.0.2, q.0.3 ∙ p.0.3), q.1 ∙ p.1)

pub SameReceiver-trans : (a b c : Receiver) → SameReceiver a b → SameReceiver b c → SameReceiver a c
SameReceiver-trans a b c p q = ((q.0.0 ∙ p.0.0, q.0.1 ∙ p.0.1, q.0.2 ∙ p.0.2, q.0.3 ∙ p.0.3), q.1 ∙ p.1)

pub IsLink-same : (s t : Sender) (r q : Receiver) → SameSender s t → SameReceiver r q → IsLink s r → IsLink t q
IsLink-same s t r q a b l = record {
  pair = (cc, cc, cc, cc);
  capacity = cc;
  some = subst (λ n. 0 < n) (let e : consumer_capacity r.consumer ≡ consumer_capacity q.consumer = cc in e) l.some;
}
