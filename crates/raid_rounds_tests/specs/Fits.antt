-- The laws of a node.
use Rattle.std.proofs.Common.{◌≡◌, ℕ, zero, suc, ◌<◌, ◌≤◌, List, [], ◌∷◌, ◌++◌, length, get_or, take, map, refl, ap₂, arith, inl, inr, length-append, length-take}
use Rattle.std.proofs.lemmas.Bool.{cases_eq}
use Rattle.std.proofs.lemmas.List.{get_or-set_other}
use Rattle.std.proofs.Math.Seq.{set-append_seam, get_or-append_seam}
use Rattle.raid_link.specs.Laws.{SomeOf, NodeLaws}
use Rattle.raid_link.specs.Link.{known, left, places_of}
use Rattle.raid_link.proofs.Same.{SameSender-same, SameReceiver-same, IsLink-same}
use Rattle.raid_rounds_tests.specs.Ring.{next, After, TurnMade, Whole, SomeLeft, Settled, on_link}
use Rattle.raid_rounds_tests.specs.declared.relay.Relay.{Relay}
use Rattle.raid_rounds_tests.specs.Next.{next_below}

module _ {S : Type 0} where
  -- a list that has a member at k has a member
  some_member : (xs : List S) (k : ℕ) → k < length xs → S
  some_member [] k h = absurd (omega arith)
  some_member (x ∷ xs) k h = x

  SomeOf-at : (K : S → Type 0) (xs : List S) (k : ℕ) → k < length xs → ((d : S) → K (get_or xs k d)) → SomeOf K xs
  SomeOf-at K [] k h f = absurd (omega arith)
  SomeOf-at K (x ∷ xs) zero h f = inl (f x)
  SomeOf-at K (x ∷ xs) (suc k) h f = inr (SomeOf-at K xs k (omega arith) f)

  same_map : (f : S → ℕ) (xs ys : List S) → length ys ≡ length xs → ((k : ℕ) (d : S) → k < length xs → f (get_or ys k d) ≡ f (get_or xs k d)) → map f ys ≡ map f xs
  same_map f [] [] l h = refl
  same_map f [] (y ∷ ys) l h = absurd (omega arith)
  same_map f (x ∷ xs) [] l h = absurd (omega arith)
  same_map f (x ∷ xs) (y ∷ ys) l h =
      let head : f y ≡ f x = h 0 y (omega arith) in
      let rest : map f ys ≡ map f xs = same_map f xs ys (omega arith) (λ k d g. h (suc k) d (omega arith)) in
      ap₂ ◌∷◌ head rest

pub After-same : (x : Relay) → After x 0 x
After-same x = record { number = refl; heard = omega arith; sender = SameSender-same x.out; receiver = SameReceiver-same x.input }

-- the members of a ring are a ring later on
whole_after : (xs ys : List Relay) → length ys ≡ length xs → ((k : ℕ) (d : Relay) → k < length xs → (n : ℕ) × After (get_or xs k d) n (get_or ys k d)) → Whole xs → Whole ys
whole_after xs ys l e w = record {
  two = rw l w.two;
  links = λ k d h.
      let below : k < length xs = rw (← l) h in
      let j : ℕ = next (length xs) k in
      let far : j < length xs = next_below (length xs) k w.two below in
      rw l (IsLink-same (get_or xs k d).out (get_or ys k d).out (get_or xs j d).input (get_or ys j d).input (e k d below).1.sender (e j d far).1.receiver (w.links k d below));
}

-- one member is replaced
after_replaced : (pre : List Relay) (x : Relay) (post : List Relay) (m : ℕ) (y : Relay) → After x m y → (k : ℕ) (d : Relay) → (n : ℕ) × After (get_or (pre ++ x ∷ post) k d) n (get_or (pre ++ y ∷ post) k d)
after_replaced pre x post m y e k d =
    elim (cases_eq k (length pre)) [
      | inl q ↦ (m, rw (q, get_or-append_seam pre x post d, get_or-append_seam pre y post d) e)
      | inr a ↦
          let same : get_or (pre ++ y ∷ post) k d ≡ get_or (pre ++ x ∷ post) k d = rw (← set-append_seam pre x post y) (get_or-set_other (pre ++ x ∷ post) (length pre) k y d a) in
          (0, rw same (After-same (get_or (pre ++ x ∷ post) k d)))
    ]

-- where a link is settled and holds a letter, a letter is known
known_some : {X : Type 0} (places : ℕ) (ls ks : List X) → 0 < places → 0 < length ls → ks ≡ take places ls → 0 < length ks
known_some places ls ks a b e = rw (e, length-take) (omega arith)

pub ring_fits : (n turn : ℕ) → NodeLaws TurnMade Settled Whole (λ x. (x.number < n) × (1 ≤ turn)) SomeLeft (λ x. 0 < length (known x.input)) (λ x. x.heard)
ring_fits n turn = record {
  turn_counts = λ x k y t. t.made.heard;
  turn_takes = λ x k y t h. t.some h;
  turn_own = λ x k y t h. (rw t.made.number (h.0), h.1);
  turn_whole = λ xs x zs k y t w. whole_after (xs ++ x ∷ zs) (xs ++ y ∷ zs) (simp length-append) (λ j d h. after_replaced xs x zs k y t.made j d) w;
  settle_taken = λ xs b ys s. same_map (λ x. x.heard) xs ys s.long (λ k d h. let e = (s.kept k d h).heard in omega (arith, e));
  settle_own = λ xs b ys s o k d h. let below : k < length xs = rw (← s.long) h in (rw (s.kept k d below).number ((o k d below).0), (o k d below).1);
  settle_whole = λ xs b ys s w. whole_after xs ys s.long (λ k d h. (0, s.kept k d h)) w;
  settle_some = λ xs ys s w.
      let t = s.some refl in
      let k = t.0 in let j : ℕ = next (length xs) k in
      let far : j < length xs = next_below (length xs) k w.two t.1 in
      let K : Relay → Type 0 = λ x. 0 < length (known x.input) in
      let capacity : (d : Relay) → 0 < places_of (get_or ys j d).input = λ d. rw (s.kept j d far).receiver.1 ((w.links k d t.1).some) in
      let known_there : (d : Relay) → K (get_or ys j d) =
      λ d. known_some (places_of (get_or ys j d).input) (left (get_or ys k d).out (get_or ys j d).input) (known (get_or ys j d).input) (capacity d) (t.2 d) ((s.settled k d t.1).first) in
      ((k, rw s.long t.1, λ d. rw s.long (t.2 d)), SomeOf-at K ys j (rw s.long far) known_there);
  settle_none = λ xs ys s w left.
      let k = left.0 in
      let below : k < length xs = rw (← s.long) left.1 in
      let d : Relay = some_member xs k below in
      let none : on_link (length xs) ys k d ≡ 0 = s.none refl k d below in
      let some : 0 < on_link (length xs) ys k d = rw (← s.long) (left.2 d) in
      omega arith;
}
