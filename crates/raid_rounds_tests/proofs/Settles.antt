-- Settling one link after another.
use Rattle.std.proofs.Common.{◌≡◌, ◌≢◌, ℕ, zero, suc, ◌+◌, ◌<◌, List, length, get_or, set, arith, refl, ◌∙◌, Bool, true, false, ◌||◌, IsTrue, ◌↔◌, inl, inr}
use Rattle.std.proofs.lemmas.Bool.{cases_eq}
use Rattle.std.proofs.lemmas.List.{get_or-set_same, get_or-set_other}
use Rattle.std.proofs.Math.ListN.{length-set}
use Rattle.raid_link.specs.Link.{IsLink, IsSettled, left}
use Rattle.raid_link.proofs.Same.{SameSender-trans, SameReceiver-trans, IsLink-same}
use Rattle.raid_rounds_tests.specs.Ring.{next, After, Whole, on_link, SettledUpTo, PairSettled}
use Rattle.raid_rounds_tests.specs.declared.relay.Relay.{Relay}
use Rattle.raid_rounds_tests.specs.Fits.{After-same}
use Rattle.raid_rounds_tests.specs.Next.{next_below, next_other, next_apart}

pub After-trans : (x : Relay) (n : ℕ) (y : Relay) (m : ℕ) (z : Relay) → After x n y → After y m z → After x (n + m) z
After-trans x n y m z p q = record {
  number = q.number ∙ p.number;
  heard = omega (arith, p.heard, q.heard);
  sender = SameSender-trans x.out y.out z.out p.sender q.sender;
  receiver = SameReceiver-trans x.input y.input z.input p.receiver q.receiver;
}

-- one link was settled, that from i to j: ws is what the members ys are then
module _ (ys ws : List Relay) (i j : ℕ) (b : Bool) (y z : Relay) (is : ws ≡ set (set ys i y) j z) (low : i < length ys) (high : j < length ys) (apart : i ≢ j) (pair : (d : Relay) → PairSettled (get_or ys i d) (get_or ys j d) b y z) where
  long_pair : length ws ≡ length ys
  long_pair = rw (is, length-set, length-set)

  at_from : (d : Relay) → get_or ws i d ≡ y
  at_from d = rw (is, get_or-set_other (set ys i y) j i z d apart, get_or-set_same ys i y d low)

  at_to : (d : Relay) → get_or ws j d ≡ z
  at_to d = let h : j < length (set ys i y) = rw length-set high in rw (is, get_or-set_same (set ys i y) j z d h)

  at_other : (k : ℕ) (d : Relay) → k ≢ i → k ≢ j → get_or ws k d ≡ get_or ys k d
  at_other k d a c = rw (is, get_or-set_other (set ys i y) j k z d c, get_or-set_other ys i k y d a)

  pub kept_pair : (k : ℕ) (d : Relay) → After (get_or ys k d) 0 (get_or ws k d)
  kept_pair k d =
      elim (cases_eq k i) [
        | inl e ↦ rw (e, at_from d) ((pair d).one)
        | inr a ↦ elim (cases_eq k j) [
          | inl e ↦ rw (e, at_to d) ((pair d).other)
          | inr c ↦ rw (at_other k d a c) (After-same (get_or ys k d))
        ]
      ]

  pub out_pair : (k : ℕ) (d : Relay) → k ≢ i → (get_or ws k d).out ≡ (get_or ys k d).out
  out_pair k d a =
      elim (cases_eq k j) [
        | inl e ↦ rw (e, at_to d) ((pair d).other_out)
        | inr c ↦ rw (at_other k d a c)
      ]

  pub input_pair : (k : ℕ) (d : Relay) → k ≢ j → (get_or ws k d).input ≡ (get_or ys k d).input
  input_pair k d c =
      elim (cases_eq k i) [
        | inl e ↦ rw (e, at_from d) ((pair d).one_input)
        | inr a ↦ rw (at_other k d a c)
      ]

  pub settled_pair : (d : Relay) → IsSettled (get_or ws i d).out (get_or ws j d).input
  settled_pair d = rw (at_from d, at_to d) ((pair d).settled)

  pub left_pair : (d : Relay) → IsTrue b ↔ (0 < length (left (get_or ws i d).out (get_or ws j d).input))
  left_pair d = rw (at_from d, at_to d) ((pair d).value)

-- a link between members that stay its ends
pub link_kept : (xs ys : List Relay) (i j : ℕ) (d : Relay) → IsLink (get_or xs i d).out (get_or xs j d).input → After (get_or xs i d) 0 (get_or ys i d) → After (get_or xs j d) 0 (get_or ys j d) → IsLink (get_or ys i d).out (get_or ys j d).input
link_kept xs ys i j d l p q = IsLink-same (get_or xs i d).out (get_or ys i d).out (get_or xs j d).input (get_or ys j d).input p.sender q.receiver l

pub none_settled : (xs : List Relay) → SettledUpTo xs 0 false xs
none_settled xs = record {
  long = refl;
  kept = λ k d h. After-same (get_or xs k d);
  settled = λ k d h. absurd (omega arith);
  some = λ e. cc;
  none = λ e k d h. absurd (omega arith);
}

pub link_of : (xs : List Relay) (i : ℕ) (b : Bool) (ys : List Relay) → SettledUpTo xs i b ys → Whole xs → i < length xs → (d : Relay) → IsLink (get_or ys i d).out (get_or ys (next (length xs) i) d).input
link_of xs i b ys s w h d = link_kept xs ys i (next (length xs) i) d (w.links i d h) (s.kept i d h) (s.kept (next (length xs) i) d (next_below (length xs) i w.two h))

some_or : {A : Type 0} (b r : Bool) → (b ≡ true → A) → (r ≡ true → A) → b || r ≡ true → A
some_or true r f g e = f refl
some_or false r f g e = g e

none_or : {A B : Type 0} (b r : Bool) → (b ≡ false → A) → (r ≡ false → B) → b || r ≡ false → A × B
none_or true r f g e = cc
none_or false r f g e = (f refl, g e)

none_left : (n : ℕ) (r : Bool) → (IsTrue r ↔ (0 < n)) → r ≡ false → n ≡ 0
none_left n true h e = cc
none_left zero false h e = refl
none_left (suc n) false h e = let t : IsTrue false = h.1 (omega arith) in cc t

pub one_more : (xs : List Relay) (i : ℕ) (b : Bool) (ys ws : List Relay) (r : Bool) → SettledUpTo xs i b ys → Whole xs → i < length xs → ((y : Relay) × (z : Relay) × (ws ≡ set (set ys i y) (next (length xs) i) z) × ((d : Relay) → PairSettled (get_or ys i d) (get_or ys (next (length xs) i) d) r y z)) → SettledUpTo xs (i + 1) (b || r) ws
one_more xs i b ys ws r s w h p =
    let n : ℕ = length xs in let j : ℕ = next n i in
    let y = p.0 in let z = p.1 in
    let long : length ys ≡ n = s.long in
    let below : j < n = next_below n i w.two h in
    let apart : i ≢ j = next_other n i w.two h in
    let low : i < length ys = rw long h in
    let high : j < length ys = rw long below in
    let settled : (k : ℕ) (d : Relay) → k < i + 1 → IsSettled (get_or ws k d).out (get_or ws (next n k) d).input =
    λ k d g. elim (cases_eq k i) [
      | inl e ↦ rw e (settled_pair ys ws i j r y z p.2 low high apart p.3 d)
      | inr a ↦
          let under : k < i = omega arith in
          rw (out_pair ys ws i j r y z p.2 low high apart p.3 k d a, input_pair ys ws i j r y z p.2 low high apart p.3 (next n k) d (next_apart n k i (omega arith) h a)) (s.settled k d under)
    ] in
    let same : (k : ℕ) (d : Relay) → k < i → on_link n ws k d ≡ on_link n ys k d =
    λ k d g.
    let a : k ≢ i = omega arith in
    rw (out_pair ys ws i j r y z p.2 low high apart p.3 k d a, input_pair ys ws i j r y z p.2 low high apart p.3 (next n k) d (next_apart n k i (omega arith) h a)) in
    record {
      long = long_pair ys ws i j r y z p.2 low high apart p.3 ∙ long;
      kept = λ k d g. After-trans (get_or xs k d) 0 (get_or ys k d) 0 (get_or ws k d) (s.kept k d g) (kept_pair ys ws i j r y z p.2 low high apart p.3 k d);
      settled = settled;
      some =
          some_or b r
          (λ e. let t = s.some e in (t.0, omega (arith, t.1), λ d. rw (same t.0 d t.1) (t.2 d)))
          (λ e. (i, omega arith, λ d. (left_pair ys ws i j r y z p.2 low high apart p.3 d).0 e));
      none = λ e.
          let t = none_or b r s.none (λ f. f) e in
          λ k d g. elim (cases_eq k i) [
            | inl q ↦ rw q (none_left (on_link n ws i d) r (left_pair ys ws i j r y z p.2 low high apart p.3 d) t.1)
            | inr a ↦ let under : k < i = omega arith in same k d under ∙ t.0 k d under
          ];
    }
