-- Numbers of up to 19 digits.
use Rattle.std.proofs.Common.{◌≡◌, ℕ, zero, suc, ◌+◌, ◌-◌, ◌*◌, ◌^◌, ◌<◌, ◌≤◌, ◌&&◌, true, leb, List, length, get_or, drop, refl, sym, arith, add-one, add-zero, add-suc, inl, inr}
use Rattle.std.proofs.Math.Nat.{pow-succ'}
use Rattle.std.proofs.lemmas.Bool.{leb-true, le-leb, and_parts, both_ways, cases_Bool}
use Rattle.std.proofs.lemmas.List.{at_drop_more}
use Rattle.std.proofs.lemmas.List.Folds.{list_all_at}
use Rattle.std.specs.List.{list_all}
use Rattle.raid_pieces.specs.Numbers.{is_digit, are_digits, worth_from, worth}

pub pow_step : (i : ℕ) → 10 ^ (i + 1) ≡ 10 * 10 ^ i
pow_step i = rw (add-one i, pow-succ') refl

pow_le : (i d : ℕ) → 10 ^ i ≤ 10 ^ (i + d)
pow_le i zero = rw add-zero (omega arith)
pow_le i (suc d) = let h = pow_le i d in rw (add-suc, pow-succ') (omega arith)

pub pow_below : (i : ℕ) → i < 19 → 10 ^ i ≤ 10 ^ 18
pow_below i lt = let e : i + (18 - i) ≡ 18 = omega arith in rw e at (pow_le i (18 - i))

-- ten digits' places more
pub worth_step : (n i : ℕ) (d : ℕ) → n < 10 ^ i → d ≤ 57 → 10 * n + (d - 48) < 10 ^ (i + 1)
worth_step n i d lt le = rw pow_step (omega arith)

pub number_len : (most : ℕ) (word : List ℕ) → are_digits most word ≡ true → (1 ≤ length word) × (length word ≤ most)
unfolding are_digits
number_len most word h =
    let p = and_parts (leb 1 (length word) && leb (length word) most) (list_all is_digit word) h in
    let q = and_parts (leb 1 (length word)) (leb (length word) most) p.0 in
    (leb-true _ _ q.0, leb-true _ _ q.1)

pub digit_at : (most : ℕ) (word : List ℕ) (i : ℕ) → are_digits most word ≡ true → i < length word → (48 ≤ get_or word i 0) × (get_or word i 0 ≤ 57)
unfolding are_digits
digit_at most word i h lt =
    let p = and_parts (leb 1 (length word) && leb (length word) most) (list_all is_digit word) h in
    elim (cases_Bool (is_digit (get_or word i 0))) [
      | inl pass ↦ let q = and_parts (leb 48 (get_or word i 0)) (leb (get_or word i 0) 57) pass in (leb-true _ _ q.0, leb-true _ _ q.1)
      | inr fail ↦ absurd (both_ways (list_all is_digit word) (list_all_at is_digit word i 0 lt fail) p.1)
    ]

pub worth_more : (n : ℕ) (word : List ℕ) (i : ℕ) → i < length word → worth_from (10 * n + (get_or word i 0 - 48)) (drop (i + 1) word) ≡ worth_from n (drop i word)
worth_more n word i lt = sym (at_drop_more (worth_from n) word i 0 lt)

pub worth_starts : (word : List ℕ) → worth_from 0 word ≡ worth word
unfolding worth
worth_starts word = refl

pub number_longer : (word : List ℕ) → are_digits 10 word ≡ true → are_digits 19 word ≡ true
unfolding are_digits
number_longer word h =
    let p = and_parts (leb 1 (length word) && leb (length word) 10) (list_all is_digit word) h in
    let q = and_parts (leb 1 (length word)) (leb (length word) 10) p.0 in
    let r : leb (length word) 19 ≡ true = le-leb _ _ (omega (arith, leb-true _ _ q.1)) in
    rw (q.0, r, p.1) refl
