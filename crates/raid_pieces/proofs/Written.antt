-- Numbers as they are printed are read again, and what is read is printed so.
use Rattle.std.proofs.Common.{◌≡◌, ℕ, zero, suc, ◌^◌, ◌<◌, ◌≤◌, Bool, true, false, cond, ◌&&◌, ◌||◌, leb, eqb, ℤ, pos, negsuc, List, [], ◌∷◌, length, Option, Some, None, refl, sym, ap, subst, ◌∙◌, arith, rules}
use Rattle.std.specs.Prelude.{if◌then◌else◌, bytes_eq}
use Rattle.std.specs.List.{list_all}
use Rattle.std.specs.Fmt.{decimal, signed_decimal}
use Rattle.std.proofs.lemmas.Str.Parse.{IsNumeralModel, numerals_by_fold}
use Rattle.std.proofs.lemmas.Slice.Eq.{bytes_eq-Decides}
use Rattle.std.proofs.lemmas.Fmt.{digits_decimal, digits_value-decimal, length-decimal-le, decimal_nonempty}
use Rattle.std.proofs.lemmas.Bool.{leb-true, le-leb, and_parts, ne_eqb}
use Rattle.raid_pieces.specs.Numbers.{is_digit, are_digits, worth_from, worth, number_of, signed, magnitude_of, loose_value_of, exact_value, value_of, IsValue}
use Rattle.raid_pieces.proofs.Digits.{worth_starts}

own : IsNumeralModel (λ ds. list_all is_digit ds ≡ true) (worth_from 0)
own = numerals_by_fold _ (search rules) worth_from (search rules)

pub digits_are : (n : ℕ) → n < 2 ^ 64 → list_all is_digit (decimal n) ≡ true
digits_are n h = digits_decimal own n h

worth_back : (n : ℕ) → n < 2 ^ 64 → worth (decimal n) ≡ n
worth_back n h = sym (worth_starts (decimal n)) ∙ digits_value-decimal own n h

digits_form : (k n : ℕ) → 0 < k → n < 10 ^ k → n < 2 ^ 64 → are_digits k (decimal n) ≡ true
unfolding are_digits
digits_form k n some short h =
    let a : leb 1 (length (decimal n)) ≡ true = le-leb _ _ (decimal_nonempty n h) in
    let b : leb (length (decimal n)) k ≡ true = le-leb _ _ (length-decimal-le k n some short h) in
    rw (a, b, digits_are n h) refl

pub bytes_same : (word : List ℕ) → bytes_eq word word ≡ true
bytes_same word = let d = bytes_eq-Decides word word in d.1 refl

pub same_bytes : (a b : List ℕ) → bytes_eq a b ≡ true → a ≡ b
same_bytes a b h = let d = bytes_eq-Decides a b in d.0 h

pub number_again : (most n : ℕ) → n ≤ most → n < 2 ^ 32 → number_of most (decimal n) ≡ Some n
unfolding number_of
number_again most n le short =
    let h : n < 2 ^ 64 = omega arith in
    let form = digits_form 10 n (omega arith) (omega arith) h in
    let back = worth_back n h in
    let a : leb n most ≡ true = le-leb _ _ le in
    rw (form, back, a, bytes_same (decimal n)) refl

-- the value of an if that has one
pub some_if : {A : Type 0} (b : Bool) (x y : A) → cond b (Some x) None ≡ Some y → (b ≡ true) × (x ≡ y)
some_if true x y e = (refl, cc)
some_if false x y e = absurd cc

pub number_exact : (most : ℕ) (word : List ℕ) (n : ℕ) → number_of most word ≡ Some n → (decimal n ≡ word) × (n ≤ most)
unfolding number_of
number_exact most word n e =
    let s = some_if (are_digits 10 word && leb (worth word) most && bytes_eq word (decimal (worth word))) (worth word) n e in
    let p = and_parts (are_digits 10 word && leb (worth word) most) (bytes_eq word (decimal (worth word))) s.0 in
    let q = and_parts (are_digits 10 word) (leb (worth word) most) p.0 in
    (rw (← s.1) (sym (same_bytes word (decimal (worth word)) p.1)), rw (← s.1) (leb-true _ _ q.1))

magnitude_again : (negative : Bool) (n : ℕ) → n ≤ (if negative then 9223372036854775808 else 9223372036854775807) → n < 10 ^ 19 → magnitude_of negative (decimal n) ≡ Some (signed negative n)
unfolding magnitude_of
magnitude_again negative n within short =
    let h : n < 2 ^ 64 = omega arith in
    let form = digits_form 19 n (omega arith) short h in
    let back = worth_back n h in
    let b : leb n (if negative then 9223372036854775808 else 9223372036854775807) ≡ true = le-leb _ _ within in
    rw (form, back, b) refl

is_digit_at : (b : ℕ) → is_digit b ≡ true → (48 ≤ b) × (b ≤ 57)
is_digit_at b h = let p = and_parts (leb 48 b) (leb b 57) h in (leb-true _ _ p.0, leb-true _ _ p.1)

loose_plain : (ds : List ℕ) → list_all is_digit ds ≡ true → 0 < length ds → loose_value_of ds ≡ magnitude_of false ds
unfolding loose_value_of
loose_plain [] h some = absurd (omega arith)
loose_plain (b ∷ bytes) h some =
    let p = and_parts (is_digit b) (list_all is_digit bytes) h in
    let d = is_digit_at b p.0 in
    let e : eqb b 45 ≡ false = ne_eqb b 45 (λ e. omega arith) in
    rw e refl

loose_again : (z : ℤ) → IsValue z → loose_value_of (signed_decimal z) ≡ Some z
unfolding loose_value_of
loose_again (pos n) h = loose_plain (decimal n) (digits_are n (omega arith)) (decimal_nonempty n (omega arith)) ∙ magnitude_again false n (omega arith) (omega arith)
loose_again (negsuc n) h = magnitude_again true (suc n) (omega arith) (omega arith)

pub value_again : (z : ℤ) → IsValue z → value_of (signed_decimal z) ≡ Some z
unfolding value_of
value_again z h = ap (exact_value (signed_decimal z)) (loose_again z h) ∙ rw (bytes_same (signed_decimal z)) refl

signed_fits : (negative : Bool) (n : ℕ) → n ≤ (if negative then 9223372036854775808 else 9223372036854775807) → IsValue (signed negative n)
signed_fits true zero le = omega arith
signed_fits true (suc n) le = omega arith
signed_fits false n le = omega arith

magnitude_fits : (negative : Bool) (digits : List ℕ) (z : ℤ) → magnitude_of negative digits ≡ Some z → IsValue z
unfolding magnitude_of
magnitude_fits negative digits z e =
    let s = some_if (are_digits 19 digits && leb (worth digits) (if negative then 9223372036854775808 else 9223372036854775807)) (signed negative (worth digits)) z e in
    let p = and_parts (are_digits 19 digits) (leb (worth digits) (if negative then 9223372036854775808 else 9223372036854775807)) s.0 in
    subst IsValue s.1 (signed_fits negative (worth digits) (leb-true _ _ p.1))

either_fits : (b : Bool) (x y : List ℕ) (z : ℤ) → cond b (magnitude_of true x) (magnitude_of false y) ≡ Some z → IsValue z
either_fits true x y z e = magnitude_fits true x z e
either_fits false x y z e = magnitude_fits false y z e

loose_fits : (word : List ℕ) (z : ℤ) → loose_value_of word ≡ Some z → IsValue z
unfolding loose_value_of
loose_fits [] z e = absurd cc
loose_fits (b ∷ bytes) z e = either_fits (eqb b 45) bytes (b ∷ bytes) z e

exact_parts : (word : List ℕ) (o : Option ℤ) (z : ℤ) → exact_value word o ≡ Some z → (o ≡ Some z) × (signed_decimal z ≡ word)
exact_parts word None z e = absurd cc
exact_parts word (Some y) z e =
    let s = some_if (bytes_eq word (signed_decimal y)) y z e in
    (ap some s.1, rw (← s.1) (sym (same_bytes word (signed_decimal y) s.0)))
  where
    some : ℤ → Option ℤ
    some x = Some x

pub value_exact : (word : List ℕ) (z : ℤ) → value_of word ≡ Some z → (signed_decimal z ≡ word) × IsValue z
unfolding value_of
value_exact word z e =
    let p = exact_parts word (loose_value_of word) z e in
    (p.1, loose_fits word z p.0)

-- ---- which bytes are in them

abbrev pub is_signed_byte : ℕ → Bool
is_signed_byte b = is_digit b || eqb b 45

or_left : (a b : Bool) → a ≡ true → (a || b) ≡ true
or_left true b h = refl
or_left false b h = absurd cc

-- bytes of a class are bytes of a wider one
pub wider : (P Q : ℕ → Bool) (bytes : List ℕ) → ((b : ℕ) → P b ≡ true → Q b ≡ true) → list_all P bytes ≡ true → list_all Q bytes ≡ true
wider P Q [] f h = refl
wider P Q (b ∷ bytes) f h = let p = and_parts (P b) (list_all P bytes) h in rw (f b p.0) (wider P Q bytes f p.1)

pub signed_bytes : (z : ℤ) → IsValue z → list_all is_signed_byte (signed_decimal z) ≡ true
signed_bytes (pos n) h = wider is_digit is_signed_byte (decimal n) (λ b e. or_left (is_digit b) (eqb b 45) e) (digits_are n (omega arith))
signed_bytes (negsuc n) h = wider is_digit is_signed_byte (decimal (suc n)) (λ b e. or_left (is_digit b) (eqb b 45) e) (digits_are (suc n) (omega arith))
