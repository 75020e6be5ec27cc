-- A word that is written is read again.
use Rattle.std.proofs.Common.{◌≡◌, ℕ, suc, ◌+◌, ◌-◌, ◌/◌, ◌%◌, ◌^◌, ◌<◌, ◌≤◌, ◌≢◌, Bool, true, false, ◌&&◌, ◌||◌, leb, eqb, ℤ, pos, negsuc, List, [], ◌∷◌, length, Some, None, Ok, refl, sym, ◌∙◌, arith, rules, inl, inr}
use Rattle.std.specs.Prelude.{if◌then◌else◌}
use Rattle.std.specs.List.{list_all}
use Rattle.std.specs.Fmt as fmt
use Rattle.std.proofs.lemmas.Str.Parse.{IsNumeralModel, numerals_by_fold}
use Rattle.std.proofs.lemmas.Fmt.{digits_decimal, digits_value-decimal, length-decimal-le, decimal_nonempty, decimal_digit, decimal_step}
use Rattle.std.proofs.lemmas.Bool.{leb-true, le-leb, or_cases, eqb-true, and_parts, ne_eqb, cases_lt}
use Rattle.raid_scan.specs.Words.{Word, is_visible, is_filled, is_plain}
use Rattle.raid_tokens.specs.declared.fault.Fault.{Fault}
use Rattle.raid_program.specs.declared.program.Term.{Term}
use Rattle.raid_program.specs.declared.program.Term.TheVariants.{Reg, Value}
use Rattle.raid_tokens.specs.Spelled.{term_word, register_word}
use Rattle.raid_tokens.proofs.Fits.{IsValue, IsTerm}
use Rattle.raid_workload.specs.Rules.{is_within}
use Rattle.raid_workload.specs.Name.{is_small, is_part, is_name}
use Rattle.raid_tokens.specs.Words.{is_digit, is_number, decimal_from, decimal, number_of, signed, magnitude_of, value_of, register_of, term_of}
use Rattle.raid_tokens.proofs.Digits.{decimal_starts}

own : IsNumeralModel (λ ds. list_all is_digit ds ≡ true) (decimal_from 0)
own = numerals_by_fold _ (search rules) decimal_from (search rules)

pub are_digits : (n : ℕ) → n < 2 ^ 64 → list_all is_digit (fmt.decimal n) ≡ true
are_digits n h = digits_decimal own n h

pub number_back : (n : ℕ) → n < 2 ^ 64 → decimal (fmt.decimal n) ≡ n
number_back n h = sym (decimal_starts (fmt.decimal n)) ∙ digits_value-decimal own n h

pub number_form : (k n : ℕ) → 0 < k → n < 10 ^ k → n < 2 ^ 64 → is_number k (fmt.decimal n) ≡ true
unfolding is_number
number_form k n some short h =
    let a : leb 1 (length (fmt.decimal n)) ≡ true = le-leb _ _ (decimal_nonempty n h) in
    let b : leb (length (fmt.decimal n)) k ≡ true = le-leb _ _ (length-decimal-le k n some short h) in
    rw (a, b, are_digits n h) refl

pub number_again : (low high : ℕ) (f : Fault) (n : ℕ) → low ≤ n → n ≤ high → n < 10 ^ 9 → number_of low high f (fmt.decimal n) ≡ Ok n
unfolding number_of
number_again low high f n above below short =
    let h : n < 2 ^ 64 = omega arith in
    let form = number_form 9 n (omega arith) short h in
    let back = number_back n h in
    let a : leb low n ≡ true = le-leb _ _ above in
    let b : leb n high ≡ true = le-leb _ _ below in
    rw (form, back, a, b) refl

magnitude_again : (negative : Bool) (n : ℕ) → n ≤ (if negative then 9223372036854775808 else 9223372036854775807) → n < 10 ^ 19 → magnitude_of negative (fmt.decimal n) ≡ Ok (signed negative n)
unfolding magnitude_of
magnitude_again negative n within short =
    let h : n < 2 ^ 64 = omega arith in
    let form = number_form 19 n (omega arith) short h in
    let back = number_back n h in
    let b : leb n (if negative then 9223372036854775808 else 9223372036854775807) ≡ true = le-leb _ _ within in
    rw (form, back, b) refl

is_digit_at : (b : ℕ) → is_digit b ≡ true → (48 ≤ b) × (b ≤ 57)
is_digit_at b h = let p = and_parts (leb 48 b) (leb b 57) h in (leb-true _ _ p.0, leb-true _ _ p.1)

plain_value : (ds : List ℕ) → list_all is_digit ds ≡ true → 0 < length ds → value_of ds ≡ magnitude_of false ds
unfolding value_of
plain_value [] h some = absurd (omega arith)
plain_value (b ∷ bytes) h some =
    let p = and_parts (is_digit b) (list_all is_digit bytes) h in
    let d = is_digit_at b p.0 in
    let e : eqb b 45 ≡ false = ne_eqb b 45 (λ e. omega arith) in
    rw e refl

pub value_again : (z : ℤ) → IsValue z → value_of (fmt.signed_decimal z) ≡ Ok z
unfolding value_of
value_again (pos n) h = plain_value (fmt.decimal n) (are_digits n (omega arith)) (decimal_nonempty n (omega arith)) ∙ magnitude_again false n (omega arith) (omega arith)
value_again (negsuc n) h = magnitude_again true (suc n) (omega arith) (omega arith)

-- ---- registers and terms

pub register_again : (r : ℕ) → r < 16 → register_of (114 ∷ fmt.decimal r) ≡ Some r
unfolding register_of
register_again r lt =
    elim (cases_lt r 10) [
      | inl one ↦
          let a : leb 48 (48 + r) ≡ true = le-leb _ _ (omega arith) in
          let b : leb (48 + r) 57 ≡ true = le-leb _ _ (omega arith) in
          let d : 48 + r - 48 ≡ r = omega arith in
          rw (decimal_digit r one, a, b, d) refl
      | inr two ↦
          let q : r / 10 ≡ 1 = omega arith in
          let e : fmt.decimal r ≡ 49 ∷ (48 + r % 10) ∷ [] = decimal_step r two (omega arith) ∙ rw (q, decimal_digit 1 (omega arith)) refl in
          let a : leb 48 (48 + r % 10) ≡ true = le-leb _ _ (omega arith) in
          let b : leb (48 + r % 10) 53 ≡ true = le-leb _ _ (omega arith) in
          let d : 10 + (48 + r % 10 - 48) ≡ r = omega arith in
          rw (e, a, b, d) refl
    ]

no_register : (b : ℕ) (bytes : List ℕ) → b ≢ 114 → register_of (b ∷ bytes) ≡ None
unfolding register_of
no_register b [] ne = refl
no_register b (d ∷ []) ne = rw (ne_eqb b 114 ne) refl
no_register b (d ∷ e ∷ []) ne = rw (ne_eqb b 114 ne) refl
no_register b (d ∷ e ∷ f ∷ bytes) ne = refl

digits_no_register : (ds : List ℕ) → list_all is_digit ds ≡ true → 0 < length ds → register_of ds ≡ None
digits_no_register [] h some = absurd (omega arith)
digits_no_register (b ∷ bytes) h some =
    let p = and_parts (is_digit b) (list_all is_digit bytes) h in
    let d = is_digit_at b p.0 in
    no_register b bytes (λ e. omega arith)

value_no_register : (z : ℤ) → IsValue z → register_of (fmt.signed_decimal z) ≡ None
value_no_register (pos n) h = digits_no_register (fmt.decimal n) (are_digits n (omega arith)) (decimal_nonempty n (omega arith))
value_no_register (negsuc n) h = no_register 45 (fmt.decimal (suc n)) (λ e. omega arith)

pub term_again : (t : Term) → IsTerm t → term_of (term_word t) ≡ Ok t
unfolding term_of
term_again (Reg r) h = rw (register_again r h) refl
term_again (Value z) h = rw (value_no_register z h, value_again z h) refl

-- ---- these words are plain

digits_visible : (ds : List ℕ) → list_all is_digit ds ≡ true → list_all is_visible ds ≡ true
digits_visible [] h = refl
digits_visible (b ∷ bytes) h =
    let p = and_parts (is_digit b) (list_all is_digit bytes) h in
    let d = is_digit_at b p.0 in
    let low : leb 33 b ≡ true = le-leb _ _ (omega arith) in
    let high : leb b 126 ≡ true = le-leb _ _ (omega arith) in
    rw (low, high) (digits_visible bytes p.1)

filled : (word : List ℕ) → 0 < length word → is_filled word ≡ true
filled [] h = absurd (omega arith)
filled (b ∷ bytes) h = refl

pub number_plain : (n : ℕ) → n < 2 ^ 64 → is_plain (fmt.decimal n) ≡ true
number_plain n h = rw (filled (fmt.decimal n) (decimal_nonempty n h), digits_visible (fmt.decimal n) (are_digits n h)) refl

pub value_plain : (z : ℤ) → IsValue z → is_plain (fmt.signed_decimal z) ≡ true
value_plain (pos n) h = number_plain n (omega arith)
value_plain (negsuc n) h = digits_visible (fmt.decimal (suc n)) (are_digits (suc n) (omega arith))

pub register_plain : (r : ℕ) → r < 16 → is_plain (register_word r) ≡ true
register_plain r lt = digits_visible (fmt.decimal r) (are_digits r (omega arith))

pub term_plain : (t : Term) → IsTerm t → is_plain (term_word t) ≡ true
term_plain (Reg r) h = register_plain r h
term_plain (Value z) h = value_plain z h

within_visible : (low high b : ℕ) → is_within low high b ≡ true → 33 ≤ low → high ≤ 126 → is_visible b ≡ true
within_visible low high b h l g =
    let p = and_parts (leb low b) (leb b high) h in
    let x : leb 33 b ≡ true = le-leb _ _ (omega (arith, leb-true _ _ p.0)) in
    let y : leb b 126 ≡ true = le-leb _ _ (omega (arith, leb-true _ _ p.1)) in
    rw (x, y) refl

name_byte_visible : (b : ℕ) → is_part b ≡ true → is_visible b ≡ true
name_byte_visible b h =
    elim (or_cases (is_small b || is_digit b) (eqb b 95) h) [
      | inl front ↦
          elim (or_cases (is_small b) (is_digit b) front) [
            | inl letter ↦ within_visible 97 122 b letter (omega arith) (omega arith)
            | inr digit ↦ within_visible 48 57 b digit (omega arith) (omega arith)
          ]
      | inr last ↦ rw (eqb-true b 95 last) refl
    ]

name_bytes_visible : (bytes : List ℕ) → list_all is_part bytes ≡ true → list_all is_visible bytes ≡ true
name_bytes_visible [] h = refl
name_bytes_visible (b ∷ bytes) h =
    let p = and_parts (is_part b) (list_all is_part bytes) h in
    rw (name_byte_visible b p.0) (name_bytes_visible bytes p.1)

pub name_plain : (word : Word) → is_name word ≡ true → is_plain word ≡ true
name_plain [] h = absurd cc
name_plain (b ∷ bytes) h =
    let p = and_parts (is_small b && leb (length bytes) 15) (list_all is_part bytes) h in
    let q = and_parts (is_small b) (leb (length bytes) 15) p.0 in
    rw (within_visible 97 122 b q.0 (omega arith) (omega arith)) (name_bytes_visible bytes p.1)
