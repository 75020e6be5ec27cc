-- Which bytes stand in the words of a report: no space and no line feed, and in their parts no mark.
use Rattle.std.proofs.Common.{◌≡◌, ℕ, ℤ, ◌<◌, ◌^◌, Bool, true, false, ◌&&◌, ◌||◌, leb, eqb, List, [], ◌∷◌, ◌++◌, length, refl, ◌∙◌}
use Rattle.std.specs.List.{list_all, flat_map}
use Rattle.std.specs.Fmt.{decimal, signed_decimal}
use Rattle.std.proofs.lemmas.Bool.{and_parts}
use Rattle.std.proofs.lemmas.List.Folds.{list_all-append}
use Rattle.raid_pieces.specs.Numbers.{is_digit, IsValue}
use Rattle.raid_pieces.proofs.Written.{is_signed_byte, wider, digits_are, signed_bytes}
use Rattle.raid_workload.specs.Name.{is_small, is_part, is_name}

-- a byte of a part of a word
abbrev pub is_part_byte : ℕ → Bool
is_part_byte b = is_part b || eqb b 45 || eqb b 61

-- a byte of a word
abbrev pub is_word_byte : ℕ → Bool
is_word_byte b = is_part_byte b || eqb b 44 || eqb b 46

or_left : (a b : Bool) → a ≡ true → (a || b) ≡ true
or_left true b h = refl
or_left false b h = absurd cc

or_right : (a b : Bool) → b ≡ true → (a || b) ≡ true
or_right true b h = refl
or_right false b h = h

or_middle : (a b c : Bool) → b ≡ true → (a || b || c) ≡ true
or_middle a b c h = or_left (a || b) c (or_right a b h)

pub digit_part : (b : ℕ) → is_digit b ≡ true → is_part b ≡ true
digit_part b h = or_middle (is_small b) (is_digit b) (eqb b 95) h

pub part_is_part : (b : ℕ) → is_part b ≡ true → is_part_byte b ≡ true
part_is_part b h = or_left (is_part b || eqb b 45) (eqb b 61) (or_left (is_part b) (eqb b 45) h)

pub part_is_word : (b : ℕ) → is_part_byte b ≡ true → is_word_byte b ≡ true
part_is_word b h = or_left (is_part_byte b || eqb b 44) (eqb b 46) (or_left (is_part_byte b) (eqb b 44) h)

or_cases : (a b : Bool) (P : Bool → Type 0) → (a || b) ≡ true → (a ≡ true → P true) → (b ≡ true → P true) → P true
or_cases true b P h f g = f refl
or_cases false b P h f g = g h

signed_is_part : (b : ℕ) → is_signed_byte b ≡ true → is_part_byte b ≡ true
signed_is_part b h =
    or_cases (is_digit b) (eqb b 45) (λ t. is_part_byte b ≡ t) h
    (λ d. part_is_part b (digit_part b d))
    (λ d. or_left (is_part b || eqb b 45) (eqb b 61) (or_right (is_part b) (eqb b 45) d))

pub decimal_bytes : (n : ℕ) → n < 2 ^ 64 → list_all is_part_byte (decimal n) ≡ true
decimal_bytes n h = wider is_digit is_part_byte (decimal n) (λ b e. part_is_part b (digit_part b e)) (digits_are n h)

pub value_bytes : (z : ℤ) → IsValue z → list_all is_part_byte (signed_decimal z) ≡ true
value_bytes z h = wider is_signed_byte is_part_byte (signed_decimal z) signed_is_part (signed_bytes z h)

small_is_part : (b : ℕ) → is_small b ≡ true → is_part b ≡ true
small_is_part b h = or_left (is_small b || is_digit b) (eqb b 95) (or_left (is_small b) (is_digit b) h)

pub name_parts : (name : List ℕ) → is_name name ≡ true → list_all is_part name ≡ true
name_parts [] h = refl
name_parts (b ∷ bytes) h =
    let p = and_parts (is_small b && leb (length bytes) 15) (list_all is_part bytes) h in
    let q = and_parts (is_small b) (leb (length bytes) 15) p.0 in
    rw (small_is_part b q.0) p.1

pub name_bytes : (name : List ℕ) → is_name name ≡ true → list_all is_part_byte name ≡ true
name_bytes name h = wider is_part is_part_byte name part_is_part (name_parts name h)

-- bytes of two texts, and of parts with marks before them
pub both_bytes : (P : ℕ → Bool) (a b : List ℕ) → list_all P a ≡ true → list_all P b ≡ true → list_all P (a ++ b) ≡ true
both_bytes P a b h k = list_all-append P a b ∙ rw h k

pub marked_bytes : (P : ℕ → Bool) (mark : ℕ) (parts : List (List ℕ)) → P mark ≡ true → list_all (list_all P) parts ≡ true → list_all P (flat_map (λ next. mark ∷ next) parts) ≡ true
marked_bytes P mark [] m h = refl
marked_bytes P mark (part ∷ parts) m h =
    let p = and_parts (list_all P part) (list_all (list_all P) parts) h in
    both_bytes P (mark ∷ part) (flat_map (λ next. mark ∷ next) parts) (rw m p.0) (marked_bytes P mark parts m p.1)
