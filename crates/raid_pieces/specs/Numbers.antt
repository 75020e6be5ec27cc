-- The numbers that words are. A word is a number exactly where it is how that number is printed.
use Rattle.std.specs.Prelude.{ℕ, ℤ, pos, negsuc, neg_ℤ, ◌<◌, ◌^◌, ◌+◌, ◌-◌, ◌*◌, Bool, true, false, ◌&&◌, ◌==◌, nat_le, if◌then◌else◌, List, [], ◌∷◌, length, Option, Some, None, bytes_eq}
use Rattle.std.specs.List.{list_all}
use Rattle.std.specs.Fmt.{decimal, signed_decimal}

abbrev pub is_digit : ℕ → Bool
is_digit b = nat_le 48 b && nat_le b 57

-- one digit, and at most so many
unfoldable pub are_digits : ℕ → List ℕ → Bool
are_digits most word = nat_le 1 (length word) && nat_le (length word) most && list_all is_digit word

-- the number behind these digits, of which the first stand for n
abbrev pub worth_from : ℕ → List ℕ → ℕ
worth_from n [] = n
worth_from n (b ∷ bytes) = worth_from (10 * n + (b - 48)) bytes

unfoldable pub worth : List ℕ → ℕ
worth digits = worth_from 0 digits

-- a number of at most so much
unfoldable pub number_of : ℕ → List ℕ → Option ℕ
number_of most word =
    if are_digits 10 word && nat_le (worth word) most && bytes_eq word (decimal (worth word)) then Some (worth word) else None

abbrev pub signed : Bool → ℕ → ℤ
signed negative n = if negative then neg_ℤ (pos n) else pos n

-- the value of a sign and digits, within i64
unfoldable pub magnitude_of : Bool → List ℕ → Option ℤ
magnitude_of negative digits =
    if are_digits 19 digits && nat_le (worth digits) (if negative then 9223372036854775808 else 9223372036854775807) then Some (signed negative (worth digits)) else None

-- the value of a word that may have leading zeros
unfoldable pub loose_value_of : List ℕ → Option ℤ
loose_value_of [] = None
loose_value_of (b ∷ bytes) = if b == 45 then magnitude_of true bytes else magnitude_of false (b ∷ bytes)

abbrev pub exact_value : List ℕ → Option ℤ → Option ℤ
exact_value word None = None
exact_value word (Some z) = if bytes_eq word (signed_decimal z) then Some z else None

unfoldable pub value_of : List ℕ → Option ℤ
value_of word = exact_value word (loose_value_of word)

-- the value is one of i64
abbrev pub IsValue : ℤ → Type 0
IsValue (pos n) = n < 2 ^ 63
IsValue (negsuc n) = n < 2 ^ 63
