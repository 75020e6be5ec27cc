-- The forms of a word, and what stands next on a line. A word that is missing, or not of the form
-- that its place wants, is fault `Token`.
use Rattle.std.specs.Prelude.{ℕ, ℤ, pos, neg_ℤ, ◌+◌, ◌-◌, ◌*◌, Bool, true, false, ◌&&◌, ◌||◌, ◌==◌, nat_le, if◌then◌else◌, List, [], ◌∷◌, length, Option, Some, None, Result, Ok, Err}
use Rattle.std.specs.List.{list_all}
use Rattle.std.specs.Str.{bytes_eq}
use Rattle.raid_scan.specs.Words.{Word}
use Rattle.raid_tokens.specs.declared.fault.Fault.{Fault}
use Rattle.raid_tokens.specs.declared.fault.Fault.TheVariants.{Token, Range}
use Rattle.raid_program.specs.declared.program.Term.{Term}
use Rattle.raid_program.specs.declared.program.Term.TheVariants.{Reg, Value}
use Rattle.raid_tokens.specs.Reading.{◌>>=◌}
use Rattle.raid_workload.specs.Name.{is_name}
use Rattle.raid_workload.specs.Rules.{is_within}

-- ---- the forms

-- the bytes that they are made of
abbrev pub digit_0 : ℕ
digit_0 = 48

abbrev pub digit_1 : ℕ
digit_1 = 49

abbrev pub digit_5 : ℕ
digit_5 = 53

abbrev pub digit_9 : ℕ
digit_9 = 57

abbrev pub letter_r : ℕ
letter_r = 114

abbrev pub minus_sign : ℕ
minus_sign = 45

abbrev pub is_digit : ℕ → Bool
is_digit b = is_within digit_0 digit_9 b

-- 1 to most digits
unfoldable pub is_number : ℕ → Word → Bool
is_number most word = is_within 1 most (length word) && list_all is_digit word

-- the number behind these digits, of which the first stand for n
abbrev pub decimal_from : ℕ → List ℕ → ℕ
decimal_from n [] = n
decimal_from n (b ∷ bytes) = decimal_from (10 * n + (b - digit_0)) bytes

unfoldable pub decimal : List ℕ → ℕ
decimal digits = decimal_from 0 digits

-- r0 to r15
unfoldable pub register_of : Word → Option ℕ
register_of [] = None
register_of (r ∷ []) = None
register_of (r ∷ d ∷ []) = if r == letter_r && is_digit d then Some (d - digit_0) else None
register_of (r ∷ d ∷ e ∷ []) = if r == letter_r && d == digit_1 && is_within digit_0 digit_5 e then Some (10 + (e - digit_0)) else None
register_of (r ∷ d ∷ e ∷ f ∷ bytes) = None

abbrev pub signed : Bool → ℕ → ℤ
signed negative n = if negative then neg_ℤ (pos n) else pos n

-- a sign's 1 to 19 digits, within i64
unfoldable pub magnitude_of : Bool → List ℕ → Result ℤ Fault
magnitude_of negative digits =
    if is_number 19 digits then (if nat_le (decimal digits) (if negative then 9223372036854775808 else 9223372036854775807) then Ok (signed negative (decimal digits)) else Err Range) else Err Token

unfoldable pub value_of : Word → Result ℤ Fault
value_of [] = Err Token
value_of (b ∷ bytes) = if b == minus_sign then magnitude_of true bytes else magnitude_of false (b ∷ bytes)

-- ---- what stands next

unfoldable pub word_at : List Word → Result (Word × List Word) Fault
word_at [] = Err Token
word_at (word ∷ words) = Ok (word, words)

unfoldable pub keyword_at : List ℕ → List Word → Result (List Word) Fault
keyword_at expected words = do
  word ← word_at words
  if bytes_eq word.0 expected then Ok word.1 else Err Token

unfoldable pub name_at : List Word → Result (Word × List Word) Fault
name_at words = do
  word ← word_at words
  if is_name word.0 then Ok (word.0, word.1) else Err Token

-- a number of 1 to 9 digits from low to high, or else the fault
unfoldable pub number_of : ℕ → ℕ → Fault → Word → Result ℕ Fault
number_of low high otherwise word = if is_number 9 word then (if is_within low high (decimal word) then Ok (decimal word) else Err otherwise) else Err Token

unfoldable pub number_at : ℕ → ℕ → Fault → List Word → Result (ℕ × List Word) Fault
number_at low high otherwise words = do
  word ← word_at words
  n ← number_of low high otherwise word.0
  Ok (n, word.1)

unfoldable pub value_at : List Word → Result (ℤ × List Word) Fault
value_at words = do
  word ← word_at words
  value ← value_of word.0
  Ok (value, word.1)

abbrev pub register_or_token : Option ℕ → List Word → Result (ℕ × List Word) Fault
register_or_token None words = Err Token
register_or_token (Some r) words = Ok (r, words)

unfoldable pub register_at : List Word → Result (ℕ × List Word) Fault
register_at words = do
  word ← word_at words
  register_or_token (register_of word.0) word.1

abbrev pub register_or_value : Option ℕ → Result ℤ Fault → Result Term Fault
register_or_value (Some r) value = Ok (Reg r)
register_or_value None (Ok value) = Ok (Value value)
register_or_value None (Err f) = Err f

unfoldable pub term_of : Word → Result Term Fault
term_of word = register_or_value (register_of word) (value_of word)

unfoldable pub term_at : List Word → Result (Term × List Word) Fault
term_at words = do
  word ← word_at words
  term ← term_of word.0
  Ok (term, word.1)

-- no word is left
unfoldable pub end_at : List Word → Result (Unit {0}) Fault
end_at [] = Ok tt
end_at (word ∷ words) = Err Token
