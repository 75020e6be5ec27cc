-- What the words of a command line ask for.
use Rattle.std.specs.Prelude.{ℕ, Bool, true, false, ◌&&◌, ◌==◌, nat_le, List, [], ◌∷◌, length, codes, Option, Some, None, if◌then◌else◌}
use Rattle.std.specs.List.{after_first, before_first, flat_map, list_all, list_any}
use Rattle.std.specs.Char.{is_ascii_digit}
use Rattle.std.specs.Str.{bytes_eq}
use Rattle.std.specs.Str.Parse.{digits_value}
use Rattle.raid_command.specs.declared.asked.Command.{Command}
use Rattle.raid_command.specs.declared.asked.Command.TheVariants.{Run, Make, Check, Advise}

-- a word of the command line, as its bytes
abbrev pub Word : Type 0
Word = List ℕ

-- 1 to 9 decimal digits
abbrev pub is_number : Word → Bool
is_number word = nat_le 1 (length word) && (nat_le (length word) 9 && list_all is_ascii_digit word)

-- a number from 1 to 2,000
abbrev pub is_count : Word → Bool
is_count word = is_number word && (nat_le 1 (digits_value 10 word) && nat_le (digits_value 10 word) 2000)

-- what the words of a seed and of a count ask for
abbrev pub made : Word → Word → Option Command
made seed count =
    if is_number seed && is_count count then Some (Make (digits_value 10 seed) (digits_value 10 count)) else None

-- `run` is followed by nothing or by `--brief`
abbrev pub run_of : List Word → Option Command
run_of [] = Some (Run false)
run_of (word ∷ []) = if bytes_eq word (codes "--brief") then Some (Run true) else None
run_of (word ∷ next ∷ words) = None

-- the word begins with `--`
abbrev pub begins_with_hyphens : Word → Bool
begins_with_hyphens [] = false
begins_with_hyphens (a ∷ []) = false
begins_with_hyphens (a ∷ b ∷ bytes) = a == 45 && b == 45

-- `=`
abbrev pub is_equals_sign : ℕ → Bool
is_equals_sign byte = byte == 61

-- `--name=value` as the two words `--name` and `value`; any other word as it is
abbrev pub spread : Word → List Word
spread word =
    if begins_with_hyphens word && list_any is_equals_sign word
    then before_first is_equals_sign word ∷ after_first is_equals_sign word ∷ [] else word ∷ []

-- two options, each a name and its value, are a seed and a count, in either order
abbrev pub options_of : List Word → Option Command
options_of (name ∷ value ∷ other ∷ its_value ∷ []) =
    if bytes_eq name (codes "--seed") && bytes_eq other (codes "--count") then made value its_value
    else (if bytes_eq name (codes "--count") && bytes_eq other (codes "--seed") then made its_value value else None)
options_of _ = None

-- `make` is followed by its two options, each in two words or in one
abbrev pub make_of : List Word → Option Command
make_of words = options_of (flat_map spread words)

-- nothing follows `check`
abbrev pub check_of : List Word → Option Command
check_of [] = Some Check
check_of (word ∷ words) = None

-- what the word of a count of ends asks for
abbrev pub advised : Word → Option Command
advised last = if is_count last then Some (Advise (digits_value 10 last)) else None

-- one option, a name and its value, is a count of ends
abbrev pub last_of : List Word → Option Command
last_of (name ∷ value ∷ []) = if bytes_eq name (codes "--last") then advised value else None
last_of _ = None

-- `advise` is followed by its option, in two words or in one
abbrev pub advise_of : List Word → Option Command
advise_of words = last_of (flat_map spread words)

-- what the words of a command line ask for, if they are one of its forms
abbrev pub command_of : List Word → Option Command
command_of [] = None
command_of (word ∷ words) =
    if bytes_eq word (codes "run") then run_of words
    else (if bytes_eq word (codes "make") then make_of words
    else (if bytes_eq word (codes "check") then check_of words
    else (if bytes_eq word (codes "advise") then advise_of words else None)))
