-- What stands next on a line that was written.
use Rattle.std.proofs.Common.{◌≡◌, ℕ, ◌^◌, ◌<◌, ◌≤◌, true, ℤ, List, ◌∷◌, Ok, refl}
use Rattle.std.specs.Fmt as fmt
use Rattle.std.specs.Str.{bytes_eq}
use Rattle.std.proofs.lemmas.Slice.Eq.{bytes_eq-Decides}
use Rattle.raid_scan.specs.Words.{Word}
use Rattle.raid_tokens.specs.declared.fault.Fault.{Fault}
use Rattle.raid_program.specs.declared.program.Term.{Term}
use Rattle.raid_tokens.specs.Spelled.{term_word, register_word}
use Rattle.raid_tokens.proofs.Fits.{IsValue, IsTerm}
use Rattle.raid_workload.specs.Name.{is_name}
use Rattle.raid_tokens.specs.Words.{word_at, keyword_at, name_at, number_at, value_at, register_at, term_at}
use Rattle.raid_tokens.proofs.Written.{number_again, value_again, register_again, term_again}

pub bytes_same : (word : Word) → bytes_eq word word ≡ true
bytes_same word = let d = bytes_eq-Decides word word in d.1 refl

pub keyword_again : (word : Word) (words : List Word) → keyword_at word (word ∷ words) ≡ Ok words
unfolding keyword_at word_at
keyword_again word words = rw (bytes_same word) refl

pub name_at_again : (word : Word) (words : List Word) → is_name word ≡ true → name_at (word ∷ words) ≡ Ok (word, words)
unfolding name_at word_at
name_at_again word words h = rw h refl

pub number_at_again : (low high : ℕ) (f : Fault) (n : ℕ) (words : List Word) → low ≤ n → n ≤ high → n < 10 ^ 9 → number_at low high f (fmt.decimal n ∷ words) ≡ Ok (n, words)
unfolding number_at word_at
number_at_again low high f n words above below short = rw (number_again low high f n above below short) refl

pub value_at_again : (z : ℤ) (words : List Word) → IsValue z → value_at (fmt.signed_decimal z ∷ words) ≡ Ok (z, words)
unfolding value_at word_at
value_at_again z words h = rw (value_again z h) refl

pub register_at_again : (r : ℕ) (words : List Word) → r < 16 → register_at (register_word r ∷ words) ≡ Ok (r, words)
unfolding register_at word_at
register_at_again r words h = rw (register_again r h) refl

pub term_at_again : (t : Term) (words : List Word) → IsTerm t → term_at (term_word t ∷ words) ≡ Ok (t, words)
unfolding term_at word_at
term_at_again t words h = rw (term_again t h) refl
