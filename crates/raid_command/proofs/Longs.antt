-- Which words a command with long options alone refuses, and which are plain.
use Rattle.std.proofs.Common.{◌≡◌, ◌∙◌, ◌<◌, ◌∷◌, ◌==◌, ◌⊎◌, inl, inr, ℕ, Bool, List, [], false, refl, ap, arith, length, Option, Some, None, suc, zero, cond, drop}
use Rattle.std.specs.List.{before_first}
use Rattle.std.specs.Str.{bytes_eq, chars}
use Rattle.std.specs.Prelude.{encode_utf8, slice_get}
use Rattle.std.specs.Option.{option_map_or}
use Rattle.clap.specs.Lexer.{long_of, name_and_value, short_of}
use Rattle.clap.specs.Walk.{Held, Outcome, Row, Rule, Text, Waiting, after_flag, arg_by_long, arg_by_short, bundle_met, bundle_step, idle, option, long_or_other, plain, positional, short_or_plain, short_word, subcommand_or_other, trailing, word_met}
use Rattle.clap.specs.Simple.{Shape}
use Rattle.clap.specs.Faults.{bundle_fault, bundle_step_fault, flag_word_fault, flags_fault, long_fault, other_fault, short_fault, word_fault}
use Rattle.clap.specs.declared.error.kind.ErrorKind.TheVariants as kind
use Rattle.raid_command.specs.Asked.{Word, is_equals_sign}
use Rattle.raid_command.proofs.Walks.{HasLongsAlone, IsPlain, IsRefused}

abbrev held : List Row → Option (Text × List Text) → Held
held rows pending = record { rows = rows; pending = pending; skip = 0 }

-- ---- `--name` and `--name=value` of no option

module _ (s : Shape) (x : ℕ) (xs : Word) (unknown : arg_by_long s.rules (before_first is_equals_sign (x ∷ xs)) ≡ None) where
  long_is : (h : Held) → long_fault s.rules s.args_override_self (arg_by_long s.rules (before_first is_equals_sign (x ∷ xs))) (name_and_value (x ∷ xs)).1 h ≡ kind.UnknownArgument ∷ []
  long_is h = ap (λ a. long_fault s.rules s.args_override_self a (name_and_value (x ∷ xs)).1 h) unknown

  pub refuses_long : IsRefused s (45 ∷ 45 ∷ x ∷ xs)
  refuses_long idle rows pending = long_is (held rows pending)
  refuses_long (option id) rows pending = long_is (held rows pending)
  refuses_long positional rows pending = long_is (held rows pending)

-- ---- `-abc`

flags_refused : (c : List Rule) (again : Bool) (k : ℕ) (flags : Text) (x : ℕ) (h : Held) → 0 < k → slice_get (chars flags) 0 ≡ Some x → arg_by_short c x ≡ None
    → flags_fault c again k flags 0 h ≡ kind.UnknownArgument ∷ []
unfolding flags_fault
flags_refused c again zero flags x h some first none = absurd (omega arith)
flags_refused c again (suc k) flags x h some first none =
    ap (λ o. bundle_step_fault c again o flags 0 h (flags_fault c again k)) first
    ∙ ap (λ a. short_fault c again a (drop (length (encode_utf8 x)) flags) h (flags_fault c again k (drop (length (encode_utf8 x)) flags) 0)) none

flags_pass : (c : List Rule) (again : Bool) (k : ℕ) (flags : Text) (h : Held) → slice_get (chars flags) 0 ≡ None → flags_fault c again k flags 0 h ≡ []
unfolding flags_fault
flags_pass c again zero flags h none = refl
flags_pass c again (suc k) flags h none = ap (λ o. bundle_step_fault c again o flags 0 h (flags_fault c again k)) none

flags_met : (c : List Rule) (k : ℕ) (flags : Text) (h : Held) → slice_get (chars flags) 0 ≡ None → bundle_met c k flags 0 plain h ≡ (h, plain)
unfolding bundle_met
flags_met c zero flags h none = refl
flags_met c (suc k) flags h none = ap (λ o. bundle_step c o flags 0 plain h (bundle_met c k)) none

module _ (s : Shape) (w : Word) (not_end : bytes_eq w (45 ∷ 45 ∷ []) ≡ false) (no_long : long_of w ≡ None) where
  fault_is : (h : Held) → other_fault s None w h ≡ option_map_or (λ flags. bundle_fault s.rules s.args_override_self flags h) (short_of w) []
  fault_is h = λ i. cond (not_end i) [] (flag_word_fault s.rules s.args_override_self (no_long i) w h)

  word_is : (waiting : Waiting) (h : Held) → word_fault s [] false waiting w h ≡ option_map_or (λ flags. bundle_fault s.rules s.args_override_self flags h) (short_of w) []
  word_is idle h = fault_is h
  word_is (option id) h = fault_is h
  word_is positional h = fault_is h

  other_is : (waiting : Waiting) (h : Held) → subcommand_or_other s.rules None waiting 1 w h ≡ short_or_plain s.rules waiting w (short_of w) h
  other_is waiting h = λ i. cond (not_end i) (h, trailing 1) (long_or_other s.rules waiting w (no_long i) h)

  met_is : (waiting : Waiting) (h : Held) → word_met s.rules [] false waiting 1 w h ≡ short_or_plain s.rules waiting w (short_of w) h
  met_is idle h = other_is idle h
  met_is (option id) h = other_is (option id) h
  met_is positional h = other_is positional h

  pub plain_word_is : short_of w ≡ None → IsPlain s w
  plain_word_is no_short = record {
    passes = λ waiting rows pending. word_is waiting (held rows pending) ∙ ap (λ o. option_map_or (λ flags. bundle_fault s.rules s.args_override_self flags (held rows pending)) o []) no_short;
    met = λ waiting rows pending. met_is waiting (held rows pending) ∙ ap (λ o. short_or_plain s.rules waiting w o (held rows pending)) no_short;
  }

  pub bundle_form : (b : ℕ) (u : Word) → short_of w ≡ Some (b ∷ u) → HasLongsAlone s → IsRefused s w ⊎ IsPlain s w
  bundle_form b u short longs = go (slice_get (chars (b ∷ u)) 0) refl
    where
      some : 0 < length (b ∷ u)
      some = omega arith

      fault : (waiting : Waiting) (h : Held) → word_fault s [] false waiting w h ≡ bundle_fault s.rules s.args_override_self (b ∷ u) h
      fault waiting h = word_is waiting h ∙ ap (λ o. option_map_or (λ flags. bundle_fault s.rules s.args_override_self flags h) o []) short

      met : (waiting : Waiting) (h : Held) → word_met s.rules [] false waiting 1 w h ≡ short_word s.rules waiting w (b ∷ u) h
      met waiting h = met_is waiting h ∙ ap (λ o. short_or_plain s.rules waiting w o h) short

      go : (o : Option ℕ) → slice_get (chars (b ∷ u)) 0 ≡ o → IsRefused s w ⊎ IsPlain s w
      go (Some x) first = inl (λ waiting rows pending. fault waiting (held rows pending) ∙ flags_refused s.rules s.args_override_self (length (b ∷ u)) (b ∷ u) x (held rows pending) some first (longs.shorts x))
      go None first = inr (record {
        passes = λ waiting rows pending. fault waiting (held rows pending) ∙ flags_pass s.rules s.args_override_self (length (b ∷ u)) (b ∷ u) (held rows pending) first;
        met = λ waiting rows pending. met waiting (held rows pending) ∙ ap (λ (m : Held × Outcome). after_flag s.rules waiting w m.0 m.1) (flags_met s.rules (length (b ∷ u)) (b ∷ u) (held rows pending) first);
      })

-- ---- the empty word, `-`, and words that begin with one hyphen or with none

pub plain_empty : (s : Shape) → IsPlain s []
plain_empty s = plain_word_is s [] refl refl refl

pub plain_hyphen : (s : Shape) → IsPlain s (45 ∷ [])
plain_hyphen s = plain_word_is s (45 ∷ []) refl refl refl

pub plain_other : (s : Shape) (a : ℕ) (t : Word) → (a == 45) ≡ false → IsPlain s (a ∷ t)
plain_other s a t isnt = plain_word_is s (a ∷ t) (rw isnt refl) (rw isnt refl) (rw isnt refl)

pub short_form : (s : Shape) (b : ℕ) (u : Word) → (b == 45) ≡ false → HasLongsAlone s → IsRefused s (45 ∷ b ∷ u) ⊎ IsPlain s (45 ∷ b ∷ u)
short_form s b u isnt longs = bundle_form s (45 ∷ b ∷ u) (rw isnt refl) (rw isnt refl) b u (rw isnt refl) longs
