-- What `clap` finds behind `run` is what the words ask for.
use Rattle.std.proofs.Common.{◌≡◌, ◌∙◌, ◌∷◌, ◌++◌, ℕ, Bool, List, [], true, false, true≢false, refl, sym, ap, Option, Some, None, codes, subst}
use Rattle.std.specs.List.{before_first, list_any}
use Rattle.std.specs.Str.{bytes_eq}
use Rattle.clap.specs.Values.{bool_text}
use Rattle.clap.specs.Walk.{Row, Text, Walk, arg_by_long, idle, one_of, rows_of}
use Rattle.clap.specs.Simple.{App, Shape, built}
use Rattle.clap.specs.declared.builder.value_parser.Reading.TheVariants.{AsWritten}
use Rattle.clap.specs.declared.parser.matches.ValueSource.TheVariants.{CommandLine}
use Rattle.clap.specs.declared.error.kind.ErrorKind.TheVariants as kind
use Rattle.clap.specs.Matches.{one_text}
use Rattle.clap.specs.declared.parser.matches.Found.{Found}
use Rattle.clap.proofs.OnLiterals.{clap_on_literals}
use Rattle.clap.proofs.WalkLemmas.{one_text-rows}
use Rattle.raid_command.specs.declared.asked.Command.TheVariants.{Run}
use Rattle.raid_command.specs.Asked.{Word, is_equals_sign, run_of}
use Rattle.raid_command.specs.Options.{has_end_of_options, rows_read, run_app}
use Rattle.raid_command.proofs.Split.{bytes_eq_sym, no_sign, or_false, same_word}
use Rattle.raid_command.proofs.Walks.{HasLongsAlone, IsPlain, IsRefused, at, found_from, found_read, steps, stops, stops_plain, stops_refused}
use Rattle.raid_command.proofs.Longs.{refuses_long}
use Rattle.raid_command.proofs.Forms as forms

abbrev run_top : Shape
run_top = (built run_app).top

longs : HasLongsAlone run_top
longs = record { shorts = λ c. refl; positions = refl; leaf = refl }

-- the word is refused where no option waits for a value
abbrev IsStopped : Word → Type 0
IsStopped x = (rows : List Row) (pending : Option (Text × List Text)) (xs : List Word) → found_from run_top (at idle rows pending) (x ∷ xs) ≡ None

data Form (x : Word) : Type 0 where
  flag : x ≡ codes "--brief" → Form x
  other : IsStopped x → bytes_eq x (codes "--brief") ≡ false → Form x

refused : (x : Word) → IsRefused run_top x → bytes_eq x (codes "--brief") ≡ false → Form x
refused x r isnt = other (λ rows pending xs. stops_refused run_top x xs idle rows pending r) isnt

stray : (x : Word) → IsPlain run_top x → bytes_eq x (codes "--brief") ≡ false → Form x
stray x p isnt = other (λ rows pending xs. stops_plain run_top x xs rows pending longs p) isnt

-- `--brief=value`
with_value : (v : Word) → Form (codes "--brief=" ++ v)
with_value v = other (λ rows pending xs. stops run_top (at idle rows pending) (codes "--brief=" ++ v) xs kind.TooManyValues refl) refl

module _ (x : ℕ) (xs : Word) where
  abbrev t : Word
  t = x ∷ xs

  abbrev name : Word
  name = before_first is_equals_sign t

  unknown : bytes_eq (codes "brief") name ≡ false → arg_by_long run_top.rules name ≡ None
  unknown e = rw e refl

  -- a name that is not `brief` is none with `=` and a value behind it either
  differs : bytes_eq (codes "brief") name ≡ false → (has : Bool) → list_any is_equals_sign t ≡ has → bytes_eq (45 ∷ 45 ∷ t) (codes "--brief") ≡ false
  differs e true has = go (bytes_eq t (codes "brief")) refl
    where
      go : (b : Bool) → bytes_eq t (codes "brief") ≡ b → bytes_eq t (codes "brief") ≡ false
      go true is = let wrong : false ≡ true = ap (list_any is_equals_sign) (sym (same_word t (codes "brief") is)) ∙ has in absurd (true≢false (sym wrong))
      go false is = is
  differs e false has = bytes_eq_sym t (codes "brief") ∙ ap (bytes_eq (codes "brief")) (sym (no_sign t has)) ∙ e

  long_form : Form (45 ∷ 45 ∷ t)
  long_form = go (forms.naming (codes "brief") t)
    where
      go : forms.Naming (codes "brief") t → Form (45 ∷ 45 ∷ t)
      go (forms.joined v is) = subst Form (sym (ap (λ (z : Word). 45 ∷ 45 ∷ z) is)) (with_value v)
      go (forms.named is) = flag (ap (λ (z : Word). 45 ∷ 45 ∷ z) is)
      go (forms.unknown e) = refused (45 ∷ 45 ∷ t) (refuses_long run_top x xs (unknown e)) (differs e (list_any is_equals_sign t) refl)

form_of : (w : Word) → bytes_eq w (codes "--") ≡ false → Form w
form_of w e = go (forms.form_of run_top longs w e)
  where
    go : forms.Form run_top w → Form w
    go (forms.long x xs is) = subst Form (sym is) (long_form x xs)
    go (forms.refused u is r none) = refused w r (forms.no_name w (codes "brief") none)
    go (forms.plain p none) = stray w p (forms.no_name w (codes "brief") none)

-- ---- the words

-- the rows are what the words ask for
abbrev pub Fits : List Word → Option (List Row) → Type 0
Fits words None = run_of words ≡ None
Fits words (Some rows) = (b : Bool) × (one_of (codes "brief") rows ≡ Some (bool_text b)) × (run_of words ≡ Some (Run b))

abbrev was_brief : Walk
was_brief = at idle (record { id = codes "brief"; values = codes "true" ∷ []; count = None; source = Some CommandLine; reading = AsWritten } ∷ []) None

abbrev start : Walk
start = at idle [] None

one_flag : (xs : List Word) → found_from run_top start (codes "--brief" ∷ xs) ≡ found_from run_top was_brief xs
unfolding clap_on_literals
one_flag xs = steps run_top start (codes "--brief") xs refl

two_flags : (xs : List Word) → found_from run_top was_brief (codes "--brief" ∷ xs) ≡ None
two_flags xs = stops run_top was_brief (codes "--brief") xs kind.ArgumentConflict refl

no_words : Fits [] (found_from run_top start [])
unfolding clap_on_literals
no_words = (false, refl, refl)

brief_alone : Fits (codes "--brief" ∷ []) (found_from run_top was_brief [])
unfolding clap_on_literals
brief_alone = (true, refl, refl)

none_of : (x : Word) (xs : List Word) → bytes_eq x (codes "--brief") ≡ false → run_of (x ∷ xs) ≡ None
none_of x [] isnt = rw isnt refl
none_of x (y ∷ ys) isnt = refl

after_brief : (words : List Word) → has_end_of_options words ≡ false → Fits (codes "--brief" ∷ words) (found_from run_top was_brief words)
after_brief [] e = brief_alone
after_brief (x ∷ xs) e = go (form_of x (or_false _ _ e).0)
  where
    go : Form x → Fits (codes "--brief" ∷ x ∷ xs) (found_from run_top was_brief (x ∷ xs))
    go (flag is) = subst (λ y. Fits (codes "--brief" ∷ y ∷ xs) (found_from run_top was_brief (y ∷ xs))) (sym is) (subst (Fits (codes "--brief" ∷ codes "--brief" ∷ xs)) (sym (two_flags xs)) refl)
    go (other stopped isnt) = subst (Fits (codes "--brief" ∷ x ∷ xs)) (sym (stopped _ _ xs)) refl

from_start : (words : List Word) → has_end_of_options words ≡ false → Fits words (found_from run_top start words)
from_start [] e = no_words
from_start (x ∷ xs) e = go (form_of x (or_false _ _ e).0)
  where
    go : Form x → Fits (x ∷ xs) (found_from run_top start (x ∷ xs))
    go (flag is) = subst (λ y. Fits (y ∷ xs) (found_from run_top start (y ∷ xs))) (sym is) (subst (Fits (codes "--brief" ∷ xs)) (sym (one_flag xs)) (after_brief xs (or_false _ _ e).1))
    go (other stopped isnt) = subst (Fits (x ∷ xs)) (sym (stopped [] None xs)) (none_of x xs isnt)

pub run_read : (words : List Word) → has_end_of_options words ≡ false → Fits words (rows_read run_app words)
run_read words e = subst (Fits words) (sym (found_read run_app words refl refl)) (from_start words e)

flag_is : (f : Found) (r b : Bool) → one_of (codes "brief") (rows_of f) ≡ Some (bool_text b)
    → (one_text f (codes "brief") ≡ Some (codes "true") → r ≡ true) → (one_text f (codes "brief") ≡ Some (codes "false") → r ≡ false) → r ≡ b
flag_is f r true e sets clears = sets (one_text-rows f (codes "brief") ∙ e)
flag_is f r false e sets clears = clears (one_text-rows f (codes "brief") ∙ e)

-- the flag that was found asks for what the words do
pub run_found : (f : Found) (r : Bool) (app : App) (words : List Word) → Some (rows_of f) ≡ rows_read app words → app ≡ run_app → has_end_of_options words ≡ false
    → (one_text f (codes "brief") ≡ Some (codes "true") → r ≡ true) → (one_text f (codes "brief") ≡ Some (codes "false") → r ≡ false) → Some (Run r) ≡ run_of words
run_found f r app words read same e sets clears =
    let fits : Fits words (Some (rows_of f)) = subst (Fits words) (sym (read ∙ ap (λ a. rows_read a words) same)) (run_read words e) in
    ap (λ b. Some (Run b)) (flag_is f r fits.0 fits.1 sets clears) ∙ sym fits.2

pub run_refused : (app : App) (words : List Word) → None ≡ rows_read app words → app ≡ run_app → has_end_of_options words ≡ false → None ≡ run_of words
run_refused app words read same e = sym (subst (Fits words) (sym (read ∙ ap (λ a. rows_read a words) same)) (run_read words e))
