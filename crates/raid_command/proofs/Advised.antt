-- What `clap` finds behind `advise` is what the words ask for.
use Rattle.std.proofs.Common.{◌≡◌, ◌∙◌, ◌∷◌, ◌++◌, ℕ, Bool, List, [], true, false, refl, sym, ap, ap₂, Option, Some, None, codes, subst}
use Rattle.std.specs.List.{before_first, flat_map}
use Rattle.std.specs.Str.{bytes_eq}
use Rattle.clap.specs.Kinds.{or_else}
use Rattle.clap.specs.Walk.{Held, Row, Step, Text, Waiting, Walk, after_step, arg_by_long, first_of as value_in, finished, has_row, idle, option, rows_of, settled, walked}
use Rattle.clap.specs.Faults.{check_fault, defaults_fault, settle_fault, step_fault, turn_fault, walk_fault}
use Rattle.clap.specs.declared.builder.value_parser.Reading.TheVariants.{AsWritten}
use Rattle.clap.specs.declared.parser.matches.ValueSource.TheVariants.{CommandLine}
use Rattle.clap.specs.declared.error.kind.ErrorKind.{ErrorKind}
use Rattle.clap.specs.declared.error.kind.ErrorKind.TheVariants as kind
use Rattle.clap.specs.Matches.{first_value}
use Rattle.clap.specs.Simple.{App, Shape, built}
use Rattle.clap.specs.declared.parser.matches.Found.{Found}
use Rattle.clap.proofs.OnLiterals.{clap_on_literals}
use Rattle.clap.proofs.WalkLemmas.{first_value-rows}
use Rattle.raid_command.specs.declared.asked.Command.{Command}
use Rattle.raid_command.specs.Asked.{Word, advise_of, is_equals_sign, is_number, last_of, spread}
use Rattle.raid_command.specs.Options.{advise_app, advised_from, has_end_of_options, rows_read}
use Rattle.raid_command.proofs.Split.{bytes_eq_sym, or_false}
use Rattle.raid_command.proofs.Walks.{HasLongsAlone, IsPlain, IsRefused, at, found_from, found_read, found_when, steps, stops, stops_plain, stops_refused}
use Rattle.raid_command.proofs.Longs.{refuses_long}
use Rattle.raid_command.proofs.Forms as forms
use Rattle.raid_command.proofs.MakeWords.{hyphen_no_number}
use Rattle.raid_command.proofs.LastWords.{foreign_first, name, no_value, too_many}

abbrev advise_top : Shape
advise_top = (built advise_app).top

longs : HasLongsAlone advise_top
longs = record { shorts = λ c. refl; positions = refl; leaf = refl }

-- ---- what a word can be

abbrev joined_to : Word → Word
joined_to v = codes "--last=" ++ v

-- what the word spreads to begins with no option's name and no number
record IsOut (w : Word) : Type 0 where
  first : Word
  more : List Word
  pieces : spread w ≡ first ∷ more
  foreign : bytes_eq first name ≡ false
  number : is_number first ≡ false

data Form (w : Word) : Type 0 where
  joined : (v : Word) → w ≡ joined_to v → Form w
  named : w ≡ name → Form w
  out : IsRefused advise_top w → IsOut w → Form w
  plain : IsPlain advise_top w → spread w ≡ w ∷ [] → bytes_eq w name ≡ false → Form w

module _ (x : ℕ) (xs : Word) where
  abbrev t : Word
  t = x ∷ xs

  abbrev own : Word
  own = before_first is_equals_sign t

  unknown : bytes_eq (codes "last") own ≡ false → arg_by_long advise_top.rules own ≡ None
  unknown e = rw e refl

  unknown_out : bytes_eq (codes "last") own ≡ false → IsOut (45 ∷ 45 ∷ t)
  unknown_out e =
      let begins = forms.name_first t in
      record { first = 45 ∷ 45 ∷ own; more = begins.0; pieces = begins.1; foreign = bytes_eq_sym own (codes "last") ∙ e; number = hyphen_no_number (45 ∷ own) }

  long_form : Form (45 ∷ 45 ∷ t)
  long_form = go (forms.naming (codes "last") t)
    where
      go : forms.Naming (codes "last") t → Form (45 ∷ 45 ∷ t)
      go (forms.joined v is) = joined v (ap (λ (z : Word). 45 ∷ 45 ∷ z) is)
      go (forms.named is) = named (ap (λ (z : Word). 45 ∷ 45 ∷ z) is)
      go (forms.unknown e) = out (refuses_long advise_top x xs (unknown e)) (unknown_out e)

form_of : (w : Word) → bytes_eq w (codes "--") ≡ false → Form w
form_of w e = go (forms.form_of advise_top longs w e)
  where
    go : forms.Form advise_top w → Form w
    go (forms.long x xs is) = subst Form (sym is) (long_form x xs)
    go (forms.refused u is r none) = out r (record { first = w; more = []; pieces = forms.stays w none; foreign = forms.no_name w (codes "last") none; number = subst (λ y. is_number y ≡ false) (sym is) (hyphen_no_number u) })
    go (forms.plain p none) = plain p (forms.stays w none) (forms.no_name w (codes "last") none)

-- ---- where the walk stands

abbrev asked_of : Option (List Row) → Option Command
asked_of (Some rows) = advised_from (value_in (codes "last") rows)
asked_of None = None

abbrev asked_from : Walk → List Word → Option Command
asked_from w words = asked_of (found_from advise_top w words)

abbrev row : Word → Row
row v = record { id = codes "last"; values = v ∷ []; count = None; source = Some CommandLine; reading = AsWritten }

-- the option waits for its value; or has it, from the next word
abbrev awaits : List Row → Walk
awaits rows = at (option (codes "last")) rows (Some (codes "last", []))

abbrev has_value : Word → List Row → Walk
has_value v rows = at idle rows (Some (codes "last", v ∷ []))

-- after the option, whose value was in its word or in the next one
abbrev one_rows : Bool → Word → List Row
one_rows true v = row v ∷ []
one_rows false v = []

abbrev one_pending : Bool → Word → Option (Text × List Text)
one_pending true v = None
one_pending false v = Some (codes "last", v ∷ [])

abbrev after_one : Bool → Word → Walk
after_one in_word v = at idle (one_rows in_word v) (one_pending in_word v)

abbrev start : Walk
start = at idle [] None

-- ---- steps

refused_at : (x : Word) (xs : List Word) (waiting : Waiting) (rows : List Row) (pending : Option (Text × List Text)) → IsRefused advise_top x → asked_from (at waiting rows pending) (x ∷ xs) ≡ None
refused_at x xs waiting rows pending r = ap asked_of (stops_refused advise_top x xs waiting rows pending r)

stray_at : (x : Word) (xs : List Word) (rows : List Row) (pending : Option (Text × List Text)) → IsPlain advise_top x → asked_from (at idle rows pending) (x ∷ xs) ≡ None
stray_at x xs rows pending p = ap asked_of (stops_plain advise_top x xs rows pending longs p)

stops_at : (w : Walk) (x : Word) (xs : List Word) (k : ErrorKind) → turn_fault advise_top [] w x ≡ k ∷ [] → asked_from w (x ∷ xs) ≡ None
stops_at w x xs k e = ap asked_of (stops advise_top w x xs k e)

steps_to : (w u : Walk) (x : Word) (xs : List Word) → turn_fault advise_top [] w x ≡ [] → walked advise_top.rules [] w x ≡ u → asked_from w (x ∷ xs) ≡ asked_from u xs
steps_to w u x xs e same = ap asked_of (steps advise_top w x xs e ∙ ap (λ v. found_from advise_top v xs) same)

-- a plain word is the value that is waited for
value_passes : (rows : List Row) (x : Word) → IsPlain advise_top x → turn_fault advise_top [] (awaits rows) x ≡ []
value_passes rows x p = ap₂ (λ k (m : Held × Step). or_else k (step_fault advise_top 1 m.0 m.1)) (p.passes (option (codes "last")) rows (Some (codes "last", []))) (p.met (option (codes "last")) rows (Some (codes "last", [])))

value_taken : (rows : List Row) (x : Word) → IsPlain advise_top x → walked advise_top.rules [] (awaits rows) x ≡ has_value x rows
unfolding walked
value_taken rows x p = ap (λ (m : Held × Step). after_step advise_top.rules x (awaits rows) m.0 m.1) (p.met (option (codes "last")) rows (Some (codes "last", [])))

takes_value : (rows : List Row) (x : Word) (xs : List Word) → IsPlain advise_top x → asked_from (awaits rows) (x ∷ xs) ≡ asked_from (has_value x rows) xs
takes_value rows x xs p = steps_to (awaits rows) (has_value x rows) x xs (value_passes rows x p) (value_taken rows x p)

-- an option that waits for a value is refused where the next word is an option, or none comes
joined_in_place : (rows : List Row) (v : Word) (xs : List Word) → asked_from (awaits rows) (joined_to v ∷ xs) ≡ None
joined_in_place rows v xs = stops_at (awaits rows) (joined_to v) xs kind.InvalidValue refl

named_in_place : (rows : List Row) (xs : List Word) → asked_from (awaits rows) (name ∷ xs) ≡ None
named_in_place rows xs = stops_at (awaits rows) name xs kind.InvalidValue refl

ends_waiting : (rows : List Row) → asked_from (awaits rows) [] ≡ None
unfolding clap_on_literals
ends_waiting rows = refl

-- ---- the option twice

settles_twice : (v : Word) (rows : List Row) → has_row (codes "last") rows ≡ true
    → settle_fault advise_top.rules advise_top.args_override_self (record { rows = rows; pending = Some (codes "last", v ∷ []); skip = 0 }) ≡ kind.ArgumentConflict ∷ []
settles_twice v rows has = rw has refl

joined_twice : (v w : Word) (rows : List Row) → has_row (codes "last") rows ≡ true → turn_fault advise_top [] (has_value v rows) (joined_to w) ≡ kind.ArgumentConflict ∷ []
joined_twice v w rows has = rw has refl

named_twice : (v : Word) (rows : List Row) → has_row (codes "last") rows ≡ true → turn_fault advise_top [] (has_value v rows) name ≡ kind.ArgumentConflict ∷ []
named_twice v rows has = rw has refl

ends_twice : (v : Word) (rows : List Row) → has_row (codes "last") rows ≡ true → asked_from (has_value v rows) [] ≡ None
unfolding walk_fault
ends_twice v rows has = ap (λ k. asked_of (found_when (or_else k (or_else (defaults_fault (settled advise_top.rules (has_value v rows).held).rows advise_top.rules) (check_fault advise_top (finished advise_top.rules (has_value v rows).held) false))) (finished advise_top.rules (has_value v rows).held))) (settles_twice v rows has)

twice : (v : Word) (rows : List Row) (words : List Word) → has_row (codes "last") rows ≡ true → has_end_of_options words ≡ false → asked_from (has_value v rows) words ≡ None
twice v rows [] has e = ends_twice v rows has
twice v rows (x ∷ xs) has e = go (form_of x (or_false _ _ e).0)
  where
    go : Form x → asked_from (has_value v rows) (x ∷ xs) ≡ None
    go (joined w is) = subst (λ y. asked_from (has_value v rows) (y ∷ xs) ≡ None) (sym is) (stops_at (has_value v rows) (joined_to w) xs kind.ArgumentConflict (joined_twice v w rows has))
    go (named is) = subst (λ y. asked_from (has_value v rows) (y ∷ xs) ≡ None) (sym is) (stops_at (has_value v rows) name xs kind.ArgumentConflict (named_twice v rows has))
    go (out r o) = refused_at x xs idle rows (Some (codes "last", v ∷ [])) r
    go (plain p one f) = stray_at x xs rows (Some (codes "last", v ∷ [])) p

awaits_again : (rows : List Row) (words : List Word) → has_row (codes "last") rows ≡ true → has_end_of_options words ≡ false → asked_from (awaits rows) words ≡ None
awaits_again rows [] has e = ends_waiting rows
awaits_again rows (x ∷ xs) has e = go (form_of x (or_false _ _ e).0)
  where
    go : Form x → asked_from (awaits rows) (x ∷ xs) ≡ None
    go (joined w is) = subst (λ y. asked_from (awaits rows) (y ∷ xs) ≡ None) (sym is) (joined_in_place rows w xs)
    go (named is) = subst (λ y. asked_from (awaits rows) (y ∷ xs) ≡ None) (sym is) (named_in_place rows xs)
    go (out r o) = refused_at x xs (option (codes "last")) rows (Some (codes "last", [])) r
    go (plain p one f) = takes_value rows x xs p ∙ twice x rows xs has (or_false _ _ e).1

-- ---- after the option

full_joined : (in_word : Bool) (v w : Word) (xs : List Word) → asked_from (after_one in_word v) (joined_to w ∷ xs) ≡ None
full_joined true v w xs = stops_at (after_one true v) (joined_to w) xs kind.ArgumentConflict refl
full_joined false v w xs = stops_at (after_one false v) (joined_to w) xs kind.ArgumentConflict refl

full_named : (in_word : Bool) (v : Word) (xs : List Word) → has_end_of_options xs ≡ false → asked_from (after_one in_word v) (name ∷ xs) ≡ None
unfolding clap_on_literals
full_named true v xs e = steps_to (after_one true v) (awaits (row v ∷ [])) name xs refl refl ∙ awaits_again (row v ∷ []) xs refl e
full_named false v xs e = steps_to (after_one false v) (awaits (row v ∷ [])) name xs refl refl ∙ awaits_again (row v ∷ []) xs refl e

one_ends : (in_word : Bool) (v : Word) → asked_from (after_one in_word v) [] ≡ last_of (name ∷ v ∷ [])
unfolding clap_on_literals
one_ends true v = refl
one_ends false v = refl

-- any further word is refused
one_more : (in_word : Bool) (v x : Word) (xs : List Word) → has_end_of_options (x ∷ xs) ≡ false → asked_from (after_one in_word v) (x ∷ xs) ≡ None
one_more in_word v x xs e = go (form_of x (or_false _ _ e).0)
  where
    go : Form x → asked_from (after_one in_word v) (x ∷ xs) ≡ None
    go (joined w is) = subst (λ y. asked_from (after_one in_word v) (y ∷ xs) ≡ None) (sym is) (full_joined in_word v w xs)
    go (named is) = subst (λ y. asked_from (after_one in_word v) (y ∷ xs) ≡ None) (sym is) (full_named in_word v xs (or_false _ _ e).1)
    go (out r o) = refused_at x xs idle (one_rows in_word v) (one_pending in_word v) r
    go (plain p one f) = stray_at x xs (one_rows in_word v) (one_pending in_word v) p

with_one : (in_word : Bool) (v : Word) (words : List Word) → has_end_of_options words ≡ false → asked_from (after_one in_word v) words ≡ last_of (name ∷ v ∷ flat_map spread words)
with_one in_word v [] e = one_ends in_word v
with_one in_word v (x ∷ xs) e = one_more in_word v x xs e ∙ sym (too_many name v x (flat_map spread xs))

-- ---- before the option

-- the words from x on, at w, are those that `before` and then what x spreads to ask for
abbrev Agrees : Walk → (List Word → List Word) → List Word → Word → Type 0
Agrees w before xs x = asked_from w (x ∷ xs) ≡ last_of (before (spread x ++ flat_map spread xs))

abbrev agrees_by : (w : Walk) (before : List Word → List Word) (xs : List Word) (x : Word) (pieces : List Word) → spread x ≡ pieces
    → asked_from w (x ∷ xs) ≡ last_of (before (pieces ++ flat_map spread xs)) → Agrees w before xs x
agrees_by w before xs x pieces is e = e ∙ sym (ap (λ ps. last_of (before (ps ++ flat_map spread xs))) is)

abbrev after_name : List Word → List Word
after_name ps = name ∷ ps

-- the option waits for its value
first_awaits : (words : List Word) → has_end_of_options words ≡ false → asked_from (awaits []) words ≡ last_of (name ∷ flat_map spread words)
first_awaits [] e = ends_waiting []
first_awaits (x ∷ xs) e = go (form_of x (or_false _ _ e).0)
  where
    go : Form x → Agrees (awaits []) after_name xs x
    go (joined v is) = subst (Agrees (awaits []) after_name xs) (sym is) (joined_in_place [] v xs ∙ sym (no_value name (v ∷ flat_map spread xs) refl))
    go (named is) = subst (Agrees (awaits []) after_name xs) (sym is) (named_in_place [] xs ∙ sym (no_value name (flat_map spread xs) refl))
    go (out r o) = agrees_by (awaits []) after_name xs x _ o.pieces
        (refused_at x xs (option (codes "last")) [] (Some (codes "last", [])) r ∙ sym (no_value o.first (o.more ++ flat_map spread xs) o.number))
    go (plain p one f) = agrees_by (awaits []) after_name xs x _ one (takes_value [] x xs p ∙ with_one false x xs (or_false _ _ e).1)

first_joined : (v : Word) (xs : List Word) → asked_from start (joined_to v ∷ xs) ≡ asked_from (after_one true v) xs
unfolding clap_on_literals
first_joined v xs = steps_to start (after_one true v) (joined_to v) xs refl refl

first_named : (xs : List Word) → asked_from start (name ∷ xs) ≡ asked_from (awaits []) xs
unfolding clap_on_literals
first_named xs = steps_to start (awaits []) name xs refl refl

none_ends : asked_from start [] ≡ None
unfolding clap_on_literals
none_ends = refl

with_none : (words : List Word) → has_end_of_options words ≡ false → asked_from start words ≡ advise_of words
with_none [] e = none_ends
with_none (x ∷ xs) e = go (form_of x (or_false _ _ e).0)
  where
    go : Form x → Agrees start (λ ps. ps) xs x
    go (joined v is) = subst (Agrees start (λ ps. ps) xs) (sym is) (first_joined v xs ∙ with_one true v xs (or_false _ _ e).1)
    go (named is) = subst (Agrees start (λ ps. ps) xs) (sym is) (first_named xs ∙ first_awaits xs (or_false _ _ e).1)
    go (out r o) = agrees_by start (λ ps. ps) xs x _ o.pieces (refused_at x xs idle [] None r ∙ sym (foreign_first o.first (o.more ++ flat_map spread xs) o.foreign))
    go (plain p one f) = agrees_by start (λ ps. ps) xs x _ one (stray_at x xs [] None p ∙ sym (foreign_first x (flat_map spread xs) f))

-- ---- what the matches hold is what the words ask for

advise_read : (words : List Word) → has_end_of_options words ≡ false → asked_of (rows_read advise_app words) ≡ advise_of words
advise_read words e = ap asked_of (found_read advise_app words refl refl) ∙ with_none words e

pub advise_found : (f : Found) (app : App) (words : List Word) → Some (rows_of f) ≡ rows_read app words → app ≡ advise_app → has_end_of_options words ≡ false
    → advised_from (first_value f (codes "last")) ≡ advise_of words
advise_found f app words read same e = ap advised_from (first_value-rows f (codes "last")) ∙ ap asked_of (read ∙ ap (λ a. rows_read a words) same) ∙ advise_read words e

pub advise_refused : (app : App) (words : List Word) → None ≡ rows_read app words → app ≡ advise_app → has_end_of_options words ≡ false → None ≡ advise_of words
advise_refused app words read same e = ap asked_of (read ∙ ap (λ a. rows_read a words) same) ∙ advise_read words e
