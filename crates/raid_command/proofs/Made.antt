-- What `clap` finds behind `make` is what the words ask for.
use Rattle.std.proofs.Common.{◌≡◌, ◌∙◌, ◌∷◌, ◌++◌, ◌⊎◌, inl, inr, Bool, List, [], true, false, refl, sym, ap, ap₂, Option, Some, None, codes, not, subst}
use Rattle.std.specs.List.{flat_map}
use Rattle.clap.specs.Kinds.{or_else}
use Rattle.clap.specs.Walk.{Held, Row, Step, Text, Waiting, Walk, after_step, first_of as value_in, finished, has_row, idle, option, rows_of, settled, walked}
use Rattle.clap.specs.Faults.{check_fault, defaults_fault, settle_fault, step_fault, turn_fault, walk_fault}
use Rattle.clap.specs.declared.builder.value_parser.Reading.TheVariants.{AsWritten}
use Rattle.clap.specs.declared.parser.matches.ValueSource.TheVariants.{CommandLine}
use Rattle.clap.specs.declared.error.kind.ErrorKind.{ErrorKind}
use Rattle.clap.specs.declared.error.kind.ErrorKind.TheVariants as kind
use Rattle.clap.specs.Matches.{first_value}
use Rattle.clap.specs.Simple.{App}
use Rattle.clap.specs.declared.parser.matches.Found.{Found}
use Rattle.clap.proofs.OnLiterals.{clap_on_literals}
use Rattle.clap.proofs.WalkLemmas.{first_value-rows}
use Rattle.raid_command.specs.declared.asked.Command.{Command}
use Rattle.raid_command.specs.Asked.{Word, make_of, options_of, spread}
use Rattle.raid_command.specs.Options.{has_end_of_options, made_from, make_app, rows_read}
use Rattle.raid_command.proofs.Split.{or_false}
use Rattle.raid_command.proofs.Walks.{IsPlain, IsRefused, at, found_from, found_read, found_when, steps, stops, stops_plain, stops_refused}
use Rattle.raid_command.proofs.MakeWords.{first_foreign, fourth_name, fourth_no_number, joined_of, name_of, second_name, second_no_number, third_foreign, third_same, too_many}
use Rattle.raid_command.proofs.MakeForms.{Form, form_of, joined, longs, make_top, named, out, plain}

-- ---- what the matches ask for

abbrev pub asked_of : Option (List Row) → Option Command
asked_of (Some rows) = made_from (value_in (codes "seed") rows) (value_in (codes "count") rows)
asked_of None = None

abbrev asked_from : Walk → List Word → Option Command
asked_from w words = asked_of (found_from make_top w words)

-- ---- where the walk stands

abbrev id_of : Bool → Text
id_of true = codes "seed"
id_of false = codes "count"

abbrev row : Bool → Word → Row
row b v = record { id = id_of b; values = v ∷ []; count = None; source = Some CommandLine; reading = AsWritten }

-- after one option, whose value was in its word or in the next one
abbrev after_one : Bool → Bool → Word → Walk
after_one true b v = at idle (row b v ∷ []) None
after_one false b v = at idle [] (Some (id_of b, v ∷ []))

-- after both, the last of which had its value in its word or in the next one
abbrev after_both : Bool → Bool → Word → Word → Walk
after_both true b v c = at idle (row b v ∷ row (not b) c ∷ []) None
after_both false b v c = at idle (row b v ∷ []) (Some (id_of (not b), c ∷ []))

-- an option waits for its value
abbrev awaits : Bool → List Row → Walk
awaits b rows = at (option (id_of b)) rows (Some (id_of b, []))

abbrev has_value : Bool → Word → List Row → Walk
has_value b v rows = at idle rows (Some (id_of b, v ∷ []))

-- ---- steps

refused_at : (x : Word) (xs : List Word) (waiting : Waiting) (rows : List Row) (pending : Option (Text × List Text)) → IsRefused make_top x → asked_from (at waiting rows pending) (x ∷ xs) ≡ None
refused_at x xs waiting rows pending r = ap asked_of (stops_refused make_top x xs waiting rows pending r)

stray_at : (x : Word) (xs : List Word) (rows : List Row) (pending : Option (Text × List Text)) → IsPlain make_top x → asked_from (at idle rows pending) (x ∷ xs) ≡ None
stray_at x xs rows pending p = ap asked_of (stops_plain make_top x xs rows pending longs p)

stops_at : (w : Walk) (x : Word) (xs : List Word) (k : ErrorKind) → turn_fault make_top [] w x ≡ k ∷ [] → asked_from w (x ∷ xs) ≡ None
stops_at w x xs k e = ap asked_of (stops make_top w x xs k e)

steps_to : (w u : Walk) (x : Word) (xs : List Word) → turn_fault make_top [] w x ≡ [] → walked make_top.rules [] w x ≡ u → asked_from w (x ∷ xs) ≡ asked_from u xs
steps_to w u x xs e same = ap asked_of (steps make_top w x xs e ∙ ap (λ v. found_from make_top v xs) same)

-- a plain word is the value that is waited for
value_passes : (b : Bool) (rows : List Row) (x : Word) → IsPlain make_top x → turn_fault make_top [] (awaits b rows) x ≡ []
value_passes true rows x p = ap₂ (λ k (m : Held × Step). or_else k (step_fault make_top 1 m.0 m.1)) (p.passes (option (id_of true)) rows (Some (id_of true, []))) (p.met (option (id_of true)) rows (Some (id_of true, [])))
value_passes false rows x p = ap₂ (λ k (m : Held × Step). or_else k (step_fault make_top 1 m.0 m.1)) (p.passes (option (id_of false)) rows (Some (id_of false, []))) (p.met (option (id_of false)) rows (Some (id_of false, [])))

value_taken : (b : Bool) (rows : List Row) (x : Word) → IsPlain make_top x → walked make_top.rules [] (awaits b rows) x ≡ has_value b x rows
unfolding walked
value_taken true rows x p = ap (λ (m : Held × Step). after_step make_top.rules x (awaits true rows) m.0 m.1) (p.met (option (id_of true)) rows (Some (id_of true, [])))
value_taken false rows x p = ap (λ (m : Held × Step). after_step make_top.rules x (awaits false rows) m.0 m.1) (p.met (option (id_of false)) rows (Some (id_of false, [])))

takes_value : (b : Bool) (rows : List Row) (x : Word) (xs : List Word) → IsPlain make_top x → asked_from (awaits b rows) (x ∷ xs) ≡ asked_from (has_value b x rows) xs
takes_value b rows x xs p = steps_to (awaits b rows) (has_value b x rows) x xs (value_passes b rows x p) (value_taken b rows x p)

-- an option that waits for a value is refused where the next word is an option
joined_in_place : (b d : Bool) (rows : List Row) (v : Word) (xs : List Word) → asked_from (awaits b rows) (joined_of d v ∷ xs) ≡ None
joined_in_place true true rows v xs = stops_at (awaits true rows) (joined_of true v) xs kind.InvalidValue refl
joined_in_place true false rows v xs = stops_at (awaits true rows) (joined_of false v) xs kind.InvalidValue refl
joined_in_place false true rows v xs = stops_at (awaits false rows) (joined_of true v) xs kind.InvalidValue refl
joined_in_place false false rows v xs = stops_at (awaits false rows) (joined_of false v) xs kind.InvalidValue refl

named_in_place : (b d : Bool) (rows : List Row) (xs : List Word) → asked_from (awaits b rows) (name_of d ∷ xs) ≡ None
named_in_place true true rows xs = stops_at (awaits true rows) (name_of true) xs kind.InvalidValue refl
named_in_place true false rows xs = stops_at (awaits true rows) (name_of false) xs kind.InvalidValue refl
named_in_place false true rows xs = stops_at (awaits false rows) (name_of true) xs kind.InvalidValue refl
named_in_place false false rows xs = stops_at (awaits false rows) (name_of false) xs kind.InvalidValue refl

ends_waiting : (b : Bool) (rows : List Row) → asked_from (awaits b rows) [] ≡ None
unfolding clap_on_literals
ends_waiting true rows = refl
ends_waiting false rows = refl

-- ---- an option twice

settles_twice : (b : Bool) (v : Word) (rows : List Row) → has_row (id_of b) rows ≡ true
    → settle_fault make_top.rules make_top.args_override_self (record { rows = rows; pending = Some (id_of b, v ∷ []); skip = 0 }) ≡ kind.ArgumentConflict ∷ []
settles_twice true v rows has = rw has refl
settles_twice false v rows has = rw has refl

joined_twice : (b d : Bool) (v w : Word) (rows : List Row) → has_row (id_of b) rows ≡ true → turn_fault make_top [] (has_value b v rows) (joined_of d w) ≡ kind.ArgumentConflict ∷ []
joined_twice true true v w rows has = rw has refl
joined_twice true false v w rows has = rw has refl
joined_twice false true v w rows has = rw has refl
joined_twice false false v w rows has = rw has refl

named_twice : (b d : Bool) (v : Word) (rows : List Row) → has_row (id_of b) rows ≡ true → turn_fault make_top [] (has_value b v rows) (name_of d) ≡ kind.ArgumentConflict ∷ []
named_twice true true v rows has = rw has refl
named_twice true false v rows has = rw has refl
named_twice false true v rows has = rw has refl
named_twice false false v rows has = rw has refl

ends_twice : (b : Bool) (v : Word) (rows : List Row) → has_row (id_of b) rows ≡ true → asked_from (has_value b v rows) [] ≡ None
unfolding walk_fault
ends_twice b v rows has = ap (λ k. asked_of (found_when (or_else k (or_else (defaults_fault (settled make_top.rules (has_value b v rows).held).rows make_top.rules) (check_fault make_top (finished make_top.rules (has_value b v rows).held) false))) (finished make_top.rules (has_value b v rows).held))) (settles_twice b v rows has)

-- no words save what has two values
twice : (b : Bool) (v : Word) (rows : List Row) (words : List Word) → has_row (id_of b) rows ≡ true → has_end_of_options words ≡ false → asked_from (has_value b v rows) words ≡ None
twice b v rows [] has e = ends_twice b v rows has
twice b v rows (x ∷ xs) has e = go (form_of x (or_false _ _ e).0)
  where
    go : Form x → asked_from (has_value b v rows) (x ∷ xs) ≡ None
    go (joined d w is) = subst (λ y. asked_from (has_value b v rows) (y ∷ xs) ≡ None) (sym is) (stops_at (has_value b v rows) (joined_of d w) xs kind.ArgumentConflict (joined_twice b d v w rows has))
    go (named d is) = subst (λ y. asked_from (has_value b v rows) (y ∷ xs) ≡ None) (sym is) (stops_at (has_value b v rows) (name_of d) xs kind.ArgumentConflict (named_twice b d v rows has))
    go (out r o) = refused_at x xs idle rows (Some (id_of b, v ∷ [])) r
    go (plain p s f) = stray_at x xs rows (Some (id_of b, v ∷ [])) p

awaits_again : (b : Bool) (rows : List Row) (words : List Word) → has_row (id_of b) rows ≡ true → has_end_of_options words ≡ false → asked_from (awaits b rows) words ≡ None
awaits_again b rows [] has e = ends_waiting b rows
awaits_again b rows (x ∷ xs) has e = go (form_of x (or_false _ _ e).0)
  where
    go : Form x → asked_from (awaits b rows) (x ∷ xs) ≡ None
    go (joined d w is) = subst (λ y. asked_from (awaits b rows) (y ∷ xs) ≡ None) (sym is) (joined_in_place b d rows w xs)
    go (named d is) = subst (λ y. asked_from (awaits b rows) (y ∷ xs) ≡ None) (sym is) (named_in_place b d rows xs)
    go (out r o) = refused_at x xs (option (id_of b)) rows (Some (id_of b, [])) r
    go (plain p s f) = takes_value b rows x xs p ∙ twice b x rows xs has (or_false _ _ e).1

-- ---- after both options

full_joined : (in_word b d : Bool) (v c w : Word) (xs : List Word) → asked_from (after_both in_word b v c) (joined_of d w ∷ xs) ≡ None
full_joined true true true v c w xs = stops_at (after_both true true v c) (joined_of true w) xs kind.ArgumentConflict refl
full_joined true true false v c w xs = stops_at (after_both true true v c) (joined_of false w) xs kind.ArgumentConflict refl
full_joined true false true v c w xs = stops_at (after_both true false v c) (joined_of true w) xs kind.ArgumentConflict refl
full_joined true false false v c w xs = stops_at (after_both true false v c) (joined_of false w) xs kind.ArgumentConflict refl
full_joined false true true v c w xs = stops_at (after_both false true v c) (joined_of true w) xs kind.ArgumentConflict refl
full_joined false true false v c w xs = stops_at (after_both false true v c) (joined_of false w) xs kind.ArgumentConflict refl
full_joined false false true v c w xs = stops_at (after_both false false v c) (joined_of true w) xs kind.ArgumentConflict refl
full_joined false false false v c w xs = stops_at (after_both false false v c) (joined_of false w) xs kind.ArgumentConflict refl

abbrev full_rows : Bool → Word → Word → List Row
full_rows b v c = row b v ∷ row (not b) c ∷ []

full_named : (in_word b d : Bool) (v c : Word) (xs : List Word) → has_end_of_options xs ≡ false → asked_from (after_both in_word b v c) (name_of d ∷ xs) ≡ None
unfolding clap_on_literals
full_named true true true v c xs e = steps_to (after_both true true v c) (awaits true (full_rows true v c)) (name_of true) xs refl refl ∙ awaits_again true (full_rows true v c) xs refl e
full_named true true false v c xs e = steps_to (after_both true true v c) (awaits false (full_rows true v c)) (name_of false) xs refl refl ∙ awaits_again false (full_rows true v c) xs refl e
full_named true false true v c xs e = steps_to (after_both true false v c) (awaits true (full_rows false v c)) (name_of true) xs refl refl ∙ awaits_again true (full_rows false v c) xs refl e
full_named true false false v c xs e = steps_to (after_both true false v c) (awaits false (full_rows false v c)) (name_of false) xs refl refl ∙ awaits_again false (full_rows false v c) xs refl e
full_named false true true v c xs e = steps_to (after_both false true v c) (awaits true (full_rows true v c)) (name_of true) xs refl refl ∙ awaits_again true (full_rows true v c) xs refl e
full_named false true false v c xs e = steps_to (after_both false true v c) (awaits false (full_rows true v c)) (name_of false) xs refl refl ∙ awaits_again false (full_rows true v c) xs refl e
full_named false false true v c xs e = steps_to (after_both false false v c) (awaits true (full_rows false v c)) (name_of true) xs refl refl ∙ awaits_again true (full_rows false v c) xs refl e
full_named false false false v c xs e = steps_to (after_both false false v c) (awaits false (full_rows false v c)) (name_of false) xs refl refl ∙ awaits_again false (full_rows false v c) xs refl e

both_end : (in_word b : Bool) (v c : Word) → asked_from (after_both in_word b v c) [] ≡ options_of (name_of b ∷ v ∷ name_of (not b) ∷ c ∷ [])
unfolding clap_on_literals
both_end true true v c = refl
both_end true false v c = refl
both_end false true v c = refl
both_end false false v c = refl

abbrev both_rows : Bool → Bool → Word → Word → List Row
both_rows true b v c = row b v ∷ row (not b) c ∷ []
both_rows false b v c = row b v ∷ []

abbrev both_pending : Bool → Bool → Word → Option (Text × List Text)
both_pending true b c = None
both_pending false b c = Some (id_of (not b), c ∷ [])

both_at : (in_word b : Bool) (v c : Word) → after_both in_word b v c ≡ at idle (both_rows in_word b v c) (both_pending in_word b c)
both_at true b v c = refl
both_at false b v c = refl

-- any further word is refused
both_more : (in_word b : Bool) (v c x : Word) (xs : List Word) → has_end_of_options (x ∷ xs) ≡ false → asked_from (after_both in_word b v c) (x ∷ xs) ≡ None
both_more in_word b v c x xs e = go (form_of x (or_false _ _ e).0)
  where
    go : Form x → asked_from (after_both in_word b v c) (x ∷ xs) ≡ None
    go (joined d w is) = subst (λ y. asked_from (after_both in_word b v c) (y ∷ xs) ≡ None) (sym is) (full_joined in_word b d v c w xs)
    go (named d is) = subst (λ y. asked_from (after_both in_word b v c) (y ∷ xs) ≡ None) (sym is) (full_named in_word b d v c xs (or_false _ _ e).1)
    go (out r o) = ap (λ w. asked_from w (x ∷ xs)) (both_at in_word b v c) ∙ refused_at x xs idle (both_rows in_word b v c) (both_pending in_word b c) r
    go (plain p s f) = ap (λ w. asked_from w (x ∷ xs)) (both_at in_word b v c) ∙ stray_at x xs (both_rows in_word b v c) (both_pending in_word b c) p

with_both : (in_word b : Bool) (v c : Word) (words : List Word) → has_end_of_options words ≡ false
    → asked_from (after_both in_word b v c) words ≡ options_of (name_of b ∷ v ∷ name_of (not b) ∷ c ∷ flat_map spread words)
with_both in_word b v c [] e = both_end in_word b v c
with_both in_word b v c (x ∷ xs) e = both_more in_word b v c x xs e ∙ sym (too_many (name_of b) v (name_of (not b)) c x (flat_map spread xs))

-- ---- after one option

abbrev one_rows : Bool → Bool → Word → List Row
one_rows true b v = row b v ∷ []
one_rows false b v = []

abbrev one_pending : Bool → Bool → Word → Option (Text × List Text)
one_pending true b v = None
one_pending false b v = Some (id_of b, v ∷ [])

one_at : (in_word b : Bool) (v : Word) → after_one in_word b v ≡ at idle (one_rows in_word b v) (one_pending in_word b v)
one_at true b v = refl
one_at false b v = refl

one_ends : (in_word b : Bool) (v : Word) → asked_from (after_one in_word b v) [] ≡ None
unfolding clap_on_literals
one_ends true true v = refl
one_ends true false v = refl
one_ends false true v = refl
one_ends false false v = refl

-- the second option, as `--name=value`
second_joined : (in_word b : Bool) (v w : Word) (xs : List Word) → asked_from (after_one in_word b v) (joined_of (not b) w ∷ xs) ≡ asked_from (after_both true b v w) xs
unfolding clap_on_literals
second_joined true true v w xs = steps_to (after_one true true v) (after_both true true v w) (joined_of false w) xs refl refl
second_joined true false v w xs = steps_to (after_one true false v) (after_both true false v w) (joined_of true w) xs refl refl
second_joined false true v w xs = steps_to (after_one false true v) (after_both true true v w) (joined_of false w) xs refl refl
second_joined false false v w xs = steps_to (after_one false false v) (after_both true false v w) (joined_of true w) xs refl refl

-- an option's name alone
named_after : (in_word b d : Bool) (v : Word) (xs : List Word) → asked_from (after_one in_word b v) (name_of d ∷ xs) ≡ asked_from (awaits d (row b v ∷ [])) xs
unfolding clap_on_literals
named_after true true true v xs = steps_to (after_one true true v) (awaits true (row true v ∷ [])) (name_of true) xs refl refl
named_after true true false v xs = steps_to (after_one true true v) (awaits false (row true v ∷ [])) (name_of false) xs refl refl
named_after true false true v xs = steps_to (after_one true false v) (awaits true (row false v ∷ [])) (name_of true) xs refl refl
named_after true false false v xs = steps_to (after_one true false v) (awaits false (row false v ∷ [])) (name_of false) xs refl refl
named_after false true true v xs = steps_to (after_one false true v) (awaits true (row true v ∷ [])) (name_of true) xs refl refl
named_after false true false v xs = steps_to (after_one false true v) (awaits false (row true v ∷ [])) (name_of false) xs refl refl
named_after false false true v xs = steps_to (after_one false false v) (awaits true (row false v ∷ [])) (name_of true) xs refl refl
named_after false false false v xs = steps_to (after_one false false v) (awaits false (row false v ∷ [])) (name_of false) xs refl refl

joined_again : (in_word b : Bool) (v w : Word) (xs : List Word) → asked_from (after_one in_word b v) (joined_of b w ∷ xs) ≡ None
joined_again true true v w xs = stops_at (after_one true true v) (joined_of true w) xs kind.ArgumentConflict refl
joined_again true false v w xs = stops_at (after_one true false v) (joined_of false w) xs kind.ArgumentConflict refl
joined_again false true v w xs = stops_at (after_one false true v) (joined_of true w) xs kind.ArgumentConflict refl
joined_again false false v w xs = stops_at (after_one false false v) (joined_of false w) xs kind.ArgumentConflict refl

has_first : (b : Bool) (v : Word) → has_row (id_of b) (row b v ∷ []) ≡ true
has_first true v = refl
has_first false v = refl

spread_joined : (b : Bool) (v : Word) → spread (joined_of b v) ≡ name_of b ∷ v ∷ []
spread_joined true v = refl
spread_joined false v = refl

spread_name : (b : Bool) → spread (name_of b) ≡ name_of b ∷ []
spread_name true = refl
spread_name false = refl

-- the words from x on, at w, are those that `before` and then what x spreads to ask for
abbrev Agrees : Walk → (List Word → List Word) → List Word → Word → Type 0
Agrees w before xs x = asked_from w (x ∷ xs) ≡ options_of (before (spread x ++ flat_map spread xs))

abbrev agrees_by : (w : Walk) (before : List Word → List Word) (xs : List Word) (x : Word) (pieces : List Word) → spread x ≡ pieces
    → asked_from w (x ∷ xs) ≡ options_of (before (pieces ++ flat_map spread xs)) → Agrees w before xs x
agrees_by w before xs x pieces is e = e ∙ sym (ap (λ ps. options_of (before (ps ++ flat_map spread xs))) is)

-- the words of one option, and the name of the other, stand before
abbrev after_names : Bool → Word → List Word → List Word
after_names b v ps = name_of b ∷ v ∷ name_of (not b) ∷ ps

-- the second option waits for its value
second_awaits : (b : Bool) (v : Word) (words : List Word) → has_end_of_options words ≡ false
    → asked_from (awaits (not b) (row b v ∷ [])) words ≡ options_of (name_of b ∷ v ∷ name_of (not b) ∷ flat_map spread words)
second_awaits b v [] e = ends_waiting (not b) (row b v ∷ []) ∙ missing b
  where
    missing : (d : Bool) → None ≡ options_of (name_of d ∷ v ∷ name_of (not d) ∷ [])
    missing true = refl
    missing false = refl
second_awaits b v (x ∷ xs) e = go (form_of x (or_false _ _ e).0)
  where
    go : Form x → Agrees (awaits (not b) (row b v ∷ [])) (after_names b v) xs x
    go (joined d c is) = subst (Agrees (awaits (not b) (row b v ∷ [])) (after_names b v) xs) (sym is)
        (agrees_by (awaits (not b) (row b v ∷ [])) (after_names b v) xs (joined_of d c) _ (spread_joined d c)
        (joined_in_place (not b) d (row b v ∷ []) c xs ∙ sym (fourth_name b d v (c ∷ flat_map spread xs))))
    go (named d is) = subst (Agrees (awaits (not b) (row b v ∷ [])) (after_names b v) xs) (sym is)
        (agrees_by (awaits (not b) (row b v ∷ [])) (after_names b v) xs (name_of d) _ (spread_name d)
        (named_in_place (not b) d (row b v ∷ []) xs ∙ sym (fourth_name b d v (flat_map spread xs))))
    go (out r o) = agrees_by (awaits (not b) (row b v ∷ [])) (after_names b v) xs x _ o.pieces
        (refused_at x xs (option (id_of (not b))) (row b v ∷ []) (Some (id_of (not b), [])) r ∙ sym (fourth_no_number b v o.first (o.more ++ flat_map spread xs) o.number))
    go (plain p one f) = agrees_by (awaits (not b) (row b v ∷ [])) (after_names b v) xs x _ one
        (takes_value (not b) (row b v ∷ []) x xs p ∙ with_both false b v x xs (or_false _ _ e).1)

-- ---- one option has its value
same_or_other : (b d : Bool) → (d ≡ b) ⊎ (d ≡ not b)
same_or_other true true = inl refl
same_or_other true false = inr refl
same_or_other false true = inr refl
same_or_other false false = inl refl

abbrev after_name : Bool → Word → List Word → List Word
after_name b v ps = name_of b ∷ v ∷ ps

joined_second : (in_word b d : Bool) (v c : Word) (xs : List Word) → has_end_of_options xs ≡ false
    → asked_from (after_one in_word b v) (joined_of d c ∷ xs) ≡ options_of (name_of b ∷ v ∷ name_of d ∷ c ∷ flat_map spread xs)
joined_second in_word b d v c xs e = elim (same_or_other b d) [
  | inl same ↦ subst (λ k. asked_from (after_one in_word b v) (joined_of k c ∷ xs) ≡ options_of (name_of b ∷ v ∷ name_of k ∷ c ∷ flat_map spread xs)) (sym same)
      (joined_again in_word b v c xs ∙ sym (third_same b v (c ∷ flat_map spread xs)))
  | inr other ↦ subst (λ k. asked_from (after_one in_word b v) (joined_of k c ∷ xs) ≡ options_of (name_of b ∷ v ∷ name_of k ∷ c ∷ flat_map spread xs)) (sym other)
      (second_joined in_word b v c xs ∙ with_both true b v c xs e)
]

named_second : (in_word b d : Bool) (v : Word) (xs : List Word) → has_end_of_options xs ≡ false
    → asked_from (after_one in_word b v) (name_of d ∷ xs) ≡ options_of (name_of b ∷ v ∷ name_of d ∷ flat_map spread xs)
named_second in_word b d v xs e = named_after in_word b d v xs ∙ elim (same_or_other b d) [
  | inl same ↦ subst (λ k. asked_from (awaits k (row b v ∷ [])) xs ≡ options_of (name_of b ∷ v ∷ name_of k ∷ flat_map spread xs)) (sym same)
      (awaits_again b (row b v ∷ []) xs (has_first b v) e ∙ sym (third_same b v (flat_map spread xs)))
  | inr other ↦ subst (λ k. asked_from (awaits k (row b v ∷ [])) xs ≡ options_of (name_of b ∷ v ∷ name_of k ∷ flat_map spread xs)) (sym other)
      (second_awaits b v xs e)
]

with_one : (in_word b : Bool) (v : Word) (words : List Word) → has_end_of_options words ≡ false
    → asked_from (after_one in_word b v) words ≡ options_of (name_of b ∷ v ∷ flat_map spread words)
with_one in_word b v [] e = one_ends in_word b v
with_one in_word b v (x ∷ xs) e = go (form_of x (or_false _ _ e).0)
  where
    go : Form x → Agrees (after_one in_word b v) (after_name b v) xs x
    go (joined d c is) = subst (Agrees (after_one in_word b v) (after_name b v) xs) (sym is)
        (agrees_by (after_one in_word b v) (after_name b v) xs (joined_of d c) _ (spread_joined d c) (joined_second in_word b d v c xs (or_false _ _ e).1))
    go (named d is) = subst (Agrees (after_one in_word b v) (after_name b v) xs) (sym is)
        (agrees_by (after_one in_word b v) (after_name b v) xs (name_of d) _ (spread_name d) (named_second in_word b d v xs (or_false _ _ e).1))
    go (out r o) = agrees_by (after_one in_word b v) (after_name b v) xs x _ o.pieces
        (ap (λ w. asked_from w (x ∷ xs)) (one_at in_word b v) ∙ refused_at x xs idle (one_rows in_word b v) (one_pending in_word b v) r ∙ sym (third_foreign b v o.first (o.more ++ flat_map spread xs) o.foreign))
    go (plain p one f) = agrees_by (after_one in_word b v) (after_name b v) xs x _ one
        (ap (λ w. asked_from w (x ∷ xs)) (one_at in_word b v) ∙ stray_at x xs (one_rows in_word b v) (one_pending in_word b v) p ∙ sym (third_foreign b v x (flat_map spread xs) f))

-- ---- no option yet

-- the first option waits for its value
first_awaits : (b : Bool) (words : List Word) → has_end_of_options words ≡ false → asked_from (awaits b []) words ≡ options_of (name_of b ∷ flat_map spread words)
first_awaits b [] e = ends_waiting b []
first_awaits b (x ∷ xs) e = go (form_of x (or_false _ _ e).0)
  where
    go : Form x → Agrees (awaits b []) (λ ps. name_of b ∷ ps) xs x
    go (joined d c is) = subst (Agrees (awaits b []) (λ ps. name_of b ∷ ps) xs) (sym is)
        (agrees_by (awaits b []) (λ ps. name_of b ∷ ps) xs (joined_of d c) _ (spread_joined d c) (joined_in_place b d [] c xs ∙ sym (second_name b d (c ∷ flat_map spread xs))))
    go (named d is) = subst (Agrees (awaits b []) (λ ps. name_of b ∷ ps) xs) (sym is)
        (agrees_by (awaits b []) (λ ps. name_of b ∷ ps) xs (name_of d) _ (spread_name d) (named_in_place b d [] xs ∙ sym (second_name b d (flat_map spread xs))))
    go (out r o) = agrees_by (awaits b []) (λ ps. name_of b ∷ ps) xs x _ o.pieces
        (refused_at x xs (option (id_of b)) [] (Some (id_of b, [])) r ∙ sym (second_no_number b o.first (o.more ++ flat_map spread xs) o.number))
    go (plain p one f) = agrees_by (awaits b []) (λ ps. name_of b ∷ ps) xs x _ one (takes_value b [] x xs p ∙ with_one false b x xs (or_false _ _ e).1)

abbrev start : Walk
start = at idle [] None

first_joined : (b : Bool) (v : Word) (xs : List Word) → asked_from start (joined_of b v ∷ xs) ≡ asked_from (after_one true b v) xs
unfolding clap_on_literals
first_joined true v xs = steps_to start (after_one true true v) (joined_of true v) xs refl refl
first_joined false v xs = steps_to start (after_one true false v) (joined_of false v) xs refl refl

first_named : (b : Bool) (xs : List Word) → asked_from start (name_of b ∷ xs) ≡ asked_from (awaits b []) xs
unfolding clap_on_literals
first_named true xs = steps_to start (awaits true []) (name_of true) xs refl refl
first_named false xs = steps_to start (awaits false []) (name_of false) xs refl refl

none_ends : asked_from start [] ≡ None
unfolding clap_on_literals
none_ends = refl

with_none : (words : List Word) → has_end_of_options words ≡ false → asked_from start words ≡ make_of words
with_none [] e = none_ends
with_none (x ∷ xs) e = go (form_of x (or_false _ _ e).0)
  where
    go : Form x → Agrees start (λ ps. ps) xs x
    go (joined d c is) = subst (Agrees start (λ ps. ps) xs) (sym is)
        (agrees_by start (λ ps. ps) xs (joined_of d c) _ (spread_joined d c) (first_joined d c xs ∙ with_one true d c xs (or_false _ _ e).1))
    go (named d is) = subst (Agrees start (λ ps. ps) xs) (sym is)
        (agrees_by start (λ ps. ps) xs (name_of d) _ (spread_name d) (first_named d xs ∙ first_awaits d xs (or_false _ _ e).1))
    go (out r o) = agrees_by start (λ ps. ps) xs x _ o.pieces (refused_at x xs idle [] None r ∙ sym (first_foreign o.first (o.more ++ flat_map spread xs) o.foreign))
    go (plain p one f) = agrees_by start (λ ps. ps) xs x _ one (stray_at x xs [] None p ∙ sym (first_foreign x (flat_map spread xs) f))

-- what the matches hold is what the words ask for
pub make_read : (words : List Word) → has_end_of_options words ≡ false → asked_of (rows_read make_app words) ≡ make_of words
make_read words e = ap asked_of (found_read make_app words refl refl) ∙ with_none words e

-- the values that were found ask for what the words do
pub make_found : (f : Found) (app : App) (words : List Word) → Some (rows_of f) ≡ rows_read app words → app ≡ make_app → has_end_of_options words ≡ false
    → made_from (first_value f (codes "seed")) (first_value f (codes "count")) ≡ make_of words
make_found f app words read same e =
    (λ i. made_from (first_value-rows f (codes "seed") i) (first_value-rows f (codes "count") i))
    ∙ ap asked_of (read ∙ ap (λ a. rows_read a words) same) ∙ make_read words e

pub make_refused : (app : App) (words : List Word) → None ≡ rows_read app words → app ≡ make_app → has_end_of_options words ≡ false → None ≡ make_of words
make_refused app words read same e = ap asked_of (read ∙ ap (λ a. rows_read a words) same) ∙ make_read words e
