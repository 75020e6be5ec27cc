-- How `clap` walks over the words of a command whose every argument is a long option.
use Rattle.std.proofs.Common.{◌≡◌, ◌∙◌, ◌∷◌, ℕ, List, [], true, false, ap, Option, Some, None, cond, ap₂}
use Rattle.std.specs.List.{fold}
use Rattle.std.specs.Prelude.{map}
use Rattle.std.specs.Option.{option_map_or}
use Rattle.clap.specs.Kinds.{Kinds, or_else}
use Rattle.clap.specs.Walk.{Held, Row, Text, Waiting, Walk, Step, arg_by_index, arg_by_short, finished, idle, is_empty, nothing_held, plain_word, rows_after, settled, value, walk_from, walked, word_met}
use Rattle.clap.specs.Simple.{App, Shape, argument_words, built, label_of, matches_of}
use Rattle.clap.specs.Faults.{check_fault, defaults_fault, level_fault, positional_fault, settle_fault, step_fault, turn_fault, walk_fault, word_fault}
use Rattle.clap.specs.declared.error.kind.ErrorKind.TheVariants as kind
use Rattle.clap.specs.declared.error.kind.ErrorKind.{ErrorKind}
use Rattle.clap.proofs.FaultLemmas.{leaf_fault}
use Rattle.raid_command.specs.Asked.{Word}
use Rattle.raid_command.specs.Options.{rows_read}

-- what is wrong from a walk's place on, and what is found there
abbrev pub end_fault : Shape → Held → Kinds
end_fault s end = or_else [] (or_else (settle_fault s.rules s.args_override_self end)
    (or_else (defaults_fault (settled s.rules end).rows s.rules) (check_fault s (finished s.rules end) false)))

abbrev pub end_of : Shape → Walk → List Word → Held
end_of s w words = (fold (walked s.rules []) w words).held

abbrev pub found_when : Kinds → List Row → Option (List Row)
found_when faults rows = cond (is_empty faults) (Some rows) None

abbrev pub found_from : Shape → Walk → List Word → Option (List Row)
found_from s w words = found_when (or_else (walk_fault s [] w words) (end_fault s (end_of s w words))) (finished s.rules (end_of s w words))

pub found_read : (a : App) (words : List Word) → (built a).subs ≡ [] → argument_words a words ≡ words
    → rows_read a words ≡ found_from (built a).top (walk_from nothing_held) words
found_read a words leaf all =
    let fault = leaf_fault (built a) nothing_held (argument_words a words) leaf in
    let rows : matches_of a words ≡ rows_after (built a).top.rules [] words = λ i. rows_after (built a).top.rules (map label_of (leaf i)) (all i) in
    λ i. found_when ((fault ∙ ap (λ ws. level_fault (built a).top [] nothing_held ws false []) all) i) (rows i)

-- a word that passes, and one that is refused
pub steps : (s : Shape) (w : Walk) (word : Word) (words : List Word) → turn_fault s [] w word ≡ []
    → found_from s w (word ∷ words) ≡ found_from s (walked s.rules [] w word) words
unfolding walk_fault
steps s w word words passes =
    ap (λ k. found_when (or_else (or_else k (walk_fault s [] (walked s.rules [] w word) words)) (end_fault s (end_of s w (word ∷ words)))) (finished s.rules (end_of s w (word ∷ words)))) passes

pub stops : (s : Shape) (w : Walk) (word : Word) (words : List Word) (k : ErrorKind) → turn_fault s [] w word ≡ k ∷ []
    → found_from s w (word ∷ words) ≡ None
unfolding walk_fault
stops s w word words k fails =
    ap (λ f. found_when (or_else (or_else f (walk_fault s [] (walked s.rules [] w word) words)) (end_fault s (end_of s w (word ∷ words)))) (finished s.rules (end_of s w (word ∷ words)))) fails

-- where a walk stands that met no `--` and no bundle
abbrev pub at : Waiting → List Row → Option (Text × List Text) → Walk
at waiting rows pending = record {
  held = record { rows = rows; pending = pending; skip = 0 };
  waiting = waiting;
  position = 1;
  is_trailing = false;
  stopped = None;
}

-- a command with long options alone
pub record HasLongsAlone (s : Shape) : Type 0 where
  pub shorts : (c : ℕ) → arg_by_short s.rules c ≡ None
  pub positions : arg_by_index s.rules 1 ≡ None
  pub leaf : s.is_leaf ≡ true

-- the word is refused wherever it stands
abbrev pub IsRefused : Shape → Word → Type 0
IsRefused s word = (waiting : Waiting) (rows : List Row) (pending : Option (Text × List Text))
    → word_fault s [] false waiting word (record { rows = rows; pending = pending; skip = 0 }) ≡ kind.UnknownArgument ∷ []

-- the word is no option, and so a value where one is waited for
pub record IsPlain (s : Shape) (word : Word) : Type 0 where
  pub passes : (waiting : Waiting) (rows : List Row) (pending : Option (Text × List Text))
      → word_fault s [] false waiting word (record { rows = rows; pending = pending; skip = 0 }) ≡ []
  pub met : (waiting : Waiting) (rows : List Row) (pending : Option (Text × List Text))
      → word_met s.rules [] false waiting 1 word (record { rows = rows; pending = pending; skip = 0 })
      ≡ plain_word s.rules waiting word (record { rows = rows; pending = pending; skip = 0 })

pub stops_refused : (s : Shape) (word : Word) (words : List Word) (waiting : Waiting) (rows : List Row) (pending : Option (Text × List Text))
    → IsRefused s word → found_from s (at waiting rows pending) (word ∷ words) ≡ None
stops_refused s word words waiting rows pending refused =
    stops s (at waiting rows pending) word words kind.UnknownArgument
    (ap (λ k. or_else k (step_fault s 1 (word_met s.rules [] false waiting 1 word (record { rows = rows; pending = pending; skip = 0 })).0 (word_met s.rules [] false waiting 1 word (record { rows = rows; pending = pending; skip = 0 })).1)) (refused waiting rows pending))

-- no option takes a plain word where none waits for one
pub stops_plain : (s : Shape) (word : Word) (words : List Word) (rows : List Row) (pending : Option (Text × List Text))
    → HasLongsAlone s → IsPlain s word → found_from s (at idle rows pending) (word ∷ words) ≡ None
stops_plain s word words rows pending longs plain =
    let h : Held = record { rows = rows; pending = pending; skip = 0 } in
    let turn = ap₂ (λ k (m : Held × Step). or_else k (step_fault s 1 m.0 m.1)) (plain.passes idle rows pending) (plain.met idle rows pending) in
    let stray : step_fault s 1 h value ≡ kind.UnknownArgument ∷ [] = ap₂ (λ a l. option_map_or (λ r. positional_fault s.rules s.args_override_self r h) a (cond l (kind.UnknownArgument ∷ []) (kind.UnknownArgument ∷ kind.InvalidSubcommand ∷ []))) longs.positions longs.leaf in
    stops s (at idle rows pending) word words kind.UnknownArgument (turn ∙ stray)
