-- One line more, and the end.
use Rattle.std.proofs.Common.{◌≡◌, ℕ, ◌+◌, List, [], ◌∷◌, Result, Ok, Err, refl, sym, ◌∙◌}
use Rattle.raid_scan.specs.Words.{Word, words_by_line}
use Rattle.raid_tokens.specs.declared.fault.Fault.{Fault}
use Rattle.raid_text.specs.declared.error.LineError.{LineError}
use Rattle.raid_text.specs.declared.error.LineError.TheVariants as line_errors
use Rattle.raid_text.specs.declared.state.State.{State}
use Rattle.raid_text.specs.Said.{Said, opening}
use Rattle.raid_text.specs.Used.{line_after}
use Rattle.raid_text.specs.Outcome.{Refusal, Gives, Answers, ended, outcome_from, outcome_of, refusal_of}

pub outcome_more : (number : ℕ) (s : State) (line : List Word) (lines : List (List Word)) (next : State) → line_after s line ≡ Ok next → outcome_from number s (line ∷ lines) ≡ outcome_from (number + 1) next lines
unfolding outcome_from
outcome_more number s line lines next h = rw h refl

outcome_stops : (number : ℕ) (s : State) (line : List Word) (lines : List (List Word)) (f : Fault) → line_after s line ≡ Err f → outcome_from number s (line ∷ lines) ≡ Err (number, f)
unfolding outcome_from
outcome_stops number s line lines f h = rw h refl

pub outcome_ends : (number : ℕ) (s : State) → outcome_from number s [] ≡ ended number s
unfolding outcome_from
outcome_ends number s = refl

pub outcome_starts : (text : List ℕ) → outcome_from 1 opening (words_by_line text) ≡ outcome_of text
unfolding outcome_of
outcome_starts text = refl

-- a line at fault is the text's first
pub is_refused : (number : ℕ) (s new : State) (line : List Word) (lines : List (List Word)) (e : LineError) (outcome : Result Said Refusal) → Gives {X = Unit {0}} (λ _. new) (Err e) (line_after s line) → outcome_from number s (line ∷ lines) ≡ outcome → Answers (Err (refusal_of number e)) outcome
is_refused number s new line lines line_errors.NoMemory outcome h so_far = tt
is_refused number s new line lines (line_errors.Fault f) outcome h so_far = sym so_far ∙ outcome_stops number s line lines f h
