-- What several lines make of a state.
use Rattle.std.proofs.Common.{◌≡◌, ℕ, ◌+◌, true, List, [], ◌∷◌, ◌++◌, length, Result, Ok, refl, ap, ◌∙◌, arith, add-zero}
use Rattle.std.specs.List.{list_all}
use Rattle.std.proofs.lemmas.Bool.{and_from}
use Rattle.std.proofs.lemmas.List.Folds.{list_all-append}
use Rattle.raid_scan.specs.Words.{Word, is_plain, are_plain}
use Rattle.raid_tokens.specs.declared.fault.Fault.{Fault}
use Rattle.raid_tokens.specs.Reading.{◌>>=◌}
use Rattle.raid_tokens.proofs.Takes.{bind_ok}
use Rattle.raid_text.specs.declared.state.State.{State}
use Rattle.raid_text.specs.Used.{line_after}
use Rattle.raid_text.specs.Outcome.{ended, outcome_from}
use Rattle.raid_text.proofs.Outcome.{outcome_more}

abbrev pub state_after : State → List (List Word) → Result State Fault
state_after s [] = Ok s
state_after s (words ∷ lines) = line_after s words >>= λ t. state_after t lines

-- plain lines that lead from one state to another
pub record Goes (s : State) (lines : List (List Word)) (t : State) : Type 0 where
  pub plain : are_plain lines ≡ true
  pub state : state_after s lines ≡ Ok t

pub goes_none : (s : State) → Goes s [] s
goes_none s = record { plain = refl; state = refl }

pub goes_line : (s : State) (words : List Word) (t : State) → list_all is_plain words ≡ true → line_after s words ≡ Ok t → Goes s (words ∷ []) t
goes_line s words t plain state = record { plain = rw plain refl; state = rw state refl }

after_then : (s : State) (lines more : List (List Word)) (t : State) → state_after s lines ≡ Ok t → state_after s (lines ++ more) ≡ state_after t more
after_then s [] more t h = let e : s ≡ t = cc in rw e refl
after_then s (words ∷ lines) more t h =
    let b = bind_ok (line_after s words) (λ u. state_after u lines) t h in
    rw b.1 (after_then b.0 lines more t b.2)

pub goes_then : (s : State) (lines : List (List Word)) (t : State) (more : List (List Word)) (u : State) → Goes s lines t → Goes t more u → Goes s (lines ++ more) u
goes_then s lines t more u a b = record {
  plain = list_all-append (list_all is_plain) lines more ∙ and_from (are_plain lines) (are_plain more) a.plain b.plain;
  state = after_then s lines more t a.state ∙ b.state;
}

pub goes_outcome : (number : ℕ) (s : State) (lines : List (List Word)) (t : State) → state_after s lines ≡ Ok t → outcome_from number s lines ≡ ended (number + length lines) t
unfolding outcome_from
goes_outcome number s [] t h = let e : s ≡ t = cc in rw (e, add-zero number) refl
goes_outcome number s (words ∷ lines) t h =
    let b = bind_ok (line_after s words) (λ u. state_after u lines) t h in
    let n : number + 1 + length lines ≡ number + length (words ∷ lines) = omega arith in
    outcome_more number s words lines b.0 b.1 ∙ goes_outcome (number + 1) b.0 lines t b.2 ∙ ap (λ (k : ℕ). ended k t) n
