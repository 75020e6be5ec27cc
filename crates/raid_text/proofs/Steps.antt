-- The further terms of an expression, one more read.
use Rattle.std.proofs.Common.{◌≡◌, ℕ, suc, ◌+◌, ◌-◌, ◌<◌, Bool, false, List, [], ◌∷◌, ◌++◌, Ok, Err, refl, arith}
use Rattle.raid_scan.specs.Words.{Word}
use Rattle.raid_tokens.specs.declared.fault.Fault.{Fault}
use Rattle.raid_program.specs.declared.program.Term.{Term}
use Rattle.raid_text.specs.Statements.{ends, step_at, steps_at}

pub steps_more : (compared : Bool) (steps : List (Bool × Term)) (n : ℕ) (words : List Word) (step : Bool × Term) (after : List Word) → n < 7 → ends compared words ≡ false → step_at words ≡ Ok (step, after) → steps_at compared steps (7 - n) words ≡ steps_at compared (steps ++ step ∷ []) (7 - (n + 1)) after
unfolding steps_at
steps_more compared steps n words step after lt goes_on read =
    let k : 7 - n ≡ suc (7 - (n + 1)) = omega arith in
    rw (k, goes_on, read) refl

pub steps_end : (compared : Bool) (steps : List (Bool × Term)) (n : ℕ) (words : List Word) (f : Fault) → n < 7 → ends compared words ≡ false → step_at words ≡ Err f → steps_at compared steps (7 - n) words ≡ Err f
unfolding steps_at
steps_end compared steps n words f lt goes_on read =
    let k : 7 - n ≡ suc (7 - (n + 1)) = omega arith in
    rw (k, goes_on, read) refl
