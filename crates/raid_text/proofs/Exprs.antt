-- An expression, as it is written, is read again.
use Rattle.std.proofs.Common.{◌≡◌, ℕ, zero, suc, ◌≤◌, Bool, true, false, ◌&&◌, leb, List, [], ◌∷◌, ◌++◌, length, Ok, refl, sym, ap, ◌∙◌, arith, subst, append_assoc, codes}
use Rattle.std.specs.List.{list_all, AllByRecursion}
use Rattle.std.proofs.lemmas.Bool.{and_right, and_parts, leb-true}
use Rattle.std.proofs.lemmas.List.{append-nil}
use Rattle.raid_program.specs.declared.program.Term.{Term}
use Rattle.raid_program.specs.declared.program.Expr.{Expr}
use Rattle.raid_program.specs.Form.{is_term, is_expr}
use Rattle.raid_scan.specs.Words.{Word, is_plain}
use Rattle.raid_tokens.specs.Words.{word_at}
use Rattle.raid_tokens.specs.Spelled.{term_word}
use Rattle.raid_tokens.proofs.Fits.{IsTerm, term_fits}
use Rattle.raid_tokens.proofs.Written.{term_plain}
use Rattle.raid_tokens.proofs.Again.{term_at_again}
use Rattle.raid_workload.specs.Rules.{is_term_of_i64, is_expr_of_i64}
use Rattle.raid_text.specs.Statements.{ends, sign_at, step_at, steps_at, expr_at}
use Rattle.raid_text.specs.Spelling.{sign_word, steps_words, expr_words}

abbrev pub IsStep : Bool × Term → Type 0
IsStep step = IsTerm step.1

pub record IsExpr (expr : Expr) : Type 0 where
  pub first : IsTerm expr.first
  pub rest : AllByRecursion IsStep expr.rest
  pub few : length expr.rest ≤ 7

steps_fit : (steps : List (Bool × Term)) → list_all (λ (t : Bool × Term). is_term t.1) steps ≡ true → list_all (λ (t : Bool × Term). is_term_of_i64 t.1) steps ≡ true → AllByRecursion IsStep steps
steps_fit [] form values = tt
steps_fit (step ∷ steps) form values =
    let p = and_parts (is_term step.1) (list_all (λ (t : Bool × Term). is_term t.1) steps) form in
    let q = and_parts (is_term_of_i64 step.1) (list_all (λ (t : Bool × Term). is_term_of_i64 t.1) steps) values in
    (term_fits step.1 p.0 q.0, steps_fit steps p.1 q.1)

pub expr_fits : (expr : Expr) → is_expr expr ≡ true → is_expr_of_i64 expr ≡ true → IsExpr expr
expr_fits expr form values =
    let a = and_parts (is_term expr.first && leb (length expr.rest) 7) (list_all (λ (t : Bool × Term). is_term t.1) expr.rest) form in
    let b = and_parts (is_term expr.first) (leb (length expr.rest) 7) a.0 in
    let c = and_parts (is_term_of_i64 expr.first) (list_all (λ (t : Bool × Term). is_term_of_i64 t.1) expr.rest) values in
    record { first = term_fits expr.first b.0 c.0; rest = steps_fit expr.rest a.1 c.1; few = leb-true _ _ b.1 }

sign_goes_on : (compared plus : Bool) (words : List Word) → ends compared (sign_word plus ∷ words) ≡ false
unfolding ends
sign_goes_on compared true words = and_right compared false refl
sign_goes_on compared false words = and_right compared false refl

sign_again : (plus : Bool) (words : List Word) → sign_at (sign_word plus ∷ words) ≡ Ok (plus, words)
unfolding sign_at word_at
sign_again true words = refl
sign_again false words = refl

step_again : (step : Bool × Term) (words : List Word) → IsStep step → step_at (sign_word step.0 ∷ term_word step.1 ∷ words) ≡ Ok (step, words)
unfolding step_at
step_again step words h = rw (sign_again step.0 (term_word step.1 ∷ words), term_at_again step.1 words h) refl

no_steps : (compared : Bool) (before : List (Bool × Term)) (room : ℕ) (rest : List Word) → ends compared rest ≡ true → steps_at compared before room rest ≡ Ok (before, rest)
unfolding steps_at
no_steps compared before zero rest end = rw end refl
no_steps compared before (suc room) rest end = rw end refl

steps_again : (compared : Bool) (before steps : List (Bool × Term)) (room : ℕ) (rest : List Word) → length steps ≤ room → ends compared rest ≡ true → AllByRecursion IsStep steps → steps_at compared before room (steps_words steps ++ rest) ≡ Ok (before ++ steps, rest)
unfolding steps_at
steps_again compared before [] room rest few end are = no_steps compared before room rest end ∙ ap (λ (xs : List (Bool × Term)). Ok (xs, rest)) (sym (append-nil before))
steps_again compared before (step ∷ steps) zero rest few end are = absurd (omega arith)
steps_again compared before (step ∷ steps) (suc room) rest few end are =
    let next = steps_again compared (before ++ step ∷ []) steps room rest (omega arith) end are.1 in
    rw (sign_goes_on compared step.0 (term_word step.1 ∷ (steps_words steps ++ rest)), step_again step (steps_words steps ++ rest) are.0)
    (next ∙ ap (λ (xs : List (Bool × Term)). Ok (xs, rest)) (append_assoc before (step ∷ []) steps))

pub expr_again : (compared : Bool) (expr : Expr) (rest : List Word) → ends compared rest ≡ true → IsExpr expr → expr_at compared (expr_words expr ++ rest) ≡ Ok (expr, rest)
unfolding expr_at
expr_again compared expr rest end is = rw (term_at_again expr.first (steps_words expr.rest ++ rest) is.first, steps_again compared [] expr.rest 7 rest is.few end is.rest) refl

sign_plain : (plus : Bool) → is_plain (sign_word plus) ≡ true
sign_plain true = refl
sign_plain false = refl

steps_plain : (steps : List (Bool × Term)) → AllByRecursion IsStep steps → list_all is_plain (steps_words steps) ≡ true
steps_plain [] are = refl
steps_plain (step ∷ steps) are = rw (sign_plain step.0, term_plain step.1 are.0) (steps_plain steps are.1)

pub expr_plain : (expr : Expr) → IsExpr expr → list_all is_plain (expr_words expr) ≡ true
expr_plain expr is = rw (term_plain expr.first is.first) (steps_plain expr.rest is.rest)

pub expr_alone : (expr : Expr) → IsExpr expr → expr_at false (expr_words expr) ≡ Ok (expr, [])
unfolding ends
expr_alone expr is = subst (λ (ws : List Word). expr_at false ws ≡ Ok (expr, [])) (append-nil (expr_words expr)) (expr_again false expr [] refl is)

-- an expression before the word `<`
pub expr_compared : (expr : Expr) (words : List Word) → IsExpr expr → expr_at true (expr_words expr ++ (codes "<" ∷ words)) ≡ Ok (expr, codes "<" ∷ words)
unfolding ends
expr_compared expr words is = expr_again true expr (codes "<" ∷ words) refl is
