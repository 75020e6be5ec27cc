-- A statement that is read has its form, names an item that there is, and has values of i64.
use Rattle.std.proofs.Common.{◌≡◌, ℕ, zero, suc, ◌+◌, ◌<◌, ◌≤◌, Bool, true, false, cond, ◌&&◌, List, [], ◌∷◌, ◌++◌, length, Option, Some, None, Result, Ok, Err, refl, ap, ◌∙◌, arith, subst, codes, leb}
use Rattle.std.specs.Prelude.{bytes_eq}
use Rattle.std.specs.List.{list_all, position_from}
use Rattle.std.proofs.lemmas.Bool.{le-leb, lt-ltb, and_parts}
use Rattle.std.proofs.lemmas.List.{length_push}
use Rattle.std.proofs.lemmas.List.Folds.{list_all-append}
use Rattle.raid_base.specs.declared.names.Item.{Item}
use Rattle.raid_program.specs.declared.program.Term.{Term}
use Rattle.raid_program.specs.declared.program.Expr.{Expr}
use Rattle.raid_program.specs.declared.program.Statement.{Statement}
use Rattle.raid_program.specs.declared.program.Statement.TheVariants as statements
use Rattle.raid_program.specs.Form.{is_term, is_expr, is_formed}
use Rattle.raid_scan.specs.Words.{Word}
use Rattle.raid_tokens.specs.declared.fault.Fault.{Fault}
use Rattle.raid_tokens.specs.declared.fault.Fault.TheVariants as faults
use Rattle.raid_tokens.specs.Reading.{◌>>=◌}
use Rattle.raid_tokens.specs.Words.{keyword_at, name_at, register_at, term_at, end_at}
use Rattle.raid_tokens.proofs.Fits.{IsTerm, term_is, term_is_of_i64}
use Rattle.raid_tokens.proofs.Takes.{bind_ok, ok_is, register_at_ok, term_at_ok}
use Rattle.raid_workload.specs.Rules.{is_term_of_i64, is_expr_of_i64, names_items, is_of_i64, is_statement}
use Rattle.raid_text.specs.Names.{place_of}
use Rattle.raid_text.specs.Statements.{item, known, item_at, ends, sign_at, step_at, steps_at, expr_at, read_at, write_at, stop_if_at}

-- ---- items

some_below : (b : Bool) (k j : ℕ) (o : Option ℕ) (n : ℕ) → ((i : ℕ) → o ≡ Some i → i < n) → k < n → cond b (Some k) o ≡ Some j → j < n
some_below true k j o n others here e = subst (λ (x : ℕ). x < n) (some_same k j e) here
  where
    some_same : (a c : ℕ) → Some a ≡ Some c → a ≡ c
    some_same a c h = cc
some_below false k j o n others here e = others j e

position_below : (test : Word → Bool) (k : ℕ) (names : List Word) (j : ℕ) → position_from test k names ≡ Some j → j < k + length names
position_below test k [] j e = absurd cc
position_below test k (name ∷ names) j e =
    some_below (test name) k j (position_from test (k + 1) names) (k + length (name ∷ names)) (λ i h. omega (arith, position_below test (k + 1) names i h)) (omega arith) e

known_ok : (o : Option ℕ) (words : List Word) (x : Item × List Word) → known o words ≡ Ok x → o ≡ Some x.0.0
known_ok None words x e = absurd cc
known_ok (Some k) words x e = ap (λ (y : Item × List Word). Some y.0.0) (ok_is (item k, words) x e)

item_ok : (names words : List Word) (x : Item × List Word) → item_at names words ≡ Ok x → x.0.0 < length names
unfolding item_at place_of
item_ok names words x e =
    let a = bind_ok (name_at words) _ x e in
    omega (arith, position_below (bytes_eq a.0.0) 0 names x.0.0 (known_ok (position_from (bytes_eq a.0.0) 0 names) a.0.1 x a.2))

-- ---- expressions

-- what is kept of further terms
pub record AreTerms (most : ℕ) (steps : List (Bool × Term)) : Type 0 where
  pub form : list_all (λ t. is_term t.1) steps ≡ true
  pub values : list_all (λ t. is_term_of_i64 t.1) steps ≡ true
  pub few : length steps ≤ most

step_ok : (words : List Word) (x : (Bool × Term) × List Word) → step_at words ≡ Ok x → IsTerm x.0.1
unfolding step_at
step_ok words x e =
    let a = bind_ok (sign_at words) _ x e in
    let b = bind_ok (term_at a.0.1) _ x a.2 in
    let made : (Bool × Term) × List Word = ((a.0.0, b.0.0), b.0.1) in
    subst (λ (y : (Bool × Term) × List Word). IsTerm y.0.1) (ok_is made x b.2) (term_at_ok a.0.1 b.0 b.1)

terms_push : (most : ℕ) (steps : List (Bool × Term)) (step : Bool × Term) → AreTerms most steps → length steps < most → IsTerm step.1 → AreTerms most (steps ++ step ∷ [])
terms_push most steps step are room is = record {
  form = list_all-append (λ (t : Bool × Term). is_term t.1) steps (step ∷ []) ∙ rw (are.form, term_is step.1 is) refl;
  values = list_all-append (λ (t : Bool × Term). is_term_of_i64 t.1) steps (step ∷ []) ∙ rw (are.values, term_is_of_i64 step.1 is) refl;
  few = omega (arith, length_push steps step);
}

steps_either : (b : Bool) (r : Result (List (Bool × Term) × List Word) Fault) (steps : List (Bool × Term)) (words : List Word) (x : List (Bool × Term) × List Word) (most : ℕ) → AreTerms most steps → (r ≡ Ok x → AreTerms most x.0) → cond b (Ok (steps, words)) r ≡ Ok x → AreTerms most x.0
steps_either true r steps words x most are others e = subst (λ (y : List (Bool × Term) × List Word). AreTerms most y.0) (ok_is (steps, words) x e) are
steps_either false r steps words x most are others e = others e

steps_ok : (compared : Bool) (steps : List (Bool × Term)) (room : ℕ) (words : List Word) (x : List (Bool × Term) × List Word) (most : ℕ) → AreTerms most steps → length steps + room ≤ most → steps_at compared steps room words ≡ Ok x → AreTerms most x.0
unfolding steps_at
steps_ok compared steps zero words x most are few e = steps_either (ends compared words) (Err faults.Token) steps words x most are (λ h. absurd cc) e
steps_ok compared steps (suc room) words x most are few e =
    steps_either (ends compared words) (step_at words >>= λ step. steps_at compared (steps ++ step.0 ∷ []) room step.1) steps words x most are
    (λ h. let a = bind_ok (step_at words) (λ step. steps_at compared (steps ++ step.0 ∷ []) room step.1) x h in
    let n : length (steps ++ a.0.0 ∷ []) ≡ length steps + 1 = length_push steps a.0.0 in
    steps_ok compared (steps ++ a.0.0 ∷ []) room a.0.1 x most (terms_push most steps a.0.0 are (omega arith) (step_ok words a.0 a.1)) (omega arith) a.2) e

pub record IsExpr (expr : Expr) : Type 0 where
  pub form : is_expr expr ≡ true
  pub values : is_expr_of_i64 expr ≡ true

expr_ok : (compared : Bool) (words : List Word) (x : Expr × List Word) → expr_at compared words ≡ Ok x → IsExpr x.0
unfolding expr_at
expr_ok compared words x e =
    let a = bind_ok (term_at words) _ x e in
    let b = bind_ok (steps_at compared [] 7 a.0.1) _ x a.2 in
    let s = steps_ok compared [] 7 a.0.1 b.0 7 (record { form = refl; values = refl; few = omega arith }) (omega arith) b.1 in
    let made : Expr × List Word = (record { first = a.0.0; rest = b.0.0 }, b.0.1) in
    let first = term_at_ok words a.0 a.1 in
    let short : leb (length b.0.0) 7 ≡ true = le-leb _ _ s.few in
    subst (λ (y : Expr × List Word). IsExpr y.0) (ok_is made x b.2)
    (record { form = rw (term_is a.0.0 first, short, s.form) refl; values = rw (term_is_of_i64 a.0.0 first, s.values) refl })

-- ---- statements

pub read_ok : (names words : List Word) (x : Statement) → read_at names words ≡ Ok x → is_statement (length names) x ≡ true
unfolding read_at
read_ok names words x e =
    let a = bind_ok (item_at names words) _ x e in
    let b = bind_ok (register_at a.0.1) _ x a.2 in
    let c = bind_ok (end_at b.0.1) _ x b.2 in
    let r = lt-ltb b.0.0 16 (omega (arith, register_at_ok a.0.1 b.0 b.1)) in
    subst (λ (y : Statement). is_statement (length names) y ≡ true) (ok_is (statements.Read a.0.0 b.0.0) x c.2)
    (rw (r, lt-ltb a.0.0.0 (length names) (item_ok names words a.0 a.1)) refl)

pub write_ok : (names words : List Word) (x : Statement) → write_at names words ≡ Ok x → is_statement (length names) x ≡ true
unfolding write_at
write_ok names words x e =
    let a = bind_ok (item_at names words) _ x e in
    let b = bind_ok (expr_at false a.0.1) _ x a.2 in
    let c = bind_ok (end_at b.0.1) _ x b.2 in
    let is = expr_ok false a.0.1 b.0 b.1 in
    subst (λ (y : Statement). is_statement (length names) y ≡ true) (ok_is (statements.Write a.0.0 b.0.0) x c.2)
    (rw (is.form, is.values, lt-ltb a.0.0.0 (length names) (item_ok names words a.0 a.1)) refl)

pub stop_if_ok : (items : ℕ) (words : List Word) (x : Statement) → stop_if_at words ≡ Ok x → is_statement items x ≡ true
unfolding stop_if_at
stop_if_ok items words x e =
    let a = bind_ok (keyword_at (codes "if") words) _ x e in
    let b = bind_ok (expr_at true a.0) _ x a.2 in
    let c = bind_ok (keyword_at (codes "<") b.0.1) _ x b.2 in
    let d = bind_ok (expr_at false c.0) _ x c.2 in
    let f = bind_ok (end_at d.0.1) _ x d.2 in
    let left = expr_ok true a.0 b.0 b.1 in
    let right = expr_ok false c.0 d.0 d.1 in
    subst (λ (y : Statement). is_statement items y ≡ true) (ok_is (statements.StopIf b.0.0 d.0.0) x f.2)
    (rw (left.form, right.form, left.values, right.values) refl)

-- so it has its form
statement_formed : (items : ℕ) (x : Statement) → is_statement items x ≡ true → is_formed x ≡ true
statement_formed items x h =
    let p = and_parts (is_formed x && names_items items x) (is_of_i64 x) h in
    let q = and_parts (is_formed x) (names_items items x) p.0 in
    q.0

pub read_formed : (names words : List Word) (x : Statement) → read_at names words ≡ Ok x → is_formed x ≡ true
read_formed names words x e = statement_formed (length names) x (read_ok names words x e)

pub write_formed : (names words : List Word) (x : Statement) → write_at names words ≡ Ok x → is_formed x ≡ true
write_formed names words x e = statement_formed (length names) x (write_ok names words x e)

pub stop_if_formed : (words : List Word) (x : Statement) → stop_if_at words ≡ Ok x → is_formed x ≡ true
stop_if_formed words x e = statement_formed 0 x (stop_if_ok 0 words x e)
