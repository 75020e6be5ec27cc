-- What is read is of its form.
use Rattle.std.proofs.Common.{◌+◌, ◌≡◌, ℕ, zero, suc, ◌-◌, ◌<◌, ◌≤◌, Bool, true, false, cond, ◌&&◌, leb, eqb, ℤ, List, [], ◌∷◌, Option, Some, None, Result, Ok, Err, refl, ap, arith, subst}
use Rattle.std.specs.Prelude.{if◌then◌else◌}
use Rattle.std.proofs.lemmas.Bool.{leb-true, and_parts}
use Rattle.raid_scan.specs.Words.{Word}
use Rattle.raid_tokens.specs.declared.fault.Fault.{Fault}
use Rattle.raid_tokens.specs.declared.fault.Fault.TheVariants.{Token, Range}
use Rattle.raid_program.specs.declared.program.Term.{Term}
use Rattle.raid_program.specs.declared.program.Term.TheVariants.{Reg, Value}
use Rattle.raid_tokens.specs.Reading.{◌>>=◌}
use Rattle.raid_tokens.proofs.Fits.{IsValue, IsTerm}
use Rattle.raid_workload.specs.Rules.{is_within}
use Rattle.raid_workload.specs.Name.{is_name}
use Rattle.raid_tokens.specs.Words.{is_digit, is_number, decimal, number_of, number_at, name_at, signed, magnitude_of, value_of, value_at, register_of, register_or_token, register_at, register_or_value, term_of, term_at, word_at}

-- the value of a step that did not fail
pub bind_ok : {A B : Type 0} (r : Result A Fault) (f : A → Result B Fault) (y : B) → (r >>= f) ≡ Ok y → (x : A) × (r ≡ Ok x) × (f x ≡ Ok y)
bind_ok (Ok x) f y e = (x, refl, e)
bind_ok (Err d) f y e = absurd cc

-- a test that was passed
pub test_ok : {A : Type 0} (b : Bool) (r : Result A Fault) (d : Fault) (y : A) → cond b r (Err d) ≡ Ok y → (b ≡ true) × (r ≡ Ok y)
test_ok true r d y e = (refl, e)
test_ok false r d y e = absurd cc

abbrev fine : {A : Type 0} → A → Result A Fault
fine x = Ok x

pub ok_is : {A : Type 0} (x y : A) → fine x ≡ fine y → x ≡ y
ok_is x y e = cc

pub number_of_ok : (low high : ℕ) (f : Fault) (word : Word) (n : ℕ) → number_of low high f word ≡ Ok n → (low ≤ n) × (n ≤ high)
unfolding number_of
number_of_ok low high f word n e =
    let a = test_ok (is_number 9 word) (if is_within low high (decimal word) then Ok (decimal word) else Err f) Token n e in
    let b = test_ok (is_within low high (decimal word)) (Ok (decimal word)) f n a.1 in
    let p = and_parts (leb low (decimal word)) (leb (decimal word) high) b.0 in
    let is : decimal word ≡ n = ok_is (decimal word) n b.1 in
    rw (← is) (leb-true _ _ p.0, leb-true _ _ p.1)

pub number_at_ok : (low high : ℕ) (f : Fault) (words : List Word) (x : ℕ × List Word) → number_at low high f words ≡ Ok x → (low ≤ x.0) × (x.0 ≤ high)
unfolding number_at
number_at_ok low high f words x e =
    let a = bind_ok (word_at words) (λ word. number_of low high f word.0 >>= λ n. Ok (n, word.1)) x e in
    let b = bind_ok (number_of low high f a.0.0) (λ n. Ok (n, a.0.1)) x a.2 in
    let is : (b.0, a.0.1) ≡ x = ok_is (b.0, a.0.1) x b.2 in
    subst (λ (y : ℕ × List Word). (low ≤ y.0) × (y.0 ≤ high)) is (number_of_ok low high f a.0.0 b.0 b.1)

pub name_at_ok : (words : List Word) (x : Word × List Word) → name_at words ≡ Ok x → is_name x.0 ≡ true
unfolding name_at
name_at_ok words x e =
    let a = bind_ok (word_at words) (λ word. if is_name word.0 then Ok (word.0, word.1) else Err Token) x e in
    let b = test_ok (is_name a.0.0) (Ok (a.0.0, a.0.1)) Token x a.2 in
    subst (λ (y : Word × List Word). is_name y.0 ≡ true) (ok_is (a.0.0, a.0.1) x b.1) b.0

signed_fits : (negative : Bool) (n : ℕ) → n ≤ (if negative then 9223372036854775808 else 9223372036854775807) → IsValue (signed negative n)
signed_fits true zero le = omega arith
signed_fits true (suc n) le = omega arith
signed_fits false n le = omega arith

magnitude_ok : (negative : Bool) (digits : List ℕ) (z : ℤ) → magnitude_of negative digits ≡ Ok z → IsValue z
unfolding magnitude_of
magnitude_ok negative digits z e =
    let inner : Result ℤ Fault = if leb (decimal digits) (if negative then 9223372036854775808 else 9223372036854775807) then Ok (signed negative (decimal digits)) else Err Range in
    let a = test_ok (is_number 19 digits) inner Token z e in
    let b = test_ok (leb (decimal digits) (if negative then 9223372036854775808 else 9223372036854775807)) (Ok (signed negative (decimal digits))) Range z a.1 in
    subst IsValue (ok_is (signed negative (decimal digits)) z b.1) (signed_fits negative (decimal digits) (leb-true _ _ b.0))

either_magnitude : (b : Bool) (x y : List ℕ) (z : ℤ) → cond b (magnitude_of true x) (magnitude_of false y) ≡ Ok z → IsValue z
either_magnitude true x y z e = magnitude_ok true x z e
either_magnitude false x y z e = magnitude_ok false y z e

pub value_of_ok : (word : Word) (z : ℤ) → value_of word ≡ Ok z → IsValue z
unfolding value_of
value_of_ok [] z e = absurd cc
value_of_ok (b ∷ bytes) z e = either_magnitude (eqb b 45) bytes (b ∷ bytes) z e

pub value_at_ok : (words : List Word) (x : ℤ × List Word) → value_at words ≡ Ok x → IsValue x.0
unfolding value_at
value_at_ok words x e =
    let a = bind_ok (word_at words) (λ word. value_of word.0 >>= λ z. Ok (z, word.1)) x e in
    let b = bind_ok (value_of a.0.0) (λ z. Ok (z, a.0.1)) x a.2 in
    subst (λ (y : ℤ × List Word). IsValue y.0) (ok_is (b.0, a.0.1) x b.2) (value_of_ok a.0.0 b.0 b.1)

some_is : (b : Bool) (n r : ℕ) → cond b (Some n) None ≡ Some r → (b ≡ true) × (n ≡ r)
some_is true n r e = (refl, cc)
some_is false n r e = absurd cc

pub register_of_ok : (word : Word) (r : ℕ) → register_of word ≡ Some r → r < 16
unfolding register_of
register_of_ok [] r e = absurd cc
register_of_ok (a ∷ []) r e = absurd cc
register_of_ok (a ∷ d ∷ []) r e =
    let s = some_is (eqb a 114 && is_digit d) (d - 48) r e in
    let p = and_parts (eqb a 114) (is_digit d) s.0 in
    let q = and_parts (leb 48 d) (leb d 57) p.1 in
    omega (arith, s.1, leb-true _ _ q.1)
register_of_ok (a ∷ d ∷ f ∷ []) r e =
    let s = some_is (eqb a 114 && eqb d 49 && is_within 48 53 f) (10 + (f - 48)) r e in
    let p = and_parts (eqb a 114 && eqb d 49) (is_within 48 53 f) s.0 in
    let q = and_parts (leb 48 f) (leb f 53) p.1 in
    omega (arith, s.1, leb-true _ _ q.1)
register_of_ok (a ∷ d ∷ f ∷ g ∷ bytes) r e = absurd cc

register_or_ok : (o : Option ℕ) (words : List Word) (x : ℕ × List Word) → register_or_token o words ≡ Ok x → o ≡ Some x.0
register_or_ok None words x e = absurd cc
register_or_ok (Some r) words x e = ap (λ (y : ℕ × List Word). Some y.0) (ok_is (r, words) x e)

pub register_at_ok : (words : List Word) (x : ℕ × List Word) → register_at words ≡ Ok x → x.0 < 16
unfolding register_at
register_at_ok words x e =
    let a = bind_ok (word_at words) (λ word. register_or_token (register_of word.0) word.1) x e in
    register_of_ok a.0.0 x.0 (register_or_ok (register_of a.0.0) a.0.1 x a.2)

term_or_ok : (o : Option ℕ) (r : Result ℤ Fault) (t : Term) → ((k : ℕ) → o ≡ Some k → k < 16) → ((z : ℤ) → r ≡ Ok z → IsValue z) → register_or_value o r ≡ Ok t → IsTerm t
term_or_ok (Some k) r t below fits e = subst IsTerm (ok_is (Reg k) t e) (below k refl)
term_or_ok None (Ok z) t below fits e = subst IsTerm (ok_is (Value z) t e) (fits z refl)
term_or_ok None (Err f) t below fits e = absurd cc

pub term_at_ok : (words : List Word) (x : Term × List Word) → term_at words ≡ Ok x → IsTerm x.0
unfolding term_at term_of
term_at_ok words x e =
    let a = bind_ok (word_at words) (λ word. register_or_value (register_of word.0) (value_of word.0) >>= λ t. Ok (t, word.1)) x e in
    let b = bind_ok (register_or_value (register_of a.0.0) (value_of a.0.0)) (λ t. Ok (t, a.0.1)) x a.2 in
    subst (λ (y : Term × List Word). IsTerm y.0) (ok_is (b.0, a.0.1) x b.2) (term_or_ok (register_of a.0.0) (value_of a.0.0) b.0 (register_of_ok a.0.0) (value_of_ok a.0.0) b.1)
