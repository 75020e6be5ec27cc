-- Words cut at their first `=`.
use Rattle.std.proofs.Common.{◌≡◌, ◌∙◌, ◌+◌, ◌∷◌, ◌++◌, ◌||◌, ◌&&◌, ◌==◌, ℕ, Bool, [], true, false, true≢false, refl, sym, ap, arith, take, drop, suc}
use Rattle.std.specs.List.{after_first, before_first, list_any, position_or_len}
use Rattle.std.specs.Str.{bytes_eq}
use Rattle.std.proofs.lemmas.Slice.Eq.{bytes_eq-Decides}
use Rattle.raid_command.specs.Asked.{Word, is_equals_sign}

take_more : (n x : ℕ) (xs : Word) → take (1 + n) (x ∷ xs) ≡ x ∷ take n xs
take_more n x xs = let e : 1 + n ≡ suc n = omega arith in ap (λ k. take k (x ∷ xs)) e

drop_more : (n x : ℕ) (xs : Word) → drop (1 + n + 1) (x ∷ xs) ≡ drop (n + 1) xs
drop_more n x xs = let e : 1 + n + 1 ≡ suc (n + 1) = omega arith in ap (λ k. drop k (x ∷ xs)) e

pub before_more : (x : ℕ) (xs : Word) → is_equals_sign x ≡ false → before_first is_equals_sign (x ∷ xs) ≡ x ∷ before_first is_equals_sign xs
before_more x xs isnt = rw isnt (take_more (position_or_len is_equals_sign xs) x xs)

pub after_more : (x : ℕ) (xs : Word) → is_equals_sign x ≡ false → after_first is_equals_sign (x ∷ xs) ≡ after_first is_equals_sign xs
after_more x xs isnt = rw isnt (drop_more (position_or_len is_equals_sign xs) x xs)

pub is_eq : (a b : ℕ) → (a == b) ≡ true → a ≡ b
is_eq a b e = grind (arith, e)

-- what stands before the sign, the sign, and what stands after it
pub split_at_sign : (xs : Word) → list_any is_equals_sign xs ≡ true → xs ≡ before_first is_equals_sign xs ++ (61 ∷ after_first is_equals_sign xs)
split_at_sign [] has = absurd (true≢false (sym has))
split_at_sign (x ∷ xs) has = go (split_at_sign xs) (is_equals_sign x) refl
  where
    go : (list_any is_equals_sign xs ≡ true → xs ≡ before_first is_equals_sign xs ++ (61 ∷ after_first is_equals_sign xs)) → (b : Bool) → is_equals_sign x ≡ b
        → x ∷ xs ≡ before_first is_equals_sign (x ∷ xs) ++ (61 ∷ after_first is_equals_sign (x ∷ xs))
    go rest true e = rw e (ap (λ y. y ∷ xs) (is_eq x 61 e))
    go rest false e =
        let more : list_any is_equals_sign xs ≡ true = rw e at has in
        ap (λ ys. x ∷ ys) (rest more) ∙ (λ i. sym (before_more x xs e) i ++ (61 ∷ sym (after_more x xs e) i))

pub no_sign : (xs : Word) → list_any is_equals_sign xs ≡ false → before_first is_equals_sign xs ≡ xs
no_sign [] none = refl
no_sign (x ∷ xs) none = go (no_sign xs) (is_equals_sign x) refl
  where
    go : (list_any is_equals_sign xs ≡ false → before_first is_equals_sign xs ≡ xs) → (b : Bool) → is_equals_sign x ≡ b → before_first is_equals_sign (x ∷ xs) ≡ x ∷ xs
    go rest true e = let wrong : true ≡ false = rw e at none in absurd (true≢false wrong)
    go rest false e = let more : list_any is_equals_sign xs ≡ false = rw e at none in before_more x xs e ∙ ap (λ ys. x ∷ ys) (rest more)

pub same_word : (a b : Word) → bytes_eq a b ≡ true → a ≡ b
same_word a b e = (bytes_eq-Decides a b).0 e

pub bytes_eq_sym : (a b : Word) → bytes_eq a b ≡ bytes_eq b a
bytes_eq_sym [] [] = refl
bytes_eq_sym [] (y ∷ ys) = refl
bytes_eq_sym (x ∷ xs) [] = refl
bytes_eq_sym (x ∷ xs) (y ∷ ys) = let e : (x == y) ≡ (y == x) = grind arith in λ i. e i && bytes_eq_sym xs ys i

pub or_false : (a b : Bool) → (a || b) ≡ false → (a ≡ false) × (b ≡ false)
or_false true b e = absurd (true≢false e)
or_false false b e = (refl, e)
