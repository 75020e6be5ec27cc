-- A list that is changed one value after the other.
use Rattle.std.proofs.Common.{◌≡◌, ℕ, zero, suc, ◌+◌, ◌<◌, List, [], ◌∷◌, ◌++◌, length, map, take, drop, set, get_or, refl, ap, arith, ◌∙◌}

value_there : {X : Type 0} (f : X → X) (xs : List X) (i : ℕ) (d : X) → i < length xs → get_or (map f (take i xs) ++ drop i xs) i d ≡ get_or xs i d
value_there f [] zero d below = refl
value_there f [] (suc i) d below = absurd (omega (arith, below))
value_there f (x ∷ xs) zero d below = refl
value_there f (x ∷ xs) (suc i) d below = value_there f xs i d (omega (arith, below))

changed_there : {X : Type 0} (f : X → X) (xs : List X) (i : ℕ) (d : X) → i < length xs → set (map f (take i xs) ++ drop i xs) i (f (get_or xs i d)) ≡ map f (take (suc i) xs) ++ drop (suc i) xs
changed_there f [] i d below = absurd (omega (arith, below))
changed_there f (x ∷ xs) zero d below = refl
changed_there f (x ∷ xs) (suc i) d below = ap (λ z. f x ∷ z) (changed_there f xs i d (omega (arith, below)))

-- one more is changed
pub changed_more : {X : Type 0} (f : X → X) (xs ys : List X) (i : ℕ) (d : X) → ys ≡ map f (take i xs) ++ drop i xs → i < length xs → set ys i (f (get_or ys i d)) ≡ map f (take (i + 1) xs) ++ drop (i + 1) xs
changed_more f xs ys i d is below =
    let more : suc i ≡ i + 1 = omega arith in
    ap (λ zs. set zs i (f (get_or zs i d))) is ∙ ap (λ z. set (map f (take i xs) ++ drop i xs) i (f z)) (value_there f xs i d below) ∙ changed_there f xs i d below
    ∙ ap (λ k. map f (take k xs) ++ drop k xs) more
