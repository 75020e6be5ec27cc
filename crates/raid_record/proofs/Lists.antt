-- Tests over lists.
use Rattle.std.proofs.Common.{◌≡◌, Bool, true, false, ◌&&◌, ◌||◌, cond, List, [], ◌∷◌, filter, refl, ap, ◌∙◌}
use Rattle.std.specs.List.{list_any, All}
use Rattle.std.proofs.lemmas.List.Elements.{All-head, All-tail}

-- tests that agree on a list
pub any_in : {X : Type 0} (f g : X → Bool) (xs : List X) → All (λ x. f x ≡ g x) xs → list_any f xs ≡ list_any g xs
any_in f g [] h = refl
any_in f g (x ∷ xs) h = ap (λ b. b || list_any f xs) (All-head (λ x. f x ≡ g x) x xs h) ∙ ap (λ b. g x || b) (any_in f g xs (All-tail (λ x. f x ≡ g x) x xs h))

pub kept_in : {X : Type 0} (f g : X → Bool) (xs : List X) → All (λ x. f x ≡ g x) xs → filter f xs ≡ filter g xs
kept_in f g [] h = refl
kept_in f g (x ∷ xs) h =
    ap (λ b. cond b (x ∷ filter f xs) (filter f xs)) (All-head (λ x. f x ≡ g x) x xs h)
    ∙ ap (λ ys. cond (g x) (x ∷ ys) ys) (kept_in f g xs (All-tail (λ x. f x ≡ g x) x xs h))

-- a test with the same condition for all
pub any_and : {X : Type 0} (f : X → Bool) (b : Bool) (xs : List X) → list_any (λ x. f x && b) xs ≡ (list_any f xs && b)
any_and f b [] = refl
any_and f b (x ∷ xs) = ap (λ c. (f x && b) || c) (any_and f b xs) ∙ go (f x) (list_any f xs) b
  where
    go : (a c b : Bool) → ((a && b) || (c && b)) ≡ ((a || c) && b)
    go true true true = refl
    go true true false = refl
    go true false true = refl
    go true false false = refl
    go false c b = refl

pub none_in : {X : Type 0} (f : X → Bool) (xs : List X) → All (λ x. f x ≡ false) xs → list_any f xs ≡ false
none_in f [] h = refl
none_in f (x ∷ xs) h = ap (λ b. b || list_any f xs) (All-head (λ x. f x ≡ false) x xs h) ∙ none_in f xs (All-tail (λ x. f x ≡ false) x xs h)

-- what is kept of what is kept
pub kept_twice : {X : Type 0} (f g : X → Bool) (xs : List X) → filter g (filter f xs) ≡ filter (λ x. f x && g x) xs
kept_twice f g [] = refl
kept_twice f g (x ∷ xs) = go (f x) (kept_twice f g xs)
  where
    go : (b : Bool) → filter g (filter f xs) ≡ filter (λ x. f x && g x) xs →
        filter g (cond b (x ∷ filter f xs) (filter f xs)) ≡ cond (b && g x) (x ∷ filter (λ x. f x && g x) xs) (filter (λ x. f x && g x) xs)
    go true h = ap (λ z. cond (g x) (x ∷ z) z) h
    go false h = h

pub and_true : (b : Bool) → (b && true) ≡ b
and_true true = refl
and_true false = refl

pub or_false : (b : Bool) → (b || false) ≡ b
or_false true = refl
or_false false = refl

pub and_false : (b : Bool) → (b && false) ≡ false
and_false true = refl
and_false false = refl
