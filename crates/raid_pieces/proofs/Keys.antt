use Rattle.std.proofs.Common.{◌≡◌, ℕ, ◌+◌, Bool, true, false, cond, List, [], ◌∷◌, map, Option, Some, None, refl, sym, ap, ◌∙◌, ◌<◌, length, arith}
use Rattle.std.specs.Prelude.{IfSome}
use Rattle.std.specs.List.{position, position_from, list_any}
use Rattle.std.specs.Str.{bytes_eq}
use Rattle.std.proofs.lemmas.Iterator.Adapters.{position_from-zero}
use Rattle.raid_pieces.specs.Names.{place_of}

position_map : {X Y : Type 0} (test : Y → Bool) (f : X → Y) (k : ℕ) (xs : List X) → position_from (λ x. test (f x)) k xs ≡ position_from test k (map f xs)
position_map test f k [] = refl
position_map test f k (x ∷ xs) = ap (λ (o : Option ℕ). cond (test (f x)) (Some k) o) (position_map test f (k + 1) xs)

pub place_is : {X : Type 0} (name : List ℕ) (f : X → List ℕ) (xs : List X) (names : List (List ℕ)) → map f xs ≡ names → position (λ x. bytes_eq name (f x)) xs ≡ place_of names name
unfolding place_of
place_is name f xs names e = position_from-zero (λ x. bytes_eq name (f x)) xs ∙ position_map (bytes_eq name) f 0 xs ∙ ap (position_from (bytes_eq name) 0) e

none_here : (b : Bool) (k : ℕ) (o : Option ℕ) → cond b (Some k) o ≡ None → (b ≡ false) × (o ≡ None)
none_here true k o h = absurd cc
none_here false k o h = (refl, h)

absent_from : {X : Type 0} (test : X → Bool) (k : ℕ) (xs : List X) → position_from test k xs ≡ None → list_any test xs ≡ false
absent_from test k [] h = refl
absent_from test k (x ∷ xs) h = let n = none_here (test x) k (position_from test (k + 1) xs) h in rw n.0 (absent_from test (k + 1) xs n.1)

pub absent_is : {X : Type 0} (name : List ℕ) (f : X → List ℕ) (xs : List X) (names : List (List ℕ)) → map f xs ≡ names → place_of names name ≡ None → list_any (λ x. bytes_eq name (f x)) xs ≡ false
unfolding place_of
absent_is name f xs names e h = absent_from (λ x. bytes_eq name (f x)) 0 xs (position_map (bytes_eq name) f 0 xs ∙ ap (position_from (bytes_eq name) 0) e ∙ h)

either_some : (b : Bool) (k j n : ℕ) (o : Option ℕ) → cond b (Some k) o ≡ Some j → k < n → (o ≡ Some j → j < n) → j < n
either_some true k j n o h here there = let e : k ≡ j = cc in rw (← e) here
either_some false k j n o h here there = there h

below_from : (test : List ℕ → Bool) (k j : ℕ) (names : List (List ℕ)) → position_from test k names ≡ Some j → j < k + length names
below_from test k j [] h = absurd cc
below_from test k j (name ∷ names) h =
    either_some (test name) k j (k + length (name ∷ names)) (position_from test (k + 1) names) h (omega arith) (λ e. let b = below_from test (k + 1) j names e in omega arith)

-- a place that was found is one of the places
pub place_within : (names : List (List ℕ)) (name : List ℕ) (o : Option ℕ) → o ≡ place_of names name → IfSome o (λ k. k < length names)
unfolding place_of
place_within names name None h = tt
place_within names name (Some j) h = let b = below_from (bytes_eq name) 0 j names (sym h) in omega arith
