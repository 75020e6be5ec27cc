-- The links keep their shape: one to each server from each.
use Rattle.std.proofs.Common.{◌≡◌, ◌≢◌, ◌⊎◌, inl, inr, ℕ, zero, suc, ◌<◌, List, [], ◌∷◌, length, map, Some, arith, sym, ap, subst, ◌∙◌, refl}
use Rattle.std.specs.Prelude.{slice_get, slice_set, slice_index_or}
use Rattle.raid_message.specs.declared.letter.Letter.{Letter}
use Rattle.raid_steps.specs.World.{link, set_link}
use Rattle.std.proofs.lemmas.List.{get_or-set_other}
use Rattle.raid_world.specs.Stands.{AreLinks}

-- two numbers are the same or not
pub same_or_not : (a b : ℕ) → (a ≡ b) ⊎ (a ≢ b)
same_or_not zero zero = inl refl
same_or_not zero (suc b) = inr (λ q. omega (arith, q))
same_or_not (suc a) zero = inr (λ q. omega (arith, q))
same_or_not (suc a) (suc b) = elim (same_or_not a b) [
  | inl q ↦ inl (ap suc q)
  | inr q ↦ inr (λ r. q (omega (arith, r)))
]

-- an element elsewhere stays
pub get_other : {X : Type 0} (xs : List X) (i j : ℕ) (y : X) → j ≢ i → slice_get (slice_set xs i y) j ≡ slice_get xs j
get_other [] i j y differ = refl
get_other (x ∷ xs) zero zero y differ = absurd (differ refl)
get_other (x ∷ xs) zero (suc j) y differ = refl
get_other (x ∷ xs) (suc i) zero y differ = refl
get_other (x ∷ xs) (suc i) (suc j) y differ = get_other xs i j y (λ q. differ (ap suc q))

pub index_other : {X : Type 0} (xs : List X) (i j : ℕ) (y d : X) → j ≢ i → slice_index_or (slice_set xs i y) j d ≡ slice_index_or xs j d
index_other xs i j y d differ = get_or-set_other xs i j y d differ

pub length_set : {X : Type 0} (xs : List X) (i : ℕ) (y : X) → length (slice_set xs i y) ≡ length xs
length_set [] i y = refl
length_set (x ∷ xs) zero y = refl
length_set (x ∷ xs) (suc i) y = ap suc (length_set xs i y)

-- what is set is there
pub set_at : {X : Type 0} (xs : List X) (i : ℕ) (y d : X) → i < length xs → slice_index_or (slice_set xs i y) i d ≡ y
set_at [] i y d below = absurd (omega (arith, below))
set_at (x ∷ xs) zero y d below = refl
set_at (x ∷ xs) (suc i) y d below = set_at xs i y d (omega (arith, below))

-- to set what is there changes nothing
pub set_same : {X : Type 0} (xs : List X) (i : ℕ) (d : X) → slice_set xs i (slice_index_or xs i d) ≡ xs
set_same [] i d = refl
set_same (x ∷ xs) zero d = refl
set_same (x ∷ xs) (suc i) d = ap (λ ys. x ∷ ys) (set_same xs i d)

-- what stands at a place
pub get_is : {X : Type 0} (xs : List X) (k : ℕ) (x : X) → k < length xs → x ≡ slice_index_or xs k x → slice_get xs k ≡ Some x
get_is [] k x below q = absurd (omega (arith, below))
get_is (y ∷ ys) zero x below q = ap Some (sym q)
get_is (y ∷ ys) (suc k) x below q = get_is ys k x (omega (arith, below)) q

pub get_set : {X : Type 0} (xs : List X) (k : ℕ) (y : X) → k < length xs → slice_get (slice_set xs k y) k ≡ Some y
get_set [] k y below = absurd (omega (arith, below))
get_set (x ∷ xs) zero y below = refl
get_set (x ∷ xs) (suc k) y below = get_set xs k y (omega (arith, below))

pub map_set : {X Y : Type 0} (f : X → Y) (xs : List X) (k : ℕ) (y : X) → map f (slice_set xs k y) ≡ slice_set (map f xs) k (f y)
map_set f [] k y = refl
map_set f (x ∷ xs) zero y = refl
map_set f (x ∷ xs) (suc k) y = ap (λ ys. f x ∷ ys) (map_set f xs k y)

pub map_get : {X Y : Type 0} (f : X → Y) (xs : List X) (k : ℕ) (x : X) → slice_get xs k ≡ Some x → slice_get (map f xs) k ≡ Some (f x)
map_get f [] k x q = absurd (cc q)
map_get f (y ∷ ys) zero x q = let e : y ≡ x = cc q in ap (λ z. Some (f z)) e
map_get f (y ∷ ys) (suc k) x q = map_get f ys k x q

pub map_length : {X Y : Type 0} (f : X → Y) (xs : List X) → length (map f xs) ≡ length xs
map_length f [] = refl
map_length f (x ∷ xs) = ap suc (map_length f xs)

pub set_link_same : (links : List (List (List Letter))) (a b : ℕ) → set_link links a b (link links a b) ≡ links
set_link_same links a b = ap (slice_set links a) (set_same (slice_index_or links a []) b []) ∙ set_same links a []

pub set_shape : (n : ℕ) (links : List (List (List Letter))) (a b : ℕ) (queue : List Letter) → AreLinks n links → AreLinks n (set_link links a b queue)
set_shape n links a b queue l = record {
  count = length_set links a _ ∙ l.count;
  rows = λ k below. go k below (same_or_not k a);
} where
  row : List (List Letter)
  row = slice_set (slice_index_or links a []) b queue

  go : (k : ℕ) → k < n → (k ≡ a) ⊎ (k ≢ a) → length (slice_index_or (set_link links a b queue) k []) ≡ n
  go k below (inl q) =
      let within : a < length links = omega (arith, below, l.count, q) in
      ap (λ j. length (slice_index_or (set_link links a b queue) j [])) q ∙ ap length (set_at links a row [] within) ∙ length_set (slice_index_or links a []) b queue
      ∙ l.rows a (subst (λ j. j < n) q below)
  go k below (inr q) = ap length (index_other links a k row [] q) ∙ l.rows k below
