-- Lists of which one place is set, and lists in two parts.
use Rattle.std.proofs.Common.{◌≡◌, ◌≢◌, ◌⊎◌, inl, inr, ℕ, zero, suc, ◌+◌, ◌<◌, ◌≤◌, List, [], ◌∷◌, ◌++◌, length, map, replicate, Some, arith, sym, ap, ap₂, refl}
use Rattle.std.specs.Prelude.{slice_get, slice_set, slice_index_or}
use Rattle.std.proofs.lemmas.List.{get_or-set_other}
use Rattle.raid_workload.specs.Parts.{count_from}

-- two numbers are the same or not
pub same_or_not : (a b : ℕ) → (a ≡ b) ⊎ (a ≢ b)
same_or_not zero zero = inl refl
same_or_not zero (suc b) = inr (λ q. omega (arith, q))
same_or_not (suc a) zero = inr (λ q. omega (arith, q))
same_or_not (suc a) (suc b) = elim (same_or_not a b) [
  | inl q ↦ inl (ap suc q)
  | inr q ↦ inr (λ r. q (omega (arith, r)))
]

pub below_or_not : (a b : ℕ) → (a < b) ⊎ (b ≤ a)
below_or_not a zero = inr (omega arith)
below_or_not zero (suc b) = inl (omega arith)
below_or_not (suc a) (suc b) = elim (below_or_not a b) [
  | inl q ↦ inl (omega (arith, q))
  | inr q ↦ inr (omega (arith, q))
]

-- an element elsewhere stays
pub index_other : {X : Type 0} (xs : List X) (i j : ℕ) (y d : X) → j ≢ i → slice_index_or (slice_set xs i y) j d ≡ slice_index_or xs j d
index_other xs i j y d differ = get_or-set_other xs i j y d differ

pub length_set : {X : Type 0} (xs : List X) (i : ℕ) (y : X) → length (slice_set xs i y) ≡ length xs
length_set [] i y = refl
length_set (x ∷ xs) zero y = refl
length_set (x ∷ xs) (suc i) y = ap suc (length_set xs i y)

-- what is set is there
pub set_at : {X : Type 0} (xs : List X) (i : ℕ) (y d : X) → i < length xs → slice_index_or (slice_set xs i y) i d ≡ y
set_at [] i y d below = absurd (omega (arith, below))
set_at (x ∷ xs) zero y d below = refl
set_at (x ∷ xs) (suc i) y d below = set_at xs i y d (omega (arith, below))

pub get_set : {X : Type 0} (xs : List X) (k : ℕ) (x y : X) → slice_get xs k ≡ Some x → slice_get (slice_set xs k y) k ≡ Some y
get_set [] k x y q = absurd (cc q)
get_set (x ∷ xs) zero z y q = refl
get_set (x ∷ xs) (suc k) z y q = get_set xs k z y q

pub past : {X : Type 0} (xs : List X) (k : ℕ) (d : X) → length xs ≤ k → slice_index_or xs k d ≡ d
past [] k d le = refl
past (x ∷ xs) zero d le = absurd (omega (arith, le))
past (x ∷ xs) (suc k) d le = past xs k d (omega (arith, le))

-- lists with the same elements are one
pub same_lists : {X : Type 0} (xs ys : List X) (d : X) → length xs ≡ length ys → ((k : ℕ) → k < length xs → slice_index_or xs k d ≡ slice_index_or ys k d) → xs ≡ ys
same_lists [] [] d l e = refl
same_lists [] (y ∷ ys) d l e = absurd (omega (arith, l))
same_lists (x ∷ xs) [] d l e = absurd (omega (arith, l))
same_lists (x ∷ xs) (y ∷ ys) d l e = ap₂ ◌∷◌ (e 0 (omega arith)) (same_lists xs ys d (omega (arith, l)) (λ k below. e (suc k) (omega (arith, below))))

some_same : {X : Type 0} (x y : X) → Some x ≡ Some y → x ≡ y
some_same x y q = cc q

pub same_gets : {X : Type 0} (xs ys : List X) → length xs ≡ length ys → ((k : ℕ) → k < length xs → slice_get xs k ≡ slice_get ys k) → xs ≡ ys
same_gets [] [] l e = refl
same_gets [] (y ∷ ys) l e = absurd (omega (arith, l))
same_gets (x ∷ xs) [] l e = absurd (omega (arith, l))
same_gets (x ∷ xs) (y ∷ ys) l e = ap₂ ◌∷◌ (some_same x y (e 0 (omega arith))) (same_gets xs ys (omega (arith, l)) (λ k below. e (suc k) (omega (arith, below))))

-- so many elements
pub count_long : (a n : ℕ) → length (count_from a n) ≡ n
count_long a zero = refl
count_long a (suc n) = ap suc (count_long (a + 1) n)

pub map_long : {X Y : Type 0} (f : X → Y) (xs : List X) → length (map f xs) ≡ length xs
map_long f [] = refl
map_long f (x ∷ xs) = ap suc (map_long f xs)

pub alike_long : {X : Type 0} (n : ℕ) (x : X) → length (replicate n x) ≡ n
alike_long zero x = refl
alike_long (suc n) x = ap suc (alike_long n x)

pub alike_at : {X : Type 0} (n k : ℕ) (x : X) → slice_index_or (replicate n x) k x ≡ x
alike_at zero k x = refl
alike_at (suc n) zero x = refl
alike_at (suc n) (suc k) x = alike_at n k x

-- a list with an element isn't the empty one
pub not_empty : {X : Type 0} (x : X) (xs : List X) → [] ≡ x ∷ xs → ⊥
not_empty x xs e = cc e

-- the front of a list in two parts
pub front : {X : Type 0} (q t : List X) (x : X) (xs : List X) → x ∷ xs ≡ q ++ t → ((rest : List X) × (q ≡ x ∷ rest)) ⊎ (t ≡ x ∷ xs)
front [] t x xs e = inr (sym e)
front (y ∷ ys) t x xs e = let same : y ≡ x = cc in inl (ys, ap (λ z. z ∷ ys) same)
