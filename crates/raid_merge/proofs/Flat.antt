-- The journals one after another.
use Rattle.std.proofs.Common.{◌≡◌, ℕ, zero, suc, ◌+◌, ◌<◌, ◌≤◌, ◌==◌, cond, Bool, true, false, List, [], ◌∷◌, ◌++◌, length, map, get_or, drop, refl, ap, arith, append_assoc, drop-cons, add-one, All}
use Rattle.std.proofs.lemmas.Bool.{eq-eqb, ne_eqb}
use Rattle.std.proofs.lemmas.List.{append-nil}
use Rattle.std.proofs.lemmas.List.Elements.{All-nil, All-cons, All-append}
use Rattle.raid_message.specs.declared.letter.Step.{Step}
use Rattle.raid_merge.specs.Merged.{of}
use Rattle.raid_merge.specs.Gathered.{tag, flat}

pub flat_step : (js : List (List Step)) (k : ℕ) (all new : List (ℕ × Step)) (j : List Step) → k < length js → j ≡ get_or js k [] → all ++ flat k (drop k js) ≡ flat 0 js → new ≡ all ++ map (tag k) j →
    new ++ flat (k + 1) (drop (k + 1) js) ≡ flat 0 js
flat_step js k all new j h q e n =
    let cut : drop k js ≡ get_or js k [] ∷ drop (suc k) js = drop-cons js k [] h in
    let one : flat k (drop k js) ≡ map (tag k) (get_or js k []) ++ flat (suc k) (drop (suc k) js) = ap (λ xs. flat k xs) cut in
    rw (add-one, n, q, append_assoc all (map (tag k) (get_or js k [])) (flat (suc k) (drop (suc k) js)), ← one) e

-- a choice by the server's number
pub choose_same : {A : Type 0} (k : ℕ) (x y : A) → cond (k == k) x y ≡ x
choose_same k x y = rw (eq-eqb k k refl)

pub choose_other : {A : Type 0} (k j : ℕ) (x y : A) → (k ≡ j → ⊥) → cond (k == j) x y ≡ y
choose_other k j x y h = rw (ne_eqb k j h)

pub of-append : {X : Type 0} (k : ℕ) (xs ys : List (ℕ × X)) → of k (xs ++ ys) ≡ of k xs ++ of k ys
of-append k [] ys = refl
of-append k (x ∷ xs) ys = rw (of-append k xs ys) (go (x.0 == k)) where
  go : (b : Bool) → cond b (x.1 ∷ (of k xs ++ of k ys)) (of k xs ++ of k ys) ≡ cond b (x.1 ∷ of k xs) (of k xs) ++ of k ys
  go true = refl
  go false = refl

of-same : (k : ℕ) (j : List Step) → of k (map (tag k) j) ≡ j
of-same k [] = refl
of-same k (s ∷ j) = rw (eq-eqb k k refl) (ap (λ xs. s ∷ xs) (of-same k j))

of-other : (k m : ℕ) (j : List Step) → (k ≡ m → ⊥) → of m (map (tag k) j) ≡ []
of-other k m [] h = refl
of-other k m (s ∷ j) h = rw (ne_eqb k m h) (of-other k m j h)

of-below : (js : List (List Step)) (i m : ℕ) → m < i → of m (flat i js) ≡ []
of-below [] i m h = refl
of-below (j ∷ js) i m h =
    let other : i ≡ m → ⊥ = omega arith in
    rw (of-append m (map (tag i) j) (flat (suc i) js), of-other i m j other) (of-below js (suc i) m (omega arith))

pub of-flat : (js : List (List Step)) (i k m : ℕ) → m ≡ i + k → of m (flat i js) ≡ get_or js k []
of-flat [] i k m e = refl
of-flat (j ∷ js) i zero m e =
    let same : m ≡ i = omega arith in
    rw (same, of-append i (map (tag i) j) (flat (suc i) js), of-same i j, of-below js (suc i) i (omega arith)) (append-nil j)
of-flat (j ∷ js) i (suc k) m e =
    let other : i ≡ m → ⊥ = omega arith in
    rw (of-append m (map (tag i) j) (flat (suc i) js), of-other i m j other) (of-flat js (suc i) k m (omega arith))

-- the servers of the steps
servers-tag : (n k : ℕ) (j : List Step) → k < n → All (λ t. t.0 < n) (map (tag k) j)
servers-tag n k [] h = All-nil (λ (t : ℕ × Step). t.0 < n)
servers-tag n k (s ∷ j) h = All-cons (λ (t : ℕ × Step). t.0 < n) (tag k s) (map (tag k) j) h (servers-tag n k j h)

pub servers-flat : (js : List (List Step)) (i n : ℕ) → i + length js ≤ n → All (λ t. t.0 < n) (flat i js)
servers-flat [] i n h = All-nil (λ (t : ℕ × Step). t.0 < n)
servers-flat (j ∷ js) i n h = All-append (λ (t : ℕ × Step). t.0 < n) (map (tag i) j) (flat (suc i) js) (servers-tag n i j (omega arith)) (servers-flat js (suc i) n (omega arith))
