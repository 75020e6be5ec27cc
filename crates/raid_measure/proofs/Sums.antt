-- Sums over lists, and over the sites of a workload.
use Rattle.std.proofs.Common.{◌≡◌, ℕ, zero, suc, ◌+◌, ◌*◌, ◌<◌, ◌≤◌, ◌==◌, Bool, true, false, cond, ◌&&◌, List, [], ◌∷◌, length, map, arith, ap, refl}
use Rattle.std.specs.Prelude.{count_by}
use Rattle.std.specs.List.{sum_by}
use Rattle.std.proofs.lemmas.Grind.{common_steps}
use Rattle.std.proofs.lemmas.List.Sums.{sum_by-cons}
use Rattle.raid_base.specs.declared.names.Site.{Site}
use Rattle.raid_base.specs.Names.{is_site}
use Rattle.raid_base.specs.Sites.{site}
use Rattle.raid_workload.specs.Parts.{count_from}

-- a sum is at most as many times the largest term as it has terms
pub sum_at_most : {X : Type 0} (f : X → ℕ) (m : ℕ) → ((x : X) → f x ≤ m) → (xs : List X) → sum_by f xs ≤ length xs * m
sum_at_most f m each [] = omega arith
sum_at_most f m each (x ∷ xs) =
    let rest = sum_at_most f m each xs in
    let first = each x in
    omega (arith, rest, first, sum_by-cons f x xs)

-- a sum of larger terms is larger
pub sum_grows : {X : Type 0} (f g : X → ℕ) → ((x : X) → f x ≤ g x) → (xs : List X) → sum_by f xs ≤ sum_by g xs
sum_grows f g each [] = omega arith
sum_grows f g each (x ∷ xs) = let rest = sum_grows f g each xs in let first = each x in omega (arith, rest, first, sum_by-cons f x xs, sum_by-cons g x xs)

-- a sum of sums, and a sum of multiples
pub sum_of_sums : {X : Type 0} (f g : X → ℕ) (xs : List X) → sum_by (λ x. f x + g x) xs ≡ sum_by f xs + sum_by g xs
sum_of_sums f g [] = refl
sum_of_sums f g (x ∷ xs) =
    let rest = sum_of_sums f g xs in
    omega (arith, rest, sum_by-cons (λ x. f x + g x) x xs, sum_by-cons f x xs, sum_by-cons g x xs)

pub sum_of_times : {X : Type 0} (k : ℕ) (f : X → ℕ) (xs : List X) → sum_by (λ x. k * f x) xs ≡ k * sum_by f xs
sum_of_times k f [] = omega arith
sum_of_times k f (x ∷ xs) = let rest = sum_of_times k f xs in let whole = ap (λ n. k * n) (sum_by-cons f x xs) in omega (arith, rest, whole, sum_by-cons (λ x. k * f x) x xs)

-- a mapped list has the sum of the terms there
pub sum_mapped : {X Y : Type 0} (f : Y → ℕ) (g : X → Y) (xs : List X) → sum_by f (map g xs) ≡ sum_by (λ x. f (g x)) xs
sum_mapped f g [] = refl
sum_mapped f g (x ∷ xs) = let rest = sum_mapped f g xs in omega (arith, rest, sum_by-cons f (g x) (map g xs), sum_by-cons (λ x. f (g x)) x xs)

-- 1 where the test is passed
abbrev pub one_if : Bool → ℕ
one_if b = cond b 1 0

-- among the sites each is once
past_sites : (r : Site) (b : Bool) (k n : ℕ) → r.0 < k → sum_by (λ s. one_if (is_site s r && b)) (map site (count_from k n)) ≡ 0
past_sites r b k zero l = refl
past_sites r b k (suc n) l =
    let rest = past_sites r b (k + 1) n (omega arith) in
    let first : one_if (r.0 == k && b) ≡ 0 = grind (arith, common_steps, l) in
    omega (arith, rest, first, sum_by-cons (λ s. one_if (is_site s r && b)) (site k) (map site (count_from (k + 1) n)))

pub one_site : (r : Site) (b : Bool) (k n : ℕ) → sum_by (λ s. one_if (is_site s r && b)) (map site (count_from k n)) ≤ one_if b
one_site r b k zero = omega arith
one_site r b k (suc n) = go (r.0 == k) refl (one_site r b (k + 1) n)
  where
    rest : ℕ
    rest = sum_by (λ s. one_if (is_site s r && b)) (map site (count_from (k + 1) n))

    all : sum_by (λ s. one_if (is_site s r && b)) (map site (count_from k (suc n))) ≡ one_if (r.0 == k && b) + rest
    all = sum_by-cons (λ s. one_if (is_site s r && b)) (site k) (map site (count_from (k + 1) n))

    below : (m : ℕ) → (m == k) ≡ true → m < k + 1
    below m q = grind (arith, common_steps, q)

    go : (here : Bool) → (r.0 == k) ≡ here → rest ≤ one_if b → sum_by (λ s. one_if (is_site s r && b)) (map site (count_from k (suc n))) ≤ one_if b
    go true here more =
        let none : rest ≡ 0 = past_sites r b (k + 1) n (below r.0 here) in
        let first : one_if (r.0 == k && b) ≡ one_if b = ap (λ h. one_if (h && b)) here in
        omega (arith, all, none, first)
    go false here more = let first : one_if (r.0 == k && b) ≡ 0 = ap (λ h. one_if (h && b)) here in omega (arith, all, more, first)

-- what is counted site by site is counted once
pub counted_by_site : {X : Type 0} (at : X → Site) (q : X → Bool) (k n : ℕ) (xs : List X) → sum_by (λ s. count_by (λ x. is_site s (at x) && q x) xs) (map site (count_from k n)) ≤ count_by q xs
counted_by_site at q k n [] = nothing k n
  where
    nothing : (k n : ℕ) → sum_by (λ s. 0) (map site (count_from k n)) ≤ 0
    nothing k zero = omega arith
    nothing k (suc n) = let rest = nothing (k + 1) n in omega (arith, rest, sum_by-cons (λ (s : Site). 0) (site k) (map site (count_from (k + 1) n)))
counted_by_site at q k n (x ∷ xs) =
    let rest = counted_by_site at q k n xs in
    let first = one_site (at x) (q x) k n in
    let each = sum_grows (λ s. count_by (λ x. is_site s (at x) && q x) (x ∷ xs)) (λ s. one_if (is_site s (at x) && q x) + count_by (λ x. is_site s (at x) && q x) xs)
    (λ s. omega (arith, sum_by-cons (λ x. one_if (is_site s (at x) && q x)) x xs)) (map site (count_from k n)) in
    let both = sum_of_sums (λ s. one_if (is_site s (at x) && q x)) (λ s. count_by (λ x. is_site s (at x) && q x) xs) (map site (count_from k n)) in
    omega (arith, rest, first, each, both, sum_by-cons (λ x. one_if (q x)) x xs)
