-- Sets of sites as ascending lists, and the sessions of a vector.
use Rattle.std.specs.Prelude.{◌≡◌, ℕ, zero, suc, ◌+◌, ◌-◌, ◌/◌, ◌%◌, ◌^◌, ◌<◌, ◌==◌, Bool, true, ◌&&◌, List, [], ◌∷◌, filter, fold, slice_index, refl}
use Rattle.std.proofs.Common.{arith}
use Rattle.std.proofs.lemmas.Bool.{eqb-true}
use Rattle.raid_base.specs.declared.names.Site.{Site}

abbrev pub site : ℕ → Site
site n = record { 0 = n }

-- the sites that there can be
abbrev pub all_sites : List Site
all_sites = site 1 ∷ site 2 ∷ site 3 ∷ site 4 ∷ site 5 ∷ site 6 ∷ site 7 ∷ site 8 ∷ []

-- the sites whose bit is set, ascending
abbrev pub sites_of : ℕ → List Site
sites_of bits = filter (λ s. bits / 2 ^ (s.0 - 1) % 2 == 1) all_sites

-- the number with the bits of these sites
abbrev pub bits_of : List Site → ℕ
bits_of sites = fold (λ bits s. bits + 2 ^ (s.0 - 1)) 0 sites

-- the session of a site in a vector, 0 where the vector has none for it
abbrev pub session : List ℕ → Site → ℕ
session v s = slice_index v (s.0 - 1)

-- all numbers below a bound pass the test
abbrev all_below : (ℕ → Bool) → ℕ → Bool
all_below test zero = true
all_below test (suc n) = test n && all_below test n

-- so each of them does
one_below : (test : ℕ → Bool) (b k : ℕ) → k < b → all_below test b ≡ true → test k ≡ true
one_below test zero k below all = grind arith
one_below test (suc n) k below all = grind (arith, one_below test n k)

-- a number of eight bits is that of the sites whose bits it has
pub bits_back : (n : ℕ) → n < 2 ^ 8 → bits_of (sites_of n) ≡ n
bits_back n below = eqb-true _ _ (one_below (λ k. bits_of (sites_of k) == k) 256 n below refl)
