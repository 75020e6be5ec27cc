-- Sets of sites: what the arithmetic on bits says of their lists.
use Rattle.std.proofs.Common.{◌≡◌, ℕ, zero, suc, ◌-◌, ◌*◌, ◌/◌, ◌%◌, ◌^◌, ◌<◌, ◌≤◌, ◌==◌, Bool, true, false, ◌&&◌, ◌||◌, nat_eq, filter, bit_or, arith, refl, sym}
use Rattle.raid_base.specs.declared.names.Site.{Site}
use Rattle.raid_base.specs.Names.{is_site, has_site}
use Rattle.raid_base.specs.Sites.{site, all_sites, sites_of}

-- two answers are the same
abbrev agree : Bool → Bool → Bool
agree true b = b
agree false true = false
agree false false = true

agree_same : (a b : Bool) → agree a b ≡ true → a ≡ b
agree_same true true h = refl
agree_same true false h = sym h
agree_same false true h = h
agree_same false false h = refl

-- all numbers below a bound pass the test, so each of them does
abbrev all_below : (ℕ → Bool) → ℕ → Bool
all_below test zero = true
all_below test (suc n) = test n && all_below test n

one_below : (test : ℕ → Bool) (b k : ℕ) → k < b → all_below test b ≡ true → test k ≡ true
one_below test zero k below all = grind arith
one_below test (suc n) k below all = grind (arith, one_below test n k)

-- what is tested of every number but 0
abbrev is_zero : ℕ → Bool
is_zero zero = true
is_zero (suc n) = false

past_zero : (n : ℕ) (b : Bool) → 1 ≤ n → (is_zero n || b) ≡ true → b ≡ true
past_zero zero b least h = grind arith
past_zero (suc n) b least h = h

-- a site is in a set just where its bit is set
abbrev is_contained : ℕ → ℕ → Bool
is_contained bits s = is_zero s || agree (nat_eq (bits / (1 * 2 ^ (s - 1) % 256) % 2) 1) (has_site (sites_of bits) (site s))

pub contains_site : (bits s : ℕ) → bits < 256 → 1 ≤ s → s ≤ 8 → nat_eq (bits / (1 * 2 ^ (s - 1) % 256) % 2) 1 ≡ has_site (sites_of bits) (site s)
contains_site bits s below least most =
    agree_same _ _ (past_zero s _ least (one_below (is_contained bits) 9 s (omega (arith, most))
    (one_below (λ b. all_below (is_contained b) 9) 256 bits below refl)))

-- a site is in a set with one more where it is in the set or is that one
abbrev is_added : ℕ → ℕ → ℕ → Bool
is_added bits s r = is_zero r || agree (bit_or bits (1 * 2 ^ (s - 1) % 256) / 2 ^ (r - 1) % 2 == 1) (has_site (sites_of bits) (site r) || is_site (site s) (site r))

abbrev are_added : ℕ → ℕ → Bool
are_added bits s = is_zero s || all_below (is_added bits s) 9

with_one : (bits s r : ℕ) → bits < 256 → 1 ≤ s → s ≤ 8 → 1 ≤ r → r < 9 →
    (bit_or bits (1 * 2 ^ (s - 1) % 256) / 2 ^ (r - 1) % 2 == 1) ≡ (has_site (sites_of bits) (site r) || is_site (site s) (site r))
with_one bits s r below least most from less =
    agree_same _ _ (past_zero r _ from (one_below (is_added bits s) 9 r less (past_zero s _ least
    (one_below (are_added bits) 9 s (omega (arith, most)) (one_below (λ b. all_below (are_added b) 9) 256 bits below refl)))))

-- two tests that agree on the sites that there can be keep the same ones
same_kept : (f g : Site → Bool) → ((r : ℕ) → 1 ≤ r → r < 9 → f (site r) ≡ g (site r)) → filter f all_sites ≡ filter g all_sites
same_kept f g h =
    rw (
      h 1 (omega arith) (omega arith),
      h 2 (omega arith) (omega arith),
      h 3 (omega arith) (omega arith),
      h 4 (omega arith) (omega arith),
      h 5 (omega arith) (omega arith),
      h 6 (omega arith) (omega arith),
      h 7 (omega arith) (omega arith),
      h 8 (omega arith) (omega arith),
    ) refl

-- the set with one more has the sites of the set and that one
pub with_site : (bits s : ℕ) → bits < 256 → 1 ≤ s → s ≤ 8 →
    sites_of (bit_or bits (1 * 2 ^ (s - 1) % 256)) ≡ filter (λ r. has_site (sites_of bits) r || is_site (site s) r) all_sites
with_site bits s below least most =
    same_kept (λ r. bit_or bits (1 * 2 ^ (s - 1) % 256) / 2 ^ (r.0 - 1) % 2 == 1) (λ r. has_site (sites_of bits) r || is_site (site s) r)
    (λ r from less. with_one bits s r below least most from less)
