-- Sets of sites by their bits: what the arithmetic on bits says of their lists.
use Rattle.std.proofs.Common.{◌≡◌, ℕ, zero, suc, ◌-◌, ◌*◌, ◌/◌, ◌%◌, ◌^◌, ◌<◌, ◌≤◌, ◌==◌, Bool, true, false, not, ◌&&◌, ◌||◌, cond, min, max, List, [], ◌∷◌, filter, bit_and, bit_or, w8, arith, true≢false, refl, sym, ap, ◌∙◌}
use Rattle.std.specs.Int.{bit_at}
use Rattle.std.proofs.lemmas.Bool.{eqb-true, eq-eqb}
use Rattle.std.proofs.lemmas.Nat.Bits.{bit_at_or, bit_at_and, bit_at_not, bit_at-lt, bit_at_clear_same, bit_at_clear_other}
use Rattle.raid_base.specs.declared.names.Site.{Site}
use Rattle.raid_base.specs.Names.{is_site, has_site}
use Rattle.raid_base.specs.Sites.{site, all_sites, sites_of}
use Rattle.raid_rules.proofs.Sources.{has_passed}

-- two tests that agree on the sites that there can be keep the same ones
pub same_kept : (f g : Site → Bool) → ((r : ℕ) → 1 ≤ r → r ≤ 8 → f (site r) ≡ g (site r)) → filter f all_sites ≡ filter g all_sites
same_kept f g h =
    rw (
      h 1 (omega arith) (omega arith),
      h 2 (omega arith) (omega arith),
      h 3 (omega arith) (omega arith),
      h 4 (omega arith) (omega arith),
      h 5 (omega arith) (omega arith),
      h 6 (omega arith) (omega arith),
      h 7 (omega arith) (omega arith),
      h 8 (omega arith) (omega arith),
    ) refl

-- what is kept of what is kept
pub kept_twice : (f g : Site → Bool) (ss : List Site) → filter g (filter f ss) ≡ filter (λ s. f s && g s) ss
kept_twice f g [] = refl
kept_twice f g (s ∷ ss) = go (f s) (kept_twice f g ss)
  where
    go : (b : Bool) → filter g (filter f ss) ≡ filter (λ s. f s && g s) ss →
        filter g (cond b (s ∷ filter f ss) (filter f ss)) ≡ cond (b && g s) (s ∷ filter (λ s. f s && g s) ss) (filter (λ s. f s && g s) ss)
    go true h = ap (λ z. cond (g s) (s ∷ z) z) h
    go false h = h

-- a set is the list of those that it has
pub set_again : (n : ℕ) → filter (has_site (sites_of n)) all_sites ≡ sites_of n
set_again n =
    let test : Site → Bool = λ s. n / 2 ^ (s.0 - 1) % 2 == 1 in
    same_kept (has_site (sites_of n)) test (λ r least most. has_passed test (site r) least most)

-- a site is in a set where its bit is set
has_bit : (n r : ℕ) → 1 ≤ r → r ≤ 8 → has_site (sites_of n) (site r) ≡ (bit_at n (r - 1) == 1)
has_bit n r least most = has_passed (λ s. n / 2 ^ (s.0 - 1) % 2 == 1) (site r) least most

and_true : (b : Bool) → (b && true) ≡ b
and_true true = refl
and_true false = refl

and_false : (b : Bool) → (b && false) ≡ false
and_false true = refl
and_false false = refl

either : (a b : ℕ) → a < 2 → b < 2 → (max a b == 1) ≡ ((a == 1) || (b == 1))
either zero zero f g = refl
either zero (suc zero) f g = refl
either zero (suc (suc b)) f g = absurd (omega (arith, g))
either (suc zero) zero f g = refl
either (suc zero) (suc zero) f g = refl
either (suc zero) (suc (suc b)) f g = absurd (omega (arith, g))
either (suc (suc a)) b f g = absurd (omega (arith, f))

first_alone : (a b : ℕ) → a < 2 → b < 2 → (min a (1 - b) == 1) ≡ ((a == 1) && not (b == 1))
first_alone zero zero f g = refl
first_alone zero (suc zero) f g = refl
first_alone zero (suc (suc b)) f g = absurd (omega (arith, g))
first_alone (suc zero) zero f g = refl
first_alone (suc zero) (suc zero) f g = refl
first_alone (suc zero) (suc (suc b)) f g = absurd (omega (arith, g))
first_alone (suc (suc a)) b f g = absurd (omega (arith, f))

-- the sites of both
pub union_bits : (a b : ℕ) → sites_of (bit_or a b) ≡ filter (λ s. has_site (sites_of a) s || has_site (sites_of b) s) all_sites
union_bits a b =
    same_kept (λ s. bit_at (bit_or a b) (s.0 - 1) == 1) (λ s. has_site (sites_of a) s || has_site (sites_of b) s)
    (λ r least most. ap (λ k. k == 1) (bit_at_or a b (r - 1)) ∙ either _ _ (bit_at-lt a (r - 1)) (bit_at-lt b (r - 1)) ∙ sym (rw (has_bit a r least most, has_bit b r least most) refl))

-- the bit of a number without those of another
bit_without : (a b i : ℕ) → b < 256 → i < 8 → (bit_at (bit_and a (255 - b)) i == 1) ≡ ((bit_at a i == 1) && not (bit_at b i == 1))
bit_without a b i below less =
    ap (λ k. k == 1) (bit_at_and a (255 - b) i) ∙ ap (λ k. min (bit_at a i) k == 1) (bit_at_not w8 b i below less) ∙ first_alone _ _ (bit_at-lt a i) (bit_at-lt b i)

-- the sites of the one without those of the other
pub difference_bits : (a b : ℕ) → b < 256 → sites_of (bit_and a (255 - b)) ≡ filter (λ s. has_site (sites_of a) s && not (has_site (sites_of b) s)) all_sites
difference_bits a b below =
    same_kept (λ s. bit_at (bit_and a (255 - b)) (s.0 - 1) == 1) (λ s. has_site (sites_of a) s && not (has_site (sites_of b) s))
    (λ r least most. bit_without a b (r - 1) below (omega (arith, least, most)) ∙ sym (rw (has_bit a r least most, has_bit b r least most) refl))

-- the site's own bit is taken, and no other
bit_taken : (n s r : ℕ) → 1 ≤ s → s ≤ 8 → 1 ≤ r → r ≤ 8 → (bit_at (bit_and n (255 - 1 * 2 ^ (s - 1) % 256)) (r - 1) == 1) ≡ ((bit_at n (r - 1) == 1) && not (r == s))
bit_taken n s r least most from to = go (r == s) refl
  where
    go : (b : Bool) → (r == s) ≡ b → (bit_at (bit_and n (255 - 1 * 2 ^ (s - 1) % 256)) (r - 1) == 1) ≡ ((bit_at n (r - 1) == 1) && not (r == s))
    go true e =
        let same : r ≡ s = eqb-true r s e in
        rw e (ap (λ i. bit_at (bit_and n (255 - 1 * 2 ^ (s - 1) % 256)) (i - 1) == 1) same ∙ ap (λ k. k == 1) (bit_at_clear_same w8 n (s - 1) (omega (arith, least, most))) ∙ sym (and_false (bit_at n (r - 1) == 1)))
    go false e =
        rw e (ap (λ k. k == 1) (bit_at_clear_other w8 n (s - 1) (omega (arith, least, most)) (r - 1) (omega (arith, from, to)) (λ h. other (omega (arith, h, least, from)) e)) ∙ sym (and_true (bit_at n (r - 1) == 1)))
      where
        other : r ≡ s → (r == s) ≡ false → ⊥
        other same e = true≢false (sym (rw same (eq-eqb s s refl)) ∙ e)

-- the set without the site
pub without_bit : (n : ℕ) (s : Site) → 1 ≤ s.0 → s.0 ≤ 8 → sites_of (bit_and n (255 - 1 * 2 ^ (s.0 - 1) % 256)) ≡ filter (λ r. not (is_site s r)) (sites_of n)
without_bit n s least most =
    same_kept (λ r. bit_at (bit_and n (255 - 1 * 2 ^ (s.0 - 1) % 256)) (r.0 - 1) == 1) (λ r. (bit_at n (r.0 - 1) == 1) && not (is_site s r))
    (λ r from to. bit_taken n s.0 r least most from to)
    ∙ sym (kept_twice (λ r. bit_at n (r.0 - 1) == 1) (λ r. not (is_site s r)) all_sites)
