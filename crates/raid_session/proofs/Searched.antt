-- The sites one by one.
use Rattle.std.proofs.Common.{◌≡◌, ℕ, ◌+◌, ◌-◌, ◌<◌, ◌≤◌, ◌==◌, nat_lt, Bool, true, false, not, ◌&&◌, ◌||◌, cond, List, ◌∷◌, filter, drop, refl, ap, arith, ◌∙◌}
use Rattle.std.specs.List.{list_all}
use Rattle.std.proofs.lemmas.Bool.{eqb-true}
use Rattle.raid_base.specs.declared.names.Site.{Site}
use Rattle.raid_base.specs.Names.{is_site, has_site}
use Rattle.raid_base.specs.Sites.{site, all_sites}
use Rattle.raid_rules.proofs.Sources.{drop_site, has_passed}
use Rattle.raid_session.proofs.Kept.{same_kept}

-- the site is below a number, and passes
abbrev pub below : ℕ → (Site → Bool) → Site → Bool
below n test s = nat_lt s.0 n && test s

at_most : (a b c t : Bool) (r n : ℕ) → (nat_lt r n) ≡ a → (r == n) ≡ b → nat_lt r (n + 1) ≡ c → (a || b) ≡ c
at_most a b c t r n f g h = grind (arith, f, g, h)

-- one more that passes
pub passed_more : (test : Site → Bool) (n : ℕ) → test (site n) ≡ true → filter (λ s. has_site (filter (below n test) all_sites) s || is_site (site n) s) all_sites ≡ filter (below (n + 1) test) all_sites
passed_more test n passes =
    same_kept (λ s. has_site (filter (below n test) all_sites) s || is_site (site n) s) (below (n + 1) test)
    (λ r least most. ap (λ b. b || (r == n)) (has_passed (below n test) (site r) least most) ∙ go r (r == n) refl)
  where
    go : (r : ℕ) (b : Bool) → (r == n) ≡ b → ((nat_lt r n && test (site r)) || (r == n)) ≡ (nat_lt r (n + 1) && test (site r))
    go r true e = let h : test (site r) ≡ true = ap (λ k. test (site k)) (eqb-true r n e) ∙ passes in grind (arith, h, e)
    go r false e = grind (arith, e)

-- one more that fails
pub failed_more : (test : Site → Bool) (n : ℕ) → test (site n) ≡ false → filter (below n test) all_sites ≡ filter (below (n + 1) test) all_sites
failed_more test n fails = same_kept (below n test) (below (n + 1) test) (λ r least most. go r (r == n) refl)
  where
    go : (r : ℕ) (b : Bool) → (r == n) ≡ b → (nat_lt r n && test (site r)) ≡ (nat_lt r (n + 1) && test (site r))
    go r true e = let h : test (site r) ≡ false = ap (λ k. test (site k)) (eqb-true r n e) ∙ fails in grind (arith, h, e)
    go r false e = grind (arith, e)

-- a site that isn't in the set, or passes, leaves what is to be shown of the others
pub all_from : (sites : List Site) (test : Site → Bool) (n : ℕ) → 1 ≤ n → n < 9 → (has_site sites (site n) ≡ true → test (site n) ≡ true) →
    list_all test (filter (has_site sites) (drop (n - 1) all_sites)) ≡ list_all test (filter (has_site sites) (drop (n + 1 - 1) all_sites))
all_from sites test n least most passes =
    let same : n ≡ n + 1 - 1 = omega arith in
    ap (λ ss. list_all test (filter (has_site sites) ss)) (drop_site n least most) ∙ go (has_site sites (site n)) refl passes ∙ ap (λ k. list_all test (filter (has_site sites) (drop k all_sites))) same
  where
    rest : List Site
    rest = filter (has_site sites) (drop n all_sites)

    go : (b : Bool) → has_site sites (site n) ≡ b → (has_site sites (site n) ≡ true → test (site n) ≡ true) → list_all test (cond (has_site sites (site n)) (site n ∷ rest) rest) ≡ list_all test rest
    go true e h = rw (e, h e) refl
    go false e h = rw e refl

-- a site of the set that fails is one that fails of those from it on
pub one_fails : (sites : List Site) (test : Site → Bool) (n : ℕ) → 1 ≤ n → n < 9 → has_site sites (site n) ≡ true → test (site n) ≡ false →
    list_all test (filter (has_site sites) (drop (n - 1) all_sites)) ≡ false
one_fails sites test n least most there fails = ap (λ ss. list_all test (filter (has_site sites) ss)) (drop_site n least most) ∙ rw (there, fails) refl

-- one and not the other
pub first_of_both : (a b : Bool) → (a && not b) ≡ true → a ≡ true
first_of_both true b h = refl
first_of_both false b h = h

pub fails_of_both : (a b : Bool) → (a && not b) ≡ true → b ≡ false
fails_of_both a true h = grind (arith, h)
fails_of_both a false h = refl

pub never_both : (a b : Bool) → (a && not b) ≡ false → a ≡ true → b ≡ true
never_both a true h e = refl
never_both a false h e = grind (arith, h, e)
