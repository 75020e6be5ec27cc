-- The sites that there can be, one by one.
use Rattle.std.proofs.Common.{◌≡◌, ℕ, zero, suc, ◌-◌, ◌≤◌, ◌<◌, ◌==◌, Bool, true, false, ◌&&◌, ◌||◌, cond, List, [], ◌∷◌, drop, slice_get, if◌then◌else◌, Some, None, ◌+◌, arith, ap, sym, ◌∙◌, refl}
use Rattle.std.specs.Prelude.{find}
use Rattle.std.specs.List.{filter, list_any}
use Rattle.std.proofs.lemmas.Bool.{eqb-true}
use Rattle.std.proofs.lemmas.Grind.{common_steps}
use Rattle.raid_base.specs.declared.names.Site.{Site}
use Rattle.raid_base.specs.Names.{is_site, has_site}
use Rattle.raid_base.specs.Sites.{site, all_sites}
use Rattle.raid_rules.specs.Sessions.{source_for}

-- the sites from the next one on
pub drop_site : (n : ℕ) → 1 ≤ n → n < 9 → drop (n - 1) all_sites ≡ site n ∷ drop n all_sites
drop_site zero least most = absurd (omega (arith, least))
drop_site (suc zero) least most = refl
drop_site (suc (suc zero)) least most = refl
drop_site (suc (suc (suc zero))) least most = refl
drop_site (suc (suc (suc (suc zero)))) least most = refl
drop_site (suc (suc (suc (suc (suc zero))))) least most = refl
drop_site (suc (suc (suc (suc (suc (suc zero)))))) least most = refl
drop_site (suc (suc (suc (suc (suc (suc (suc zero))))))) least most = refl
drop_site (suc (suc (suc (suc (suc (suc (suc (suc zero)))))))) least most = refl
drop_site (suc (suc (suc (suc (suc (suc (suc (suc (suc n))))))))) least most = absurd (omega (arith, most))

-- each site from 1 to 8 is one
pub is_known : (n : ℕ) → 1 ≤ n → n ≤ 8 → has_site all_sites (site n) ≡ true
is_known zero least most = absurd (omega (arith, least))
is_known (suc zero) least most = refl
is_known (suc (suc zero)) least most = refl
is_known (suc (suc (suc zero))) least most = refl
is_known (suc (suc (suc (suc zero)))) least most = refl
is_known (suc (suc (suc (suc (suc zero))))) least most = refl
is_known (suc (suc (suc (suc (suc (suc zero)))))) least most = refl
is_known (suc (suc (suc (suc (suc (suc (suc zero))))))) least most = refl
is_known (suc (suc (suc (suc (suc (suc (suc (suc zero)))))))) least most = refl
is_known (suc (suc (suc (suc (suc (suc (suc (suc (suc n))))))))) least most = absurd (omega (arith, most))

same_site : (s r : Site) → (r.0 == s.0) ≡ true → r ≡ s
same_site s r e = ap (λ k. let z : Site = record { 0 = k } in z) (eqb-true r.0 s.0 e)

kept_site : (test : Site → Bool) (s r : Site) (rest : List Site) (b : Bool) → test r ≡ b → has_site (filter test rest) s ≡ (test s && has_site rest s) → has_site (cond b (r ∷ filter test rest) (filter test rest)) s ≡ (test s && (is_site s r || has_site rest s))
kept_site test s r rest true e h = go (is_site s r) refl
  where
    go : (d : Bool) → is_site s r ≡ d → (is_site s r || has_site (filter test rest) s) ≡ (test s && (is_site s r || has_site rest s))
    go true q = rw q (sym (ap (λ b. b && true) (ap test (sym (same_site s r q)) ∙ e)))
    go false q = rw q h
kept_site test s r rest false e h = go (is_site s r) refl
  where
    go : (d : Bool) → is_site s r ≡ d → has_site (filter test rest) s ≡ (test s && (is_site s r || has_site rest s))
    go true q = h ∙ ap (λ b. b && has_site rest s) (ap test (sym (same_site s r q)) ∙ e) ∙ sym (ap (λ b. b && (is_site s r || has_site rest s)) (ap test (sym (same_site s r q)) ∙ e))
    go false q = rw q h

-- a site is kept where it is there and passes
pub has_kept : (test : Site → Bool) (s : Site) (rs : List Site) → has_site (filter test rs) s ≡ (test s && has_site rs s)
has_kept test s [] = none (test s)
  where
    none : (b : Bool) → false ≡ (b && false)
    none true = refl
    none false = refl
has_kept test s (r ∷ rs) = kept_site test s r rs (test r) refl (has_kept test s rs)

-- the first that is kept is the first that passes
pub first_kept : (test : Site → Bool) (rs : List Site) → slice_get (filter test rs) 0 ≡ find test rs
first_kept test [] = refl
first_kept test (r ∷ rs) = go (test r) (first_kept test rs)
  where
    go : (b : Bool) → slice_get (filter test rs) 0 ≡ find test rs → slice_get (cond b (r ∷ filter test rs) (filter test rs)) 0 ≡ cond b (Some r) (find test rs)
    go true h = refl
    go false h = h

-- a site from 1 to 8 that passes is among the kept ones
pub has_passed : (test : Site → Bool) (s : Site) → 1 ≤ s.0 → s.0 ≤ 8 → has_site (filter test all_sites) s ≡ test s
has_passed test s least most = has_kept test s all_sites ∙ ap (λ b. test s && b) (is_known s.0 least most) ∙ whole (test s)
  where
    whole : (b : Bool) → (b && true) ≡ b
    whole true = refl
    whole false = refl

-- a search from one site on
pub found_here : (test : Site → Bool) (n : ℕ) → 1 ≤ n → n < 9 → test (site n) ≡ true → find test (drop (n - 1) all_sites) ≡ Some (site n)
found_here test n least most e = ap (find test) (drop_site n least most) ∙ ap (λ b. cond b (Some (site n)) (find test (drop n all_sites))) e

pub passed_here : (test : Site → Bool) (n : ℕ) → 1 ≤ n → n < 9 → test (site n) ≡ false → find test (drop (n - 1) all_sites) ≡ find test (drop (n + 1 - 1) all_sites)
passed_here test n least most e =
    let same : n ≡ n + 1 - 1 = omega arith in
    ap (find test) (drop_site n least most) ∙ ap (λ b. cond b (Some (site n)) (find test (drop n all_sites))) e ∙ ap (λ k. find test (drop k all_sites)) same

-- the home is read at where it passes, else the first that passes
pub home_passed : (test : Site → Bool) (home : Site) → 1 ≤ home.0 → home.0 ≤ 8 → test home ≡ true → source_for (filter test all_sites) home ≡ Some home
home_passed test home least most e = ap (λ b. if b then Some home else slice_get (filter test all_sites) 0) (has_passed test home least most ∙ e)

pub home_failed : (test : Site → Bool) (home : Site) → 1 ≤ home.0 → home.0 ≤ 8 → test home ≡ false → source_for (filter test all_sites) home ≡ find test all_sites
home_failed test home least most e = ap (λ b. if b then Some home else slice_get (filter test all_sites) 0) (has_passed test home least most ∙ e) ∙ first_kept test all_sites
