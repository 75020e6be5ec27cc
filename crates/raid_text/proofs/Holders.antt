-- The holders that are read are some sites, ascending.
use Rattle.std.proofs.Common.{◌≡◌, ℕ, ◌+◌, ◌<◌, ◌≤◌, Bool, true, false, ◌||◌, leb, eqb, List, [], ◌∷◌, length, Result, Ok, refl, arith, inl, inr, subst}
use Rattle.std.specs.List.{filter, list_any}
use Rattle.std.proofs.lemmas.Bool.{eqb-true, le-leb, leb-true, and_parts, cases_Bool, or_cases}
use Rattle.raid_base.specs.declared.names.Site.{Site}
use Rattle.raid_base.specs.Names.{is_site, has_site}
use Rattle.raid_base.specs.Sites.{site, all_sites}
use Rattle.raid_scan.specs.Words.{Word}
use Rattle.raid_tokens.specs.declared.fault.Fault.{Fault}
use Rattle.raid_tokens.specs.declared.fault.Fault.TheVariants as faults
use Rattle.raid_tokens.specs.Reading.{◌>>=◌}
use Rattle.raid_tokens.specs.Words.{number_of}
use Rattle.raid_tokens.proofs.Takes.{bind_ok, ok_is, number_of_ok}
use Rattle.raid_workload.specs.Rules.{is_within, are_ascending}
use Rattle.raid_text.specs.Head.{unless, is_empty, with_site, sites_at, holders_at}

pub unless_ok : {A : Type 0} (b : Bool) (d : Fault) (f : Unit {0} → Result A Fault) (y : A) → (unless b d >>= f) ≡ Ok y → (b ≡ false) × (f tt ≡ Ok y)
unless_ok true d f y e = absurd cc
unless_ok false d f y e = (refl, e)

pub within : (low high n : ℕ) → low ≤ n → n ≤ high → is_within low high n ≡ true
within low high n a b = rw (le-leb low n a, le-leb n high b) refl

pub within_parts : (low high n : ℕ) → is_within low high n ≡ true → (low ≤ n) × (n ≤ high)
within_parts low high n h = let p = and_parts (leb low n) (leb n high) h in (leb-true _ _ p.0, leb-true _ _ p.1)

-- from a lower number on
lower : (low from high : ℕ) (sites : List Site) → low ≤ from → are_ascending from high sites ≡ true → are_ascending low high sites ≡ true
lower low from high [] le h = refl
lower low from high (s ∷ ss) le h =
    let p = and_parts (is_within from high s.0) (are_ascending (s.0 + 1) high ss) h in
    let w = within_parts from high s.0 p.0 in
    rw (within low high s.0 (omega (arith, w.0)) w.1, p.1) refl

-- those of ascending sites that pass a test which none above a bound passes
kept_ascending : (test : Site → Bool) (low high : ℕ) (sites : List Site) → are_ascending low 8 sites ≡ true → ((s : Site) → test s ≡ true → s.0 ≤ high) → are_ascending low high (filter test sites) ≡ true
kept_ascending test low high [] h bound = refl
kept_ascending test low high (s ∷ ss) h bound =
    let p = and_parts (is_within low 8 s.0) (are_ascending (s.0 + 1) 8 ss) h in
    let w = within_parts low 8 s.0 p.0 in
    let next = kept_ascending test (s.0 + 1) high ss p.1 bound in
    elim (cases_Bool (test s)) [
      | inl pass ↦ rw (pass, within low high s.0 w.0 (bound s pass), next) refl
      | inr fail ↦ rw fail (lower low (s.0 + 1) high (filter test ss) (omega (arith, w.0)) next)
    ]

has_below : (low high : ℕ) (sites : List Site) (s : Site) → are_ascending low high sites ≡ true → has_site sites s ≡ true → s.0 ≤ high
has_below low high [] s h has = absurd cc
has_below low high (r ∷ rs) s h has =
    let p = and_parts (is_within low high r.0) (are_ascending (r.0 + 1) high rs) h in
    let w = within_parts low high r.0 p.0 in
    elim (or_cases (eqb r.0 s.0) (has_site rs s) has) [
      | inl here ↦ omega (arith, eqb-true r.0 s.0 here, w.1)
      | inr there ↦ has_below (r.0 + 1) high rs s p.1 there
    ]

one_more : (sites : ℕ) (found : List Site) (n : ℕ) → n ≤ sites → are_ascending 1 sites found ≡ true → are_ascending 1 sites (with_site found (site n)) ≡ true
one_more sites found n le h =
    kept_ascending (λ r. has_site found r || is_site (site n) r) 1 sites all_sites refl
    (λ s pass. elim (or_cases (has_site found s) (is_site (site n) s) pass) [
      | inl held ↦ has_below 1 sites found s h held
      | inr here ↦ omega (arith, eqb-true s.0 n here, le)
    ])

some_kept : (test : Site → Bool) (sites : List Site) → list_any test sites ≡ true → 0 < length (filter test sites)
some_kept test [] h = absurd cc
some_kept test (s ∷ ss) h =
    elim (cases_Bool (test s)) [
      | inl pass ↦ rw pass (omega arith)
      | inr fail ↦ rw fail (some_kept test ss (rw fail at h))
    ]

either_any : (f g : Site → Bool) (sites : List Site) → list_any g sites ≡ true → list_any (λ s. f s || g s) sites ≡ true
either_any f g [] h = absurd cc
either_any f g (s ∷ ss) h =
    elim (cases_Bool (g s)) [
      | inl pass ↦ rw pass (or_true (f s) (list_any (λ r. f r || g r) ss))
      | inr fail ↦ rw (either_any f g ss (rw fail at h)) (or_last (f s || g s))
    ]
  where
    or_true : (a b : Bool) → (a || true || b) ≡ true
    or_true true b = refl
    or_true false b = refl

    or_last : (a : Bool) → (a || true) ≡ true
    or_last true = refl
    or_last false = refl

is_there : (n : ℕ) → 1 ≤ n → n ≤ 8 → list_any (is_site (site n)) all_sites ≡ true
is_there n least most = grind (arith, least, most)

some_more : (found : List Site) (n : ℕ) → 1 ≤ n → n ≤ 8 → 0 < length (with_site found (site n))
some_more found n least most = some_kept (λ r. has_site found r || is_site (site n) r) all_sites (either_any (has_site found) (is_site (site n)) all_sites (is_there n least most))

-- what is read after sites that are in order
sites_ok : (sites : ℕ) (found : List Site) (words : List Word) (all : List Site) → sites ≤ 8 → are_ascending 1 sites found ≡ true → 0 < length found → sites_at sites found words ≡ Ok all → (are_ascending 1 sites all ≡ true) × (0 < length all)
unfolding sites_at
sites_ok sites found [] all small h some e = subst (λ (xs : List Site). (are_ascending 1 sites xs ≡ true) × (0 < length xs)) (ok_is found all e) (h, some)
sites_ok sites found (word ∷ words) all small h some e =
    let a = bind_ok (number_of 1 sites faults.Site word) _ all e in
    let b = unless_ok (has_site found (site a.0)) faults.Twice _ all a.2 in
    let n = number_of_ok 1 sites faults.Site word a.0 a.1 in
    sites_ok sites (with_site found (site a.0)) words all small (one_more sites found a.0 n.1 h) (some_more found a.0 n.0 (omega (arith, n.1, small))) b.1

first_ok : (sites : ℕ) (words : List Word) (all : List Site) → sites ≤ 8 → is_empty words ≡ false → sites_at sites [] words ≡ Ok all → (are_ascending 1 sites all ≡ true) × (0 < length all)
unfolding sites_at
first_ok sites [] all small h e = absurd cc
first_ok sites (word ∷ words) all small h e =
    let a = bind_ok (number_of 1 sites faults.Site word) _ all e in
    let b = unless_ok (has_site [] (site a.0)) faults.Twice (λ fresh. sites_at sites (with_site [] (site a.0)) words) all a.2 in
    let n = number_of_ok 1 sites faults.Site word a.0 a.1 in
    sites_ok sites (with_site [] (site a.0)) words all small (one_more sites [] a.0 n.1 refl) (some_more [] a.0 n.0 (omega (arith, n.1, small))) b.1

pub holders_ok : (sites : ℕ) (words : List Word) (holders : List Site) → sites ≤ 8 → holders_at sites words ≡ Ok holders → (are_ascending 1 sites holders ≡ true) × (0 < length holders)
unfolding holders_at
holders_ok sites words holders small e =
    let a = unless_ok (is_empty words) faults.NoCopy _ holders e in
    first_ok sites words holders small a.0 a.1

-- up to a higher number
pub higher : (low high top : ℕ) (sites : List Site) → high ≤ top → are_ascending low high sites ≡ true → are_ascending low top sites ≡ true
higher low high top [] le h = refl
higher low high top (s ∷ ss) le h =
    let p = and_parts (is_within low high s.0) (are_ascending (s.0 + 1) high ss) h in
    let w = within_parts low high s.0 p.0 in
    rw (within low top s.0 w.0 (omega (arith, w.1)), higher (s.0 + 1) high top ss le p.1) refl
