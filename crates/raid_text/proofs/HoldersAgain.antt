-- The holders of an item, as they are written, are read again.
use Rattle.std.proofs.Common.{◌≡◌, ℕ, zero, suc, ◌+◌, ◌<◌, ◌≤◌, Bool, true, false, ◌||◌, eqb, List, [], ◌∷◌, ◌++◌, length, map, Ok, refl, sym, ap, ◌∙◌, arith, inl, inr, subst, append_assoc}
use Rattle.std.specs.List.{filter, list_all}
use Rattle.std.proofs.lemmas.Bool.{ne_eqb, eq-eqb, and_parts, cases_eq}
use Rattle.std.proofs.lemmas.List.{append-nil}
use Rattle.std.proofs.lemmas.List.Folds.{list_any-append}
use Rattle.raid_base.specs.declared.names.Site.{Site}
use Rattle.raid_base.specs.Names.{is_site, has_site}
use Rattle.raid_base.specs.Sites.{site}
use Rattle.raid_scan.specs.Words.{is_plain}
use Rattle.raid_tokens.specs.declared.fault.Fault.TheVariants as faults
use Rattle.raid_tokens.proofs.Written.{number_again, number_plain}
use Rattle.raid_workload.specs.Rules.{is_within, are_ascending}
use Rattle.raid_text.specs.Head.{with_site, sites_at, holders_at}
use Rattle.raid_text.specs.Spelling.{site_word}
use Rattle.raid_text.proofs.Holders.{within, within_parts}

-- the sites with so many numbers from one on
abbrev sites_from : ℕ → ℕ → List Site
sites_from low zero = []
sites_from low (suc n) = site low ∷ sites_from (low + 1) n

none_below : (low high : ℕ) (sites : List Site) (n : ℕ) → n < low → are_ascending low high sites ≡ true → has_site sites (site n) ≡ false
none_below low high [] n lt h = refl
none_below low high (s ∷ ss) n lt h =
    let p = and_parts (is_within low high s.0) (are_ascending (s.0 + 1) high ss) h in
    let w = within_parts low high s.0 p.0 in
    rw (ne_eqb s.0 n (λ e. omega (arith, w.0))) (none_below (s.0 + 1) high ss n (omega (arith, w.0)) p.1)

same_kept : (f g : Site → Bool) (n low : ℕ) → ((k : ℕ) → low ≤ k → k < low + n → f (site k) ≡ g (site k)) → filter f (sites_from low n) ≡ filter g (sites_from low n)
same_kept f g zero low h = refl
same_kept f g (suc n) low h =
    let here = h low (omega arith) (omega arith) in
    let next = same_kept f g n (low + 1) (λ k a b. h k (omega arith) (omega arith)) in
    rw (here, next) refl

same_site : (s : Site) (n : ℕ) → s.0 ≡ n → site n ≡ s
same_site s n e = ap site (sym e)

-- ascending sites are those of all that are among them
pub kept_are : (n low high : ℕ) (sites : List Site) → high < low + n → are_ascending low high sites ≡ true → filter (has_site sites) (sites_from low n) ≡ sites
kept_are zero low high [] less h = refl
kept_are zero low high (s ∷ ss) less h =
    let p = and_parts (is_within low high s.0) (are_ascending (s.0 + 1) high ss) h in
    let w = within_parts low high s.0 p.0 in
    absurd (omega (arith, w.0, w.1))
kept_are (suc n) low high [] less h = kept_are n (low + 1) high [] (omega arith) refl
kept_are (suc n) low high (s ∷ ss) less h =
    let p = and_parts (is_within low high s.0) (are_ascending (s.0 + 1) high ss) h in
    let w = within_parts low high s.0 p.0 in
    elim (cases_eq s.0 low) [
      | inl same ↦
          let rest : are_ascending (low + 1) high ss ≡ true = subst (λ (k : ℕ). are_ascending (k + 1) high ss ≡ true) same p.1 in
          let others : filter (has_site (s ∷ ss)) (sites_from (low + 1) n) ≡ ss =
          same_kept (has_site (s ∷ ss)) (has_site ss) n (low + 1) (λ k a b. rw (ne_eqb s.0 k (λ e. omega arith)) refl) ∙ kept_are n (low + 1) high ss (omega arith) rest in
          rw (eq-eqb s.0 low same) (ap (λ (r : Site). r ∷ filter (has_site (s ∷ ss)) (sites_from (low + 1) n)) (same_site s low same) ∙ ap (λ (rs : List Site). s ∷ rs) others)
      | inr other ↦
          let above : are_ascending (low + 1) high (s ∷ ss) ≡ true = rw (within (low + 1) high s.0 (omega (arith, w.0, other)) w.1, p.1) refl in
          let none : has_site (s ∷ ss) (site low) ≡ false = rw (ne_eqb s.0 low other) (none_below (s.0 + 1) high ss low (omega (arith, w.0)) p.1) in
          rw none (kept_are n (low + 1) high (s ∷ ss) (omega arith) above)
    ]

-- ---- parts of ascending sites

front : (low high : ℕ) (xs ys : List Site) → are_ascending low high (xs ++ ys) ≡ true → are_ascending low high xs ≡ true
front low high [] ys h = refl
front low high (x ∷ xs) ys h =
    let p = and_parts (is_within low high x.0) (are_ascending (x.0 + 1) high (xs ++ ys)) h in
    rw (p.0, front (x.0 + 1) high xs ys p.1) refl

middle : (low high : ℕ) (xs : List Site) (s : Site) (ys : List Site) → are_ascending low high (xs ++ (s ∷ ys)) ≡ true → (low ≤ s.0) × (s.0 ≤ high)
middle low high [] s ys h =
    let p = and_parts (is_within low high s.0) (are_ascending (s.0 + 1) high ys) h in
    within_parts low high s.0 p.0
middle low high (x ∷ xs) s ys h =
    let p = and_parts (is_within low high x.0) (are_ascending (x.0 + 1) high (xs ++ (s ∷ ys))) h in
    let w = within_parts low high x.0 p.0 in
    let m = middle (x.0 + 1) high xs s ys p.1 in
    (omega (arith, w.0, m.0), m.1)

fresh : (low high : ℕ) (xs : List Site) (s : Site) (ys : List Site) → are_ascending low high (xs ++ (s ∷ ys)) ≡ true → has_site xs s ≡ false
fresh low high [] s ys h = refl
fresh low high (x ∷ xs) s ys h =
    let p = and_parts (is_within low high x.0) (are_ascending (x.0 + 1) high (xs ++ (s ∷ ys))) h in
    let m = middle (x.0 + 1) high xs s ys p.1 in
    rw (ne_eqb x.0 s.0 (λ e. omega (arith, m.0))) (fresh (x.0 + 1) high xs s ys p.1)

-- ---- one site more

same_test : (a b : ℕ) → eqb a b ≡ eqb b a
same_test a b =
    elim (cases_eq a b) [
      | inl same ↦ eq-eqb a b same ∙ sym (eq-eqb b a (sym same))
      | inr other ↦ ne_eqb a b other ∙ sym (ne_eqb b a (λ e. other (sym e)))
    ]

or_same : (a b c : Bool) → b ≡ c → (a || b) ≡ (a || (c || false))
or_same true b c e = refl
or_same false true c e = sym (rw (← e) refl)
or_same false false c e = sym (rw (← e) refl)

has_more : (found : List Site) (s r : Site) → (has_site found r || is_site s r) ≡ has_site (found ++ s ∷ []) r
has_more found s r = or_same (has_site found r) (eqb r.0 s.0) (eqb s.0 r.0) (same_test r.0 s.0) ∙ sym (list_any-append (is_site r) found (s ∷ []))

with_is : (sites : ℕ) (found : List Site) (s : Site) → sites ≤ 8 → are_ascending 1 sites (found ++ s ∷ []) ≡ true → with_site found s ≡ found ++ s ∷ []
with_is sites found s small h =
    same_kept (λ r. has_site found r || is_site s r) (has_site (found ++ s ∷ [])) 8 1 (λ k a b. has_more found s (site k))
    ∙ kept_are 8 1 sites (found ++ s ∷ []) (omega arith) h

-- sites behind others, as they are written, are read as they are
sites_again : (sites : ℕ) (found rest : List Site) → sites ≤ 8 → are_ascending 1 sites (found ++ rest) ≡ true → sites_at sites found (map site_word rest) ≡ Ok (found ++ rest)
unfolding sites_at
sites_again sites found [] small h = ap (λ (xs : List Site). Ok xs) (sym (append-nil found))
sites_again sites found (s ∷ rest) small h =
    let m = middle 1 sites found s rest h in
    let e : (found ++ s ∷ []) ++ rest ≡ found ++ (s ∷ rest) = append_assoc found (s ∷ []) rest in
    let h2 : are_ascending 1 sites ((found ++ s ∷ []) ++ rest) ≡ true = rw e h in
    let more = with_is sites found s small (front 1 sites (found ++ s ∷ []) rest h2) in
    rw (number_again 1 sites faults.Site s.0 m.0 m.1 (omega (arith, m.1)), fresh 1 sites found s rest h, more) (sites_again sites (found ++ s ∷ []) rest small h2 ∙ ap (λ (xs : List Site). Ok xs) e)

sites_plain : (low high : ℕ) (sites : List Site) → high ≤ 8 → are_ascending low high sites ≡ true → list_all is_plain (map site_word sites) ≡ true
sites_plain low high [] small h = refl
sites_plain low high (s ∷ ss) small h =
    let p = and_parts (is_within low high s.0) (are_ascending (s.0 + 1) high ss) h in
    let w = within_parts low high s.0 p.0 in
    rw (number_plain s.0 (omega (arith, w.1))) (sites_plain (s.0 + 1) high ss small p.1)

-- so holders are
pub holders_again : (sites : ℕ) (holders : List Site) → sites ≤ 8 → 0 < length holders → are_ascending 1 sites holders ≡ true → (holders_at sites (map site_word holders) ≡ Ok holders) × (list_all is_plain (map site_word holders) ≡ true)
unfolding holders_at
holders_again sites [] small some h = absurd (omega arith)
holders_again sites (s ∷ ss) small some h = (sites_again sites [] (s ∷ ss) small h, sites_plain 1 sites (s ∷ ss) small h)
