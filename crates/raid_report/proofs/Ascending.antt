-- Sites in ascending order are the list of a set.
use Rattle.std.proofs.Common.{◌≡◌, ℕ, zero, suc, ◌+◌, ◌<◌, ◌≤◌, Bool, true, false, cond, ◌||◌, eqb, List, [], ◌∷◌, ◌++◌, drop, filter, map, codes, Option, Some, refl, sym, ap, subst, ◌∙◌, arith, inl, inr}
use Rattle.std.specs.Prelude.{bytes_eq, nat_lt}
use Rattle.std.specs.List.{AllByRecursion}
use Rattle.std.proofs.lemmas.Bool.{ne_eqb, cases_lt, ltb-true}
use Rattle.std.proofs.lemmas.Bool.Decides.{nat_tests}
use Rattle.std.proofs.lemmas.List.Folds.{list_any-append}
use Rattle.raid_base.specs.declared.names.Site.{Site}
use Rattle.raid_base.specs.Names.{is_site, has_site}
use Rattle.raid_base.specs.Sites.{site, all_sites}
use Rattle.raid_workload.specs.declared.workload.Workload.{Workload}
use Rattle.raid_pieces.specs.Pieces.{pieces}
use Rattle.raid_pieces.proofs.Written.{same_bytes}
use Rattle.raid_report.specs.Spelling.{Word, listed, site_word, set_word}
use Rattle.raid_report.specs.Known.{KnowsSite}
use Rattle.raid_report.specs.Typed.{IsSet}
use Rattle.raid_report.specs.Forms.{site_of, above, site_above, sites_above, set_of}
use Rattle.raid_report.proofs.Bind.{bind_some, test_some, some_is}
use Rattle.raid_report.proofs.Facts.{sized}
use Rattle.raid_report.proofs.Pairs.{listed_again}
use Rattle.raid_report.proofs.Sets.{sites_from}
use Rattle.raid_report.proofs.ReadWords.{site_exact}

-- the sites are above the number, ascending, and at most 8
abbrev pub IsAbove : ℕ → List Site → Type 0
IsAbove least [] = Unit {0}
IsAbove least (s ∷ ss) = (least < s.0) × (s.0 ≤ 8) × IsAbove s.0 ss

-- none of them is a number that isn't above
not_there : (least j : ℕ) (ss : List Site) → j ≤ least → IsAbove least ss → has_site ss (site j) ≡ false
not_there least j [] le h = refl
not_there least j (s ∷ ss) le h =
    let apart : eqb s.0 j ≡ false = ne_eqb s.0 j (λ e. omega (arith, h.0)) in
    rw apart (not_there s.0 j ss (omega (arith, h.0)) h.2)

none_kept : (xs : List Site) → filter (has_site []) xs ≡ []
none_kept [] = refl
none_kept (x ∷ xs) = none_kept xs

-- two tests that agree on the sites above keep the same of them
same_kept : (n i : ℕ) (f g : Site → Bool) → i + n ≡ 8 → ((j : ℕ) → i < j → j ≤ 8 → f (site j) ≡ g (site j)) → filter f (drop i all_sites) ≡ filter g (drop i all_sites)
same_kept zero i f g e h = let is : i ≡ 8 = omega arith in rw is refl
same_kept (suc n) i f g e h = rw (sites_from i (omega arith), h (i + 1) (omega arith) (omega arith), same_kept n (i + 1) f g (omega arith) (λ j lt le. h j (omega arith) le)) refl

or_false : (a b : Bool) → a ≡ false → (a || b) ≡ b
or_false true b h = absurd cc
or_false false b h = refl

site_is : (s : Site) (n : ℕ) → s.0 ≡ n → s ≡ site n
site_is s n e = ap site e

kept : (n i : ℕ) (ss : List Site) → i + n ≡ 8 → IsAbove i ss → filter (has_site ss) (drop i all_sites) ≡ ss
kept n i [] e h = none_kept (drop i all_sites)
kept zero i (s ∷ ss) e h = absurd (omega (arith, h.0, h.1))
kept (suc n) i (s ∷ ss) e h =
    elim (cases_lt (i + 1) s.0) [
      | inl later ↦
          let gone : has_site (s ∷ ss) (site (i + 1)) ≡ false = not_there (i + 1) (i + 1) (s ∷ ss) (omega arith) (later, h.1, h.2) in
          rw (sites_from i (omega arith), gone) (kept n (i + 1) (s ∷ ss) (omega arith) (later, h.1, h.2))
      | inr here ↦
          let is : s.0 ≡ i + 1 = omega (arith, h.0) in
          let there : eqb s.0 (i + 1) ≡ true = rw is (same_number (i + 1)) in
          let others = same_kept n (i + 1) (has_site (s ∷ ss)) (has_site ss) (omega arith) (λ j lt le. or_false (eqb s.0 j) (has_site ss (site j)) (ne_eqb s.0 j (λ q. omega arith))) in
          rw (sites_from i (omega arith), there, others) (rw (kept n (i + 1) ss (omega arith) (subst (λ k. IsAbove k ss) is h.2)) (ap (λ (x : Site). x ∷ ss) (sym (site_is s (i + 1) is))))
    ]
  where
    same_number : (k : ℕ) → eqb k k ≡ true
    same_number k = grind (arith, nat_tests)

pub set_is : (ss : List Site) → IsAbove 0 ss → IsSet ss
set_is ss h = kept 8 0 ss refl h

-- ---- one site more

eq_flip : (a b : ℕ) → eqb a b ≡ eqb b a
eq_flip a b = grind (arith, nat_tests)

or_nothing : (b : Bool) → (b || false) ≡ b
or_nothing true = refl
or_nothing false = refl

pub above_pushed : (least last : ℕ) (ss : List Site) (s : Site) → IsAbove least ss → AllByRecursion (λ (r : Site). r.0 ≤ last) ss → last < s.0 → least < s.0 → s.0 ≤ 8 → IsAbove least (ss ++ s ∷ [])
above_pushed least last [] s a b more up few = (up, few, tt)
above_pushed least last (r ∷ ss) s a b more up few = (a.0, a.1, above_pushed r.0 last ss s a.2 b.1 more (omega (arith, b.0)) few)

-- a set with a site above all that are in it
pub with_behind : (last : ℕ) (ss : List Site) (s : Site) → IsAbove 0 ss → AllByRecursion (λ (r : Site). r.0 ≤ last) ss → last < s.0 → s.0 ≤ 8 →
    filter (λ r. has_site ss r || is_site s r) all_sites ≡ ss ++ s ∷ []
with_behind last ss s a b more few =
    same_kept 8 0 (λ r. has_site ss r || is_site s r) (has_site (ss ++ s ∷ [])) refl
    (λ j lt le. sym (list_any-append (is_site (site j)) ss (s ∷ []) ∙ ap (λ t. has_site ss (site j) || t) (or_nothing (eqb s.0 j) ∙ eq_flip s.0 j)))
    ∙ kept 8 0 (ss ++ s ∷ []) refl (above_pushed 0 last ss s a b more (omega arith) few)

-- ---- reading a set

above_exact : (least : ℕ) (s t : Site) → above least s ≡ Some t → (s ≡ t) × (least < t.0)
above_exact least s t e = let a = test_some (nat_lt least s.0) (Some s) t e in let is = some_is s t a.1 in (is, subst (λ (u : Site). least < u.0) is (ltb-true least s.0 a.0))

pub record AreSiteParts (w : Workload) (least : ℕ) (parts : List Word) (ss : List Site) : Type 0 where
  pub written : map site_word ss ≡ parts
  pub known : AllByRecursion (KnowsSite w) ss
  pub above : IsAbove least ss

pub sites_above_exact : (w : Workload) (least : ℕ) (parts : List Word) (ss : List Site) → sites_above w least parts ≡ Some ss → AreSiteParts w least parts ss
unfolding sites_above
sites_above_exact w least [] ss e = let is = some_is [] ss e in subst (AreSiteParts w least []) is (record { written = refl; known = tt; above = tt })
sites_above_exact w least (part ∷ parts) ss e =
    let a = bind_some (site_above w least part) _ ss e in
    let p = bind_some (site_of w part) _ a.0 a.1 in
    let q = above_exact least p.0 a.0 p.2 in
    let x = site_exact w part a.0 (p.1 ∙ ap (λ (s : Site). let o : Option Site = Some s in o) q.0) in
    let b = bind_some (sites_above w a.0.0 parts) _ ss a.2 in
    let rest = sites_above_exact w a.0.0 parts b.0 b.1 in
    let is = some_is (a.0 ∷ b.0) ss b.2 in
    let z = sized w in
    let made : AreSiteParts w least (part ∷ parts) (a.0 ∷ b.0) = record {
      written = rw (x.written, rest.written) refl;
      known = (x.known, rest.known);
      above = (q.1, omega (arith, x.known.last), rest.above);
    } in
    subst (AreSiteParts w least (part ∷ parts)) is made

pub record IsSetWord (w : Workload) (word : Word) (ss : List Site) : Type 0 where
  pub written : set_word ss ≡ word
  pub known : AllByRecursion (KnowsSite w) ss
  pub typed : IsSet ss

either_set : (w : Workload) (word : Word) (b : Bool) (ss : List Site) → (b ≡ true → word ≡ codes "-") → cond b (Some []) (sites_above w 0 (pieces 44 word)) ≡ Some ss → IsSetWord w word ss
either_set w word true ss none e = let is = some_is [] ss e in subst (IsSetWord w word) is (record { written = sym (none refl); known = tt; typed = refl })
either_set w word false ss none e =
    let x = sites_above_exact w 0 (pieces 44 word) ss e in
    record { written = ap listed x.written ∙ listed_again word; known = x.known; typed = set_is ss x.above }

pub set_exact : (w : Workload) (word : Word) (ss : List Site) → set_of w word ≡ Some ss → IsSetWord w word ss
unfolding set_of
set_exact w word ss e = either_set w word (bytes_eq word (codes "-")) ss (λ h. same_bytes word (codes "-") h) e
