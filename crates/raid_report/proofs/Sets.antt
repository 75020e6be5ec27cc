-- A set of sites, written site by site.
use Rattle.std.proofs.Common.{◌≡◌, ℕ, zero, suc, ◌+◌, ◌<◌, Bool, true, false, List, [], ◌∷◌, ◌++◌, drop, map, filter, refl, ap, ◌∙◌, arith, ◌&&◌, append_assoc}
use Rattle.std.proofs.lemmas.Bool.{eqb-true}
use Rattle.std.proofs.lemmas.Map.Views.{any-filter_same}
use Rattle.raid_base.specs.declared.names.Site.{Site}
use Rattle.raid_base.specs.Names.{is_site, has_site}
use Rattle.raid_base.specs.Sites.{site, all_sites}
use Rattle.raid_report.specs.Spelling.{site_word, behind_commas}

-- the sites with this mark before the first and commas before the others
abbrev pub marked : ℕ → List Site → List ℕ
marked mark [] = []
marked mark (s ∷ ss) = mark ∷ (site_word s ++ behind_commas (map site_word ss))

same_site : (s r : Site) → is_site s r ≡ true → r ≡ s
same_site s r h = ap (λ k. site k) (eqb-true r.0 s.0 h)

and_true : (b : Bool) → (b && true) ≡ b
and_true true = refl
and_true false = refl

-- who is in a filtered list
kept : (p : Site → Bool) (k : ℕ) → has_site all_sites (site k) ≡ true → has_site (filter p all_sites) (site k) ≡ p (site k)
kept p k h = any-filter_same (is_site (site k)) p (p (site k)) (λ r e. ap p (same_site (site k) r e)) all_sites ∙ rw h (and_true (p (site k)))

-- a set is the sites that it has
pub set_again : (p : Site → Bool) → filter (has_site (filter p all_sites)) all_sites ≡ filter p all_sites
set_again p = rw (kept p 1 refl, kept p 2 refl, kept p 3 refl, kept p 4 refl, kept p 5 refl, kept p 6 refl, kept p 7 refl, kept p 8 refl) refl

-- the sites from one on are that one and those after it
pub sites_from : (i : ℕ) → i < 8 → drop i all_sites ≡ site (i + 1) ∷ drop (i + 1) all_sites
sites_from zero less = refl
sites_from (suc zero) less = refl
sites_from (suc (suc zero)) less = refl
sites_from (suc (suc (suc zero))) less = refl
sites_from (suc (suc (suc (suc zero)))) less = refl
sites_from (suc (suc (suc (suc (suc zero))))) less = refl
sites_from (suc (suc (suc (suc (suc (suc zero)))))) less = refl
sites_from (suc (suc (suc (suc (suc (suc (suc zero))))))) less = refl
sites_from (suc (suc (suc (suc (suc (suc (suc (suc i)))))))) less = absurd (omega arith)

behind_marked : (ss : List Site) → behind_commas (map site_word ss) ≡ marked 44 ss
behind_marked [] = refl
behind_marked (s ∷ ss) = refl

-- a site that is in the set is written
pub marked_more : (out : List ℕ) (mark : ℕ) (sites : List Site) (i : ℕ) → i < 8 → has_site sites (site (i + 1)) ≡ true →
    ((out ++ mark ∷ []) ++ site_word (site (i + 1))) ++ marked 44 (filter (has_site sites) (drop (i + 1) all_sites))
    ≡ out ++ marked mark (filter (has_site sites) (drop i all_sites))
marked_more out mark sites i less h = rw (sites_from i less, h) (rw (behind_marked (filter (has_site sites) (drop (i + 1) all_sites))) (simp append_assoc))

-- one that isn't is passed over
pub marked_less : (mark : ℕ) (sites : List Site) (i : ℕ) → i < 8 → has_site sites (site (i + 1)) ≡ false →
    marked mark (filter (has_site sites) (drop (i + 1) all_sites)) ≡ marked mark (filter (has_site sites) (drop i all_sites))
marked_less mark sites i less h = rw (sites_from i less, h) refl
