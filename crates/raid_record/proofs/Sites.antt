-- The sites of a workload, one by one, and those that are up.
use Rattle.std.proofs.Common.{◌≡◌, ℕ, zero, suc, ◌+◌, ◌-◌, ◌<◌, ◌≤◌, nat_lt, Bool, true, false, cond, if◌then◌else◌, List, [], ◌∷◌, ◌++◌, map, filter, length, drop, append_assoc, append-nil, slice_index, refl, ap, sym, arith, ◌∙◌}
use Rattle.std.specs.Prelude.{flat_map}
use Rattle.std.proofs.lemmas.List.{map-append}
use Rattle.std.proofs.lemmas.List.Elements.{filter-append}
use Rattle.std.proofs.lemmas.Grind.{flat_map-append}
use Rattle.raid_base.specs.declared.names.Site.{Site}
use Rattle.raid_base.specs.Names.{has_site}
use Rattle.raid_base.specs.Sites.{site, all_sites}
use Rattle.raid_workload.specs.Parts.{count_from}
use Rattle.raid_rules.specs.Sessions.{is_site_up}
use Rattle.raid_rules.proofs.Sources.{drop_site}

-- numbers from one on
pub count_more : (a n : ℕ) → count_from a (n + 1) ≡ count_from a n ++ (a + n) ∷ []
count_more a zero = ap (λ k. k ∷ []) (let e : a ≡ a + zero = omega arith in e)
count_more a (suc n) =
    ap (λ k. count_from a k) (let e : suc n + 1 ≡ suc (n + 1) = omega arith in e)
    ∙ ap (λ ks. a ∷ ks) (count_more (a + 1) n ∙ ap (λ k. count_from (a + 1) n ++ k ∷ []) (let e : a + 1 + n ≡ a + suc n = omega arith in e))

count_split : (a n m : ℕ) → count_from a (n + m) ≡ count_from a n ++ count_from (a + n) m
count_split a zero m = ap (λ k. count_from a k) (let e : zero + m ≡ m = omega arith in e) ∙ ap (λ k. count_from k m) (let e : a ≡ a + zero = omega arith in e)
count_split a (suc n) m =
    ap (λ k. count_from a k) (let e : suc n + m ≡ suc (n + m) = omega arith in e)
    ∙ ap (λ ks. a ∷ ks) (count_split (a + 1) n m ∙ ap (λ k. count_from (a + 1) n ++ count_from k m) (let e : a + 1 + n ≡ a + suc n = omega arith in e))

-- the sites up to a number
abbrev pub sites_to : ℕ → List Site
sites_to k = map site (count_from 1 k)

pub sites_more : (k : ℕ) → sites_to (k + 1) ≡ sites_to k ++ site (k + 1) ∷ []
sites_more k = ap (map site) (count_more 1 k) ∙ map-append site (count_from 1 k) ((1 + k) ∷ []) ∙ ap (λ n. sites_to k ++ site n ∷ []) (let e : 1 + k ≡ k + 1 = omega arith in e)

-- one site more, in what is made of each
pub made_more : {X : Type 0} (f : Site → List X) (k : ℕ) → flat_map f (sites_to (k + 1)) ≡ flat_map f (sites_to k) ++ f (site (k + 1))
made_more f k = ap (flat_map f) (sites_more k) ∙ flat_map-append f (sites_to k) (site (k + 1) ∷ []) ∙ ap (λ xs. flat_map f (sites_to k) ++ xs) (append-nil (f (site (k + 1))))

-- past the end of a vector no site is up
pub past_end : (v : List ℕ) (k : ℕ) → length v ≤ k → slice_index v k ≡ 0
past_end [] k below = refl
past_end (x ∷ v) zero below = absurd (omega (arith, below))
past_end (x ∷ v) (suc k) below = past_end v k (omega (arith, below))

none_up : (v : List ℕ) (a m : ℕ) → length v < a → filter (is_site_up v) (map site (count_from a m)) ≡ []
none_up v a zero above = refl
none_up v a (suc m) above =
    ap (λ b. cond b (site a ∷ filter (is_site_up v) (map site (count_from (a + 1) m))) (filter (is_site_up v) (map site (count_from (a + 1) m)))) (ap (λ k. nat_lt 0 k) (past_end v (a - 1) (omega (arith, above))))
    ∙ none_up v (a + 1) m (omega (arith, above))

pub all_up : (v : List ℕ) (n : ℕ) → length v ≡ n → n ≤ 8 → filter (is_site_up v) (sites_to n) ≡ filter (is_site_up v) all_sites
all_up v n is most =
    sym (append-nil (filter (is_site_up v) (sites_to n)))
    ∙ ap (λ xs. filter (is_site_up v) (sites_to n) ++ xs) (sym (none_up v (1 + n) (8 - n) (omega (arith, is))))
    ∙ sym (filter-append (is_site_up v) (sites_to n) (map site (count_from (1 + n) (8 - n))))
    ∙ ap (filter (is_site_up v)) (sym (map-append site (count_from 1 n) (count_from (1 + n) (8 - n))))
    ∙ ap (λ ks. filter (is_site_up v) (map site ks)) (sym (count_split 1 n (8 - n)))
    ∙ ap (λ k. filter (is_site_up v) (sites_to k)) (let e : n + (8 - n) ≡ 8 = omega (arith, most) in e)

-- what is sent to each of a set, from a number on
pub each_more : {X : Type 0} (f : Site → X) (targets : List Site) (n : ℕ) (outs after : List X) → 1 ≤ n → n < 9 →
    after ≡ outs ++ (if has_site targets (site n) then f (site n) ∷ [] else []) →
    after ++ map f (filter (has_site targets) (drop (n + 1 - 1) all_sites)) ≡ outs ++ map f (filter (has_site targets) (drop (n - 1) all_sites))
each_more {X} f targets n outs after least most e =
    ap (λ k. after ++ map f (filter (has_site targets) (drop k all_sites))) (let e : n + 1 - 1 ≡ n = omega arith in e)
    ∙ ap (λ xs. xs ++ rest) e ∙ append_assoc outs (if has_site targets (site n) then f (site n) ∷ [] else []) rest
    ∙ ap (λ xs. outs ++ xs) (go (has_site targets (site n)) ∙ ap (λ ss. map f (filter (has_site targets) ss)) (sym (drop_site n least most)))
  where
    rest : List X
    rest = map f (filter (has_site targets) (drop n all_sites))

    go : (b : Bool) → (if b then f (site n) ∷ [] else []) ++ rest ≡ map f (cond b (site n ∷ filter (has_site targets) (drop n all_sites)) (filter (has_site targets) (drop n all_sites)))
    go true = refl
    go false = refl
