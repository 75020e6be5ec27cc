-- When lists of transactions and of places are one, and lists that are built place by place.
use Rattle.std.proofs.Common.{◌≡◌, ◌==◌, ℕ, ◌+◌, ◌-◌, ◌≤◌, Bool, true, false, ◌&&◌, List, [], ◌∷◌, ◌++◌, map, if◌then◌else◌, refl, ap, sym, ◌∙◌, append_assoc, arith}
use Rattle.std.specs.Prelude.{filter, flat_map}
use Rattle.std.specs.Bool.{Decides}
use Rattle.std.proofs.lemmas.Bool.{and_parts, and_from, eqb-true, eq-eqb}
use Rattle.std.proofs.lemmas.List.{map-append}
use Rattle.std.proofs.lemmas.List.Elements.{filter-append}
use Rattle.raid_base.specs.Sites.{site}
use Rattle.raid_base.specs.declared.names.Txn.{Txn}
use Rattle.raid_base.specs.declared.names.Item.{Item}
use Rattle.raid_base.specs.declared.names.Site.{Site}
use Rattle.raid_workload.specs.Parts.{count_from}
use Rattle.raid_record.proofs.Sites.{count_more, made_more as made}

pub is_same_txn : (t u : Txn) → Decides (t.0 == u.0) (t ≡ u)
is_same_txn t u = (λ h. ap (λ k. let r : Txn = record { 0 = k } in r) (eqb-true t.0 u.0 h), λ e. eq-eqb t.0 u.0 (ap (λ (r : Txn). r.0) e))

pub is_same_place : (a b : Site × Item) → Decides ((a.0.0 == b.0.0) && (a.1.0 == b.1.0)) (a ≡ b)
is_same_place a b = (there, back)
  where
    there : ((a.0.0 == b.0.0) && (a.1.0 == b.1.0)) ≡ true → a ≡ b
    there h =
        let both = and_parts (a.0.0 == b.0.0) (a.1.0 == b.1.0) h in
        let s : a.0 ≡ b.0 = ap (λ k. let r : Site = record { 0 = k } in r) (eqb-true a.0.0 b.0.0 both.0) in
        let x : a.1 ≡ b.1 = ap (λ k. let r : Item = record { 0 = k } in r) (eqb-true a.1.0 b.1.0 both.1) in
        λ i. (s i, x i)

    back : a ≡ b → ((a.0.0 == b.0.0) && (a.1.0 == b.1.0)) ≡ true
    back e = and_from _ _ (eq-eqb a.0.0 b.0.0 (ap (λ (r : Site × Item). r.0.0) e)) (eq-eqb a.1.0 b.1.0 (ap (λ (r : Site × Item). r.1.0) e))

-- what is made of the numbers so far, with one more
pub made_more : {X : Type 0} (f : ℕ → X) (k : ℕ) → map f (count_from 0 (k + 1)) ≡ map f (count_from 0 k) ++ f k ∷ []
made_more f k = ap (map f) (count_more 0 k ∙ ap (λ j. count_from 0 k ++ j ∷ []) (let e : 0 + k ≡ k = omega arith in e)) ∙ map-append f (count_from 0 k) (k ∷ [])

-- the items so far that pass, each with the site, and one more
abbrev item : ℕ → Item
item k = record { 0 = k }

pub place_more : (test : Item → Bool) (s : Site) (k : ℕ) (before xs ys : List (Site × Item)) → xs ≡ before ++ map (λ x. (s, x)) (filter test (map item (count_from 0 k))) → ys ≡ xs ++ (if test (item k) then (s, item k) ∷ [] else []) →
    ys ≡ before ++ map (λ x. (s, x)) (filter test (map item (count_from 0 (k + 1))))
place_more test s k before xs ys so_far more =
    let f : Item → Site × Item = λ x. (s, x) in
    let all = map item (count_from 0 k) in
    let last : map f (filter test (item k ∷ [])) ≡ (if test (item k) then f (item k) ∷ [] else []) = one f (test (item k)) in
    let next : map f (filter test (map item (count_from 0 (k + 1)))) ≡ map f (filter test all) ++ map f (filter test (item k ∷ [])) =
    ap (λ zs. map f (filter test zs)) (made_more item k) ∙ ap (map f) (filter-append test all (item k ∷ [])) ∙ map-append f (filter test all) (filter test (item k ∷ [])) in
    more ∙ ap (λ (zs : List (Site × Item)). zs ++ (if test (item k) then f (item k) ∷ [] else [])) so_far
    ∙ append_assoc before (map f (filter test all)) (if test (item k) then f (item k) ∷ [] else [])
    ∙ ap (λ (zs : List (Site × Item)). before ++ zs) (ap (λ (zs : List (Site × Item)). map f (filter test all) ++ zs) (sym last) ∙ sym next)
  where
    one : (f : Item → Site × Item) (b : Bool) → map f (if b then item k ∷ [] else []) ≡ (if b then f (item k) ∷ [] else [])
    one f true = refl
    one f false = refl

-- what the sites so far have, with one more
pub listed_more : {X : Type 0} (f : Site → List X) (n : ℕ) (xs ys : List X) → 1 ≤ n → xs ≡ flat_map f (map site (count_from 1 (n - 1))) → ys ≡ xs ++ f (site n) → ys ≡ flat_map f (map site (count_from 1 (n + 1 - 1)))
listed_more f n xs ys least so_far more =
    let e : n - 1 + 1 ≡ n = omega (arith, least) in
    let d : n + 1 - 1 ≡ n - 1 + 1 = omega (arith, least) in
    more ∙ ap (λ zs. zs ++ f (site n)) so_far
    ∙ sym (ap (λ m. flat_map f (map site (count_from 1 m))) d ∙ made f (n - 1) ∙ ap (λ m. flat_map f (map site (count_from 1 (n - 1))) ++ f (site m)) e)
