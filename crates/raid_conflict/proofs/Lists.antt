-- Tests of lists.
use Rattle.std.proofs.Common.{◌≡◌, Bool, true, false, ◌&&◌, ◌||◌, cond, List, [], ◌∷◌, map, arith, sym, ◌∙◌, ap, subst, refl}
use Rattle.std.specs.List.{list_any, filter, flat_map}
use Rattle.std.proofs.lemmas.List.Folds.{Any-from_list_any, list_any_at, list_any-append}
use Rattle.std.proofs.lemmas.Grind.{common_steps}
use Rattle.raid_base.specs.declared.names.Txn.{Txn}
use Rattle.raid_base.specs.Names.{is_txn, has_txn}
use Rattle.raid_rules.specs.declared.conflict.Action.{Action}
use Rattle.raid_rules.specs.Conflict.{precedes, edges_among}
use Rattle.raid_rules.proofs.Push.{same_txn}

kept : {X : Type 0} (p : X → Bool) (b : Bool) (x : X) (rest : List X) → list_any p (cond b (x ∷ rest) rest) ≡ ((b && p x) || list_any p rest)
kept p true x rest = refl
kept p false x rest = refl

-- a test of what a filter, a map or several lists in a row give
pub any_filter : {X : Type 0} (p q : X → Bool) (xs : List X) → list_any p (filter q xs) ≡ list_any (λ x. q x && p x) xs
any_filter p q [] = refl
any_filter p q (x ∷ xs) = kept p (q x) x (filter q xs) ∙ ap (λ b. (q x && p x) || b) (any_filter p q xs)

pub any_map : {X Y : Type 0} (p : Y → Bool) (f : X → Y) (xs : List X) → list_any p (map f xs) ≡ list_any (λ x. p (f x)) xs
any_map p f [] = refl
any_map p f (x ∷ xs) = ap (λ b. p (f x) || b) (any_map p f xs)

pub any_flat : {X Y : Type 0} (p : Y → Bool) (f : X → List Y) (xs : List X) → list_any p (flat_map f xs) ≡ list_any (λ x. list_any p (f x)) xs
any_flat p f [] = refl
any_flat p f (x ∷ xs) = list_any-append p (f x) (flat_map f xs) ∙ ap (λ b. list_any p (f x) || b) (any_flat p f xs)

-- tests that agree
pub any_congr : {X : Type 0} (f g : X → Bool) → ((x : X) → f x ≡ g x) → (xs : List X) → list_any f xs ≡ list_any g xs
any_congr f g h [] = refl
any_congr f g h (x ∷ xs) = ap (λ b. b || list_any f xs) (h x) ∙ ap (λ b. g x || b) (any_congr f g h xs)

-- two tests of one list as one, and two lists in either order
any_never : {X : Type 0} (xs : List X) → false ≡ list_any (λ x. false) xs
any_never [] = refl
any_never (x ∷ xs) = any_never xs

pub any_or : {X : Type 0} (f g : X → Bool) (xs : List X) → (list_any f xs || list_any g xs) ≡ list_any (λ x. f x || g x) xs
any_or f g [] = refl
any_or f g (x ∷ xs) = shuffled (f x) (g x) (list_any f xs) (list_any g xs) ∙ ap (λ b. (f x || g x) || b) (any_or f g xs)
  where
    shuffled : (a b c d : Bool) → ((a || c) || (b || d)) ≡ ((a || b) || (c || d))
    shuffled true b c d = refl
    shuffled false true true d = refl
    shuffled false true false d = refl
    shuffled false false c d = refl

pub any_swap : {X Y : Type 0} (f : X → Y → Bool) (xs : List X) (ys : List Y) → list_any (λ x. list_any (f x) ys) xs ≡ list_any (λ y. list_any (λ x. f x y) xs) ys
any_swap f [] ys = any_never ys
any_swap f (x ∷ xs) ys = ap (λ b. list_any (f x) ys || b) (any_swap f xs ys) ∙ any_or (f x) (λ y. list_any (λ z. f z y) xs) ys

-- one of them is the transaction, and a test besides
pub any_of : (ts : List Txn) (u : Txn) (b : Bool) → list_any (λ v. is_txn v u && b) ts ≡ (b && has_txn ts u)
any_of [] u true = refl
any_of [] u false = refl
any_of (t ∷ ts) u true = grind (arith, common_steps, any_of ts u true)
any_of (t ∷ ts) u false = grind (arith, common_steps, any_of ts u false)

-- two tests that imply one another are one
pub both_ways : (a b : Bool) → (a ≡ true → b ≡ true) → (b ≡ true → a ≡ true) → a ≡ b
both_ways true true f g = refl
both_ways true false f g = sym (f refl)
both_ways false true f g = g refl
both_ways false false f g = refl

-- what follows from each that passes follows where some pass
pub from_any : {X : Type 0} (P : Type 0) (f : X → Bool) → ((x : X) → f x ≡ true → P) → (xs : List X) → list_any f xs ≡ true → P
from_any P f h xs l = let a = Any-from_list_any f xs l in h a.1 a.4

-- an edge among actions, as two of them
pub any_pair : (all : List Action) (t u : Txn) → list_any (λ e. is_txn t e.0 && is_txn u e.1) (edges_among all) ≡ list_any (λ a. list_any (λ b. precedes a b && (is_txn t a.by && is_txn u b.by)) all) all
any_pair all t u =
    any_flat (λ e. is_txn t e.0 && is_txn u e.1) (λ a. map (λ b. (a.by, b.by)) (filter (precedes a) all)) all
    ∙ any_congr (λ a. list_any (λ e. is_txn t e.0 && is_txn u e.1) (map (λ b. (a.by, b.by)) (filter (precedes a) all))) (λ a. list_any (λ b. precedes a b && (is_txn t a.by && is_txn u b.by)) all)
    (λ a. any_map (λ e. is_txn t e.0 && is_txn u e.1) (λ b. (a.by, b.by)) (filter (precedes a) all) ∙ any_filter (λ b. is_txn t a.by && is_txn u b.by) (precedes a) all) all

-- a list with the same transactions passes the same tests
any_in : (f : Txn → Bool) (xs ys : List Txn) → ((t : Txn) → has_txn xs t ≡ true → has_txn ys t ≡ true) → list_any f xs ≡ true → list_any f ys ≡ true
any_in f xs ys h l =
    let a = Any-from_list_any f xs l in
    let here : has_txn xs a.1 ≡ true = list_any_at (is_txn a.1) xs a.0 a.1 a.2 (subst (λ z. is_txn a.1 z ≡ true) (sym a.3) (grind (arith, common_steps))) in
    let b = Any-from_list_any (is_txn a.1) ys (h a.1 here) in
    list_any_at f ys b.0 b.1 b.2 (subst (λ z. f z ≡ true) (sym (b.3 ∙ same_txn b.1 a.1 b.4)) a.4)

pub any_same : (f : Txn → Bool) (xs ys : List Txn) → ((t : Txn) → has_txn xs t ≡ has_txn ys t) → list_any f xs ≡ list_any f ys
any_same f xs ys h = both_ways _ _ (any_in f xs ys (λ t e. sym (h t) ∙ e)) (any_in f ys xs (λ t e. h t ∙ e))
