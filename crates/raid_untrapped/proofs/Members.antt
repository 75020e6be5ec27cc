-- Members of lists.
use Rattle.std.proofs.Common.{◌≡◌, ◌⊎◌, inl, inr, Bool, true, false, ◌&&◌, ◌||◌, cond, List, [], ◌∷◌, ◌++◌, map, arith, sym, ◌∙◌, ap, subst, refl}
use Rattle.std.specs.Prelude.{filter, flat_map}
use Rattle.std.specs.List.{list_any, list_all}
use Rattle.std.proofs.lemmas.Bool.{true≢false, and_parts, and_from, or_left, cases_Bool}
use Rattle.std.proofs.lemmas.List.Folds.{list_any-append}
use Rattle.std.proofs.lemmas.Grind.{common_steps}
use Rattle.raid_base.specs.declared.names.Txn.{Txn}
use Rattle.raid_base.specs.Names.{is_txn, has_txn}
use Rattle.raid_rules.proofs.Push.{same_txn}
use Rattle.raid_rules.proofs.Txns.{or_right}

abbrev pub In : {X : Type 0} → X → List X → Type 0
In x [] = ⊥
In x (y ∷ ys) = (x ≡ y) ⊎ In x ys

pub in_any : {X : Type 0} (f : X → Bool) (xs : List X) (x : X) → In x xs → f x ≡ true → list_any f xs ≡ true
in_any f [] x i e = absurd i
in_any f (y ∷ ys) x (inl q) e = or_left (f y) (list_any f ys) (subst (λ z. f z ≡ true) q e)
in_any f (y ∷ ys) x (inr i) e = or_right (f y) (list_any f ys) (in_any f ys x i e)

pub any_in : {X : Type 0} (f : X → Bool) (xs : List X) → list_any f xs ≡ true → (x : X) × In x xs × (f x ≡ true)
any_in f [] e = absurd (true≢false (sym e))
any_in f (y ∷ ys) e = elim (cases_Bool (f y)) [
  | inl q ↦ (y, inl refl, q)
  | inr q ↦ let r = any_in f ys (grind (arith, common_steps, e, q)) in (r.0, inr r.1, r.2)
]

pub all_in : {X : Type 0} (f : X → Bool) (xs : List X) (x : X) → list_all f xs ≡ true → In x xs → f x ≡ true
all_in f [] x e i = absurd i
all_in f (y ∷ ys) x e (inl q) = subst (λ z. f z ≡ true) (sym q) (and_parts (f y) (list_all f ys) e).0
all_in f (y ∷ ys) x e (inr i) = all_in f ys x (and_parts (f y) (list_all f ys) e).1 i

pub in_push : {X : Type 0} (xs : List X) (x y : X) → In x (xs ++ y ∷ []) → In x xs ⊎ (x ≡ y)
in_push [] x y (inl e) = inr e
in_push [] x y (inr i) = absurd i
in_push (z ∷ zs) x y (inl e) = inl (inl e)
in_push (z ∷ zs) x y (inr i) = elim (in_push zs x y i) [ inl j ↦ inl (inr j) | inr e ↦ inr e ]

filter_step : {X : Type 0} (f : X → Bool) (y x : X) (ys : List X) (b : Bool) → f y ≡ b → (In x (filter f ys) → In x ys × (f x ≡ true)) → In x (cond b (y ∷ filter f ys) (filter f ys)) →
    ((x ≡ y) ⊎ In x ys) × (f x ≡ true)
filter_step f y x ys true q rest (inl e) = (inl e, subst (λ z. f z ≡ true) (sym e) q)
filter_step f y x ys true q rest (inr i) = let r = rest i in (inr r.0, r.1)
filter_step f y x ys false q rest i = let r = rest i in (inr r.0, r.1)

pub in_filter : {X : Type 0} (f : X → Bool) (xs : List X) (x : X) → In x (filter f xs) → In x xs × (f x ≡ true)
in_filter f [] x i = absurd i
in_filter f (y ∷ ys) x i = filter_step f y x ys (f y) refl (in_filter f ys x) i

kept_step : {X Y : Type 0} (f : X → Bool) (g : X → Y) (test : Y → Bool) (y : X) (ys : List X) (b : Bool) → ((f y && test (g y)) ≡ true) ⊎ (list_any test (map g (filter f ys)) ≡ true) → f y ≡ b →
    list_any test (map g (cond b (y ∷ filter f ys) (filter f ys))) ≡ true
kept_step f g test y ys true (inl e) q = or_left _ _ (and_parts (f y) (test (g y)) e).1
kept_step f g test y ys true (inr e) q = or_right (test (g y)) _ e
kept_step f g test y ys false (inl e) q = absurd (true≢false (sym (and_parts (f y) (test (g y)) e).0 ∙ q))
kept_step f g test y ys false (inr e) q = e

-- what passes the filter and then the test is found among the images
pub any_kept : {X Y : Type 0} (f : X → Bool) (g : X → Y) (test : Y → Bool) (xs : List X) (x : X) → In x xs → f x ≡ true → test (g x) ≡ true → list_any test (map g (filter f xs)) ≡ true
any_kept f g test [] x i a b = absurd i
any_kept f g test (y ∷ ys) x (inl e) a b = kept_step f g test y ys (f y) (inl (subst (λ z. (f z && test (g z)) ≡ true) e (and_from _ _ a b))) refl
any_kept f g test (y ∷ ys) x (inr i) a b = kept_step f g test y ys (f y) (inr (any_kept f g test ys x i a b)) refl

pub any_joined : {X Y : Type 0} (g : X → List Y) (test : Y → Bool) (xs : List X) (x : X) → In x xs → list_any test (g x) ≡ true → list_any test (flat_map g xs) ≡ true
any_joined g test [] x i e = absurd i
any_joined g test (y ∷ ys) x (inl q) e = list_any-append test (g y) (flat_map g ys) ∙ or_left _ _ (subst (λ z. list_any test (g z) ≡ true) q e)
any_joined g test (y ∷ ys) x (inr i) e = list_any-append test (g y) (flat_map g ys) ∙ or_right (list_any test (g y)) _ (any_joined g test ys x i e)

-- a test that a transaction of the list passes
pub any_txn : (f : Txn → Bool) (ts : List Txn) (t : Txn) → f t ≡ true → has_txn ts t ≡ true → list_any f ts ≡ true
any_txn f ts t e i = let a = any_in (is_txn t) ts i in in_any f ts a.0 a.1 (subst (λ z. f z ≡ true) (sym (same_txn a.0 t a.2)) e)

-- and the other way round: whose image passes
unkept_step : {X Y : Type 0} (f : X → Bool) (g : X → Y) (test : Y → Bool) (y : X) (ys : List X) (b : Bool) → f y ≡ b → (list_any test (map g (filter f ys)) ≡ true → (x : X) × In x ys × (f x ≡ true) × (test (g x) ≡ true)) →
    list_any test (map g (cond b (y ∷ filter f ys) (filter f ys))) ≡ true → (x : X) × ((x ≡ y) ⊎ In x ys) × (f x ≡ true) × (test (g x) ≡ true)
unkept_step f g test y ys true q rest e = elim (cases_Bool (test (g y))) [
  | inl a ↦ (y, inl refl, q, a)
  | inr a ↦ let r = rest (grind (arith, common_steps, e, a)) in (r.0, inr r.1, r.2, r.3)
]
unkept_step f g test y ys false q rest e = let r = rest e in (r.0, inr r.1, r.2, r.3)

pub kept_any : {X Y : Type 0} (f : X → Bool) (g : X → Y) (test : Y → Bool) (xs : List X) → list_any test (map g (filter f xs)) ≡ true → (x : X) × In x xs × (f x ≡ true) × (test (g x) ≡ true)
kept_any f g test [] e = absurd (true≢false (sym e))
kept_any f g test (y ∷ ys) e = unkept_step f g test y ys (f y) refl (kept_any f g test ys) e

pub joined_any : {X Y : Type 0} (g : X → List Y) (test : Y → Bool) (xs : List X) → list_any test (flat_map g xs) ≡ true → (x : X) × In x xs × (list_any test (g x) ≡ true)
joined_any g test [] e = absurd (true≢false (sym e))
joined_any g test (y ∷ ys) e = elim (cases_Bool (list_any test (g y))) [
  | inl a ↦ (y, inl refl, a)
  | inr a ↦ let r = joined_any g test ys (sym (ap (λ b. b || list_any test (flat_map g ys)) a) ∙ (sym (list_any-append test (g y) (flat_map g ys)) ∙ e)) in (r.0, inr r.1, r.2)
]
