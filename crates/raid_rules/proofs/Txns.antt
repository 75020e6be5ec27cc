-- Lists of transactions: how many pass a test, what stands once, and what stands before what.
use Rattle.std.proofs.Common.{◌≡◌, ℕ, zero, suc, ◌+◌, ◌<◌, ◌≤◌, inl, inr, Bool, true, false, not, ◌&&◌, ◌||◌, ◌==◌, cond, List, [], ◌∷◌, ◌++◌, length, arith, sym, ◌∙◌, ap, subst, refl, Option, Some, None}
use Rattle.std.specs.Prelude.{find}
use Rattle.std.specs.List.{list_any, list_all, filter}
use Rattle.std.proofs.lemmas.Bool.{true≢false, cases_Bool, and_parts, and_from, or_left, eqb-true}
use Rattle.std.proofs.lemmas.Grind.{common_steps}
use Rattle.std.proofs.lemmas.List.Folds.{list_any-append}
use Rattle.raid_base.specs.declared.names.Txn.{Txn}
use Rattle.raid_base.specs.Names.{is_txn, has_txn}
use Rattle.raid_rules.specs.Committed.{AllOnce, is_before}
use Rattle.raid_rules.proofs.Push.{same_txn}
use Rattle.raid_rules.proofs.Reach.{many, many_below}

pub not_true : (b : Bool) → (b ≡ true → ⊥) → b ≡ false
not_true true h = absurd (h refl)
not_true false h = refl

pub eq_self : (k l : ℕ) → k ≡ l → (k == l) ≡ true
eq_self k l e = grind (arith, common_steps, e)

pub or_right : (b c : Bool) → c ≡ true → (b || c) ≡ true
or_right true c e = refl
or_right false c e = e

pub off : (b : Bool) → not b ≡ true → b ≡ false
off true e = absurd (true≢false (sym e))
off false e = refl

abbrev weight : Bool → ℕ
weight b = cond b 1 0

-- of two tests the stronger passes no more
pub many_mono : (f g : Txn → Bool) → ((x : Txn) → g x ≡ true → f x ≡ true) → (xs : List Txn) → many g xs ≤ many f xs
many_mono f g h [] = omega arith
many_mono f g h (x ∷ xs) = go (g x) (f x) (h x) (many_mono f g h xs)
  where
    go : (b c : Bool) → (b ≡ true → c ≡ true) → many g xs ≤ many f xs → cond b 1 0 + many g xs ≤ cond c 1 0 + many f xs
    go true true i r = omega (arith, r)
    go true false i r = absurd (true≢false (sym (i refl)))
    go false true i r = omega (arith, r)
    go false false i r = omega (arith, r)

-- and fewer where one of the list passes the weaker alone
pub many_less : (f g : Txn → Bool) → ((x : Txn) → g x ≡ true → f x ≡ true) → (t : Txn) → f t ≡ true → g t ≡ false → (xs : List Txn) → has_txn xs t ≡ true → many g xs < many f xs
many_less f g h t e d [] i = absurd (true≢false (sym i))
many_less f g h t e d (x ∷ xs) i = elim (cases_Bool (x.0 == t.0)) [
  | inl q ↦ let s = same_txn x t q in
      let a : weight (f x) ≡ 1 = ap weight (ap f s ∙ e) in
      let b : weight (g x) ≡ 0 = ap weight (ap g s ∙ d) in
      let r = many_mono f g h xs in
      omega (arith, a, b, r)
  | inr q ↦ let r = many_less f g h t e d xs (grind (arith, common_steps, i, q)) in more (g x) (f x) (h x) r
]
  where
    more : (b c : Bool) → (b ≡ true → c ≡ true) → many g xs < many f xs → cond b 1 0 + many g xs < cond c 1 0 + many f xs
    more true true i r = omega (arith, r)
    more true false i r = absurd (true≢false (sym (i refl)))
    more false true i r = omega (arith, r)
    more false false i r = omega (arith, r)

-- where some pass, one does
pub many_some : (f : Txn → Bool) (xs : List Txn) → 0 < many f xs → (u : Txn) × (has_txn xs u ≡ true) × (f u ≡ true)
many_some f [] l = absurd (omega (arith, l))
many_some f (x ∷ xs) l = elim (cases_Bool (f x)) [
  | inl e ↦ (x, or_left _ _ (eq_self x.0 x.0 refl), e)
  | inr e ↦ let g : weight (f x) ≡ 0 = ap weight e in let r = many_some f xs (omega (arith, l, g)) in (r.0, grind (arith, common_steps, r.1), r.2)
]

-- where one passes, some do
pub many_any : (f : Txn → Bool) (xs : List Txn) (t : Txn) → has_txn xs t ≡ true → f t ≡ true → 0 < many f xs
many_any f [] t h e = absurd (true≢false (sym h))
many_any f (x ∷ xs) t h e = elim (cases_Bool (x.0 == t.0)) [
  | inl q ↦ let g : weight (f x) ≡ 1 = ap weight (ap f (same_txn x t q) ∙ e) in omega (arith, g)
  | inr q ↦ let r : 0 < many f xs = many_any f xs t (grind (arith, common_steps, h, q)) e in omega (arith, r)
]

-- isn't in the list
abbrev pub out : List Txn → Txn → Bool
out listed u = not (has_txn listed u)

-- what isn't in a longer list isn't in the list
pub out_push : (listed : List Txn) (t u : Txn) → out (listed ++ t ∷ []) u ≡ true → out listed u ≡ true
out_push listed t u h = grind (arith, common_steps, h, list_any-append (is_txn u) listed (t ∷ []))

pub out_cons : (listed : List Txn) (t u : Txn) → out (t ∷ listed) u ≡ true → out listed u ≡ true
out_cons listed t u h = grind (arith, common_steps, h)

pub has_end : (xs : List Txn) (t : Txn) → has_txn (xs ++ t ∷ []) t ≡ true
has_end xs t = grind (arith, common_steps, list_any-append (is_txn t) xs (t ∷ []))

-- all are in the list where none is out of it
pub all_in : (listed xs : List Txn) → many (out listed) xs ≡ 0 → list_all (has_txn listed) xs ≡ true
all_in listed [] h = refl
all_in listed (x ∷ xs) h = go (has_txn listed x) h (all_in listed xs)
  where
    go : (b : Bool) → cond (not b) 1 0 + many (out listed) xs ≡ 0 → (many (out listed) xs ≡ 0 → list_all (has_txn listed) xs ≡ true) → (b && list_all (has_txn listed) xs) ≡ true
    go true e r = r (omega (arith, e))
    go false e r = absurd (omega (arith, e))

-- then each is
pub each_in : (listed xs : List Txn) (t : Txn) → list_all (has_txn listed) xs ≡ true → has_txn xs t ≡ true → has_txn listed t ≡ true
each_in listed [] t a h = absurd (true≢false (sym h))
each_in listed (x ∷ xs) t a h =
    let q = and_parts (has_txn listed x) (list_all (has_txn listed) xs) a in
    elim (cases_Bool (x.0 == t.0)) [
      | inl e ↦ ap (has_txn listed) (sym (same_txn x t e)) ∙ q.0
      | inr e ↦ each_in listed xs t q.1 (grind (arith, common_steps, h, e))
    ]

-- a search
some_is : (a b : Txn) → Some a ≡ Some b → a ≡ b
some_is a b e = cc e

none_is : (a : Txn) → None ≡ Some a → ⊥
none_is a e = cc e

-- what is found passes, and is in the list
pub found : (f : Txn → Bool) (xs : List Txn) (y : Txn) → find f xs ≡ Some y → (f y ≡ true) × (has_txn xs y ≡ true)
found f [] y e = absurd (none_is y e)
found f (x ∷ xs) y e = go (f x) refl (found f xs y) e
  where
    go : (b : Bool) → f x ≡ b → (find f xs ≡ Some y → (f y ≡ true) × (has_txn xs y ≡ true)) → cond b (Some x) (find f xs) ≡ Some y → (f y ≡ true) × ((is_txn y x || has_txn xs y) ≡ true)
    go true p r q = (subst (λ z. f z ≡ true) (some_is _ _ q) p, or_left _ _ (eq_self x.0 y.0 (ap (λ (z : Txn). z.0) (some_is x y q))))
    go false p r q = let k = r q in (k.0, or_right _ _ k.1)

-- where none is found, none passes
pub not_found : (f : Txn → Bool) (xs : List Txn) → find f xs ≡ None → (t : Txn) → has_txn xs t ≡ true → f t ≡ false
not_found f [] e t h = absurd (true≢false (sym h))
not_found f (x ∷ xs) e t h = go (f x) refl e (not_found f xs)
  where
    go : (b : Bool) → f x ≡ b → cond b (Some x) (find f xs) ≡ None → (find f xs ≡ None → (t : Txn) → has_txn xs t ≡ true → f t ≡ false) → f t ≡ false
    go true p q r = absurd (none_is x (sym q))
    go false p q r = elim (cases_Bool (x.0 == t.0)) [
      | inl s ↦ ap f (sym (same_txn x t s)) ∙ p
      | inr s ↦ r q t (grind (arith, common_steps, h, s))
    ]

-- who is kept passes, and was there
pub has_kept : (test : Txn → Bool) (t : Txn) (xs : List Txn) → has_txn (filter test xs) t ≡ (test t && has_txn xs t)
has_kept test t [] = none (test t)
  where
    none : (b : Bool) → false ≡ (b && false)
    none true = refl
    none false = refl
has_kept test t (x ∷ xs) = go (test x) (is_txn t x) refl refl (has_kept test t xs)
  where
    is_so : is_txn t x ≡ true → test t ≡ test x
    is_so q = ap test (sym (same_txn x t q))

    go : (b d : Bool) → test x ≡ b → is_txn t x ≡ d → has_txn (filter test xs) t ≡ (test t && has_txn xs t) → has_txn (cond b (x ∷ filter test xs) (filter test xs)) t ≡ (test t && (d || has_txn xs t))
    go true true e q h = or_left _ _ q ∙ sym (ap (λ b. b && true) (is_so q ∙ e))
    go true false e q h = ap (λ b. b || has_txn (filter test xs) t) q ∙ h
    go false true e q h = h ∙ ap (λ b. b && has_txn xs t) (is_so q ∙ e) ∙ sym (ap (λ b. b && true) (is_so q ∙ e))
    go false false e q h = h

-- where none out of it is found, all are in the list
pub none_out : (listed xs : List Txn) → find (out listed) xs ≡ None → list_all (has_txn listed) xs ≡ true
none_out listed [] e = refl
none_out listed (x ∷ xs) e = go (has_txn listed x) e (none_out listed xs)
  where
    go : (b : Bool) → cond (not b) (Some x) (find (out listed) xs) ≡ None → (find (out listed) xs ≡ None → list_all (has_txn listed) xs ≡ true) → (b && list_all (has_txn listed) xs) ≡ true
    go true e r = r e
    go false e r = absurd (none_is x (sym e))

-- one more at the end stands once, where it is new
pub once_push : (xs : List Txn) (t : Txn) → AllOnce xs → has_txn xs t ≡ false → AllOnce (xs ++ t ∷ [])
once_push [] t d h = (refl, tt)
once_push (x ∷ xs) t d h =
    let a : (t.0 == x.0) ≡ false = not_true _ (λ e. true≢false (sym (or_left _ _ (eq_self x.0 t.0 (sym (eqb-true t.0 x.0 e)))) ∙ h)) in
    let b : has_txn xs t ≡ false = not_true _ (λ e. true≢false (sym (grind (arith, common_steps, e)) ∙ h)) in
    (grind (arith, common_steps, a, d.0, list_any-append (is_txn x) xs (t ∷ [])), once_push xs t d.1 b)

-- what stands before what stays so with one more at the end
pub before_push : (xs : List Txn) (t u v : Txn) → is_before xs t u ≡ true → is_before (xs ++ v ∷ []) t u ≡ true
before_push [] t u v h = absurd (true≢false (sym h))
before_push (x ∷ xs) t u v h = elim (cases_Bool (is_before xs t u)) [
  | inl q ↦ or_right (is_txn t x && has_txn (xs ++ v ∷ []) u) (is_before (xs ++ v ∷ []) t u) (before_push xs t u v q)
  | inr q ↦ or_left (is_txn t x && has_txn (xs ++ v ∷ []) u) (is_before (xs ++ v ∷ []) t u) (grind (arith, common_steps, h, q, list_any-append (is_txn u) xs (v ∷ [])))
]

-- each of a list stands before one more at its end
pub before_last : (xs : List Txn) (t u : Txn) → has_txn xs t ≡ true → is_before (xs ++ u ∷ []) t u ≡ true
before_last [] t u h = absurd (true≢false (sym h))
before_last (x ∷ xs) t u h = elim (cases_Bool (x.0 == t.0)) [
  | inl q ↦ or_left _ _ (and_from _ _ q (has_end xs u))
  | inr q ↦ or_right (is_txn t x && has_txn (xs ++ u ∷ []) u) (is_before (xs ++ u ∷ []) t u) (before_last xs t u (grind (arith, common_steps, h, q)))
]

-- both of them are in the list
pub before_has : (xs : List Txn) (t u : Txn) → is_before xs t u ≡ true → (has_txn xs t ≡ true) × (has_txn xs u ≡ true)
before_has [] t u h = absurd (true≢false (sym h))
before_has (x ∷ xs) t u h = elim (cases_Bool (is_before xs t u)) [
  | inl q ↦ let r = before_has xs t u q in (or_right _ _ r.0, or_right _ _ r.1)
  | inr q ↦ let r = and_parts (is_txn t x) (has_txn xs u) (grind (arith, common_steps, h, q)) in (or_left _ _ r.0, or_right _ _ r.1)
]

-- where each stands once, nothing stands before itself
pub before_self : (xs : List Txn) (t : Txn) → AllOnce xs → is_before xs t t ≡ true → ⊥
before_self [] t d h = true≢false (sym h)
before_self (x ∷ xs) t d h = elim (cases_Bool (is_before xs t t)) [
  | inl q ↦ before_self xs t d.1 q
  | inr q ↦ let r = and_parts (is_txn t x) (has_txn xs t) (grind (arith, common_steps, h, q)) in true≢false (sym r.1 ∙ ap (has_txn xs) (sym (same_txn x t r.0)) ∙ d.0)
]

-- and before leads on
pub before_before : (xs : List Txn) (t u v : Txn) → AllOnce xs → is_before xs t u ≡ true → is_before xs u v ≡ true → is_before xs t v ≡ true
before_before [] t u v d a b = a
before_before (x ∷ xs) t u v d a b = elim (cases_Bool (is_before xs u v)) [
  | inl q ↦ elim (cases_Bool (is_before xs t u)) [
    | inl p ↦ or_right _ _ (before_before xs t u v d.1 p q)
    | inr p ↦ let r = and_parts (is_txn t x) (has_txn xs u) (grind (arith, common_steps, a, p)) in or_left _ _ (and_from _ _ r.0 (before_has xs u v q).1)
  ]
  | inr q ↦ let r = and_parts (is_txn u x) (has_txn xs v) (grind (arith, common_steps, b, q)) in
      let there : has_txn xs u ≡ true = elim (cases_Bool (is_before xs t u)) [ inl p ↦ (before_has xs t u p).1 | inr p ↦ (and_parts (is_txn t x) (has_txn xs u) (grind (arith, common_steps, a, p))).1 ] in
      absurd (true≢false (sym there ∙ ap (has_txn xs) (sym (same_txn x u r.0)) ∙ d.0))
]
