-- What acts earlier stands at the front, where numbers ascend.
use Rattle.std.proofs.Common.{◌≡◌, ℕ, zero, suc, nat_lt, ◌<◌, Bool, true, false, ◌||◌, cond, List, [], ◌∷◌, arith, refl, sym, ap, ◌∙◌, inl, inr}
use Rattle.std.specs.List.{list_any, list_all, take_while}
use Rattle.std.proofs.lemmas.Bool.{true≢false, cases_Bool, and_parts, and_from, ltb-true, lt-ltb}
use Rattle.std.proofs.lemmas.List.Sums.{take_while-cons}
use Rattle.raid_rules.specs.declared.conflict.Action.{Action}
use Rattle.raid_rules.proofs.Txns.{not_true}
use Rattle.raid_conflict.specs.Arrange.{earliest}
use Rattle.raid_conflict.proofs.Latest.{later, Orderly}

-- what is found at the front is in the list
pub any_earliest : (p : Action → Bool) (at : ℕ) (xs : List Action) → list_any p (earliest at xs) ≡ true → list_any p xs ≡ true
any_earliest p at [] e = e
any_earliest p at (a ∷ xs) e = go (nat_lt a.at at) (any_earliest p at xs) (sym (ap (list_any p) (take_while-cons (λ b. nat_lt b.at at) a xs)) ∙ e)
  where
    either : (b c d : Bool) → (c ≡ true → d ≡ true) → (b || c) ≡ true → (b || d) ≡ true
    either true c d h f = refl
    either false c d h f = h f

    go : (b : Bool) → (list_any p (earliest at xs) ≡ true → list_any p xs ≡ true) → list_any p (cond b (a ∷ earliest at xs) []) ≡ true → list_any p (a ∷ xs) ≡ true
    go true h f = either (p a) (list_any p (earliest at xs)) (list_any p xs) h f
    go false h f = absurd (true≢false (sym f))

none_at_all : (p : Action → Bool) → ((b : Action) → p b ≡ false) → (xs : List Action) → list_any p xs ≡ false
none_at_all p h [] = refl
none_at_all p h (a ∷ xs) = ap (λ b. b || list_any p xs) (h a) ∙ none_at_all p h xs

module _ (k : ℕ) (p : Action → Bool) (early : (b : Action) → p b ≡ true → nat_lt b.at (suc k) ≡ true) where
  never_late : (b : Action) → later k b ≡ true → p b ≡ false
  never_late b l = not_true (p b) (λ e. absurd (omega (arith, ltb-true k b.at l, ltb-true b.at (suc k) (early b e))))

  none_late : (xs : List Action) → list_all (later k) xs ≡ true → list_any p xs ≡ false
  none_late [] h = refl
  none_late (a ∷ xs) h =
      let q = and_parts (later k a) (list_all (later k) xs) h in
      ap (λ b. b || list_any p xs) (never_late a q.0) ∙ none_late xs q.1

  enough : (xs : List Action) → Orderly k xs → list_any p (earliest (suc k) xs) ≡ list_any p xs
  enough [] o = refl
  enough (a ∷ xs) o = ap (list_any p) (take_while-cons (λ b. nat_lt b.at (suc k)) a xs) ∙ elim (cases_Bool (nat_lt a.at (suc k))) [
    | inl q ↦ ap (λ b. list_any p (cond b (a ∷ earliest (suc k) xs) [])) q ∙ ap (λ b. p a || b) (enough xs o.1)
    | inr q ↦
        let late : later k a ≡ true = lt-ltb k a.at (omega (arith, past k a.at q)) in
        ap (λ b. list_any p (cond b (a ∷ earliest (suc k) xs) [])) q ∙ sym (none_late (a ∷ xs) (all_late late (o.0 late)))
  ]
    where
      past : (m n : ℕ) → nat_lt n (suc m) ≡ false → m < n
      past m n f = grind (arith, f)

      all_late : later k a ≡ true → list_all (later k) xs ≡ true → list_all (later k) (a ∷ xs) ≡ true
      all_late l r = and_from (later k a) (list_all (later k) xs) l r

pub earliest_enough : (at : ℕ) (p : Action → Bool) → ((b : Action) → p b ≡ true → nat_lt b.at at ≡ true) → (xs : List Action) → ((k : ℕ) → Orderly k xs) → list_any p (earliest at xs) ≡ list_any p xs
earliest_enough zero p early xs o = none_at_all p never (earliest zero xs) ∙ sym (none_at_all p never xs)
  where
    never : (b : Action) → p b ≡ false
    never b = not_true (p b) (λ e. absurd (omega (arith, ltb-true b.at zero (early b e))))
earliest_enough (suc k) p early xs o = enough k p early xs (o k)
