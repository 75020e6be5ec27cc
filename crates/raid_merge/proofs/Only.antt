-- There is one merge of the journals.
use Rattle.std.proofs.Common.{◌≡◌, ◌⊎◌, ℕ, suc, ◌==◌, cond, Bool, true, false, List, [], ◌∷◌, map, refl, sym, ◌∙◌, ap, ap₂, subst, arith, All, inl, inr, Result, IfOk}
use Rattle.std.specs.Prelude.{AllPairs}
use Rattle.std.proofs.lemmas.Bool.{eqb-true}
use Rattle.std.proofs.lemmas.List.Elements.{All-head}
use Rattle.std.proofs.lemmas.Result.{IfOk-weaker}
use Rattle.raid_message.specs.declared.letter.Step.{Step}
use Rattle.raid_message.specs.declared.letter.Pick.{Pick}
use Rattle.raid_merge.specs.Merged.{of, ComesBefore, pick_of, IsMerge}
use Rattle.raid_merge.proofs.Flat.{choose_same}
use Rattle.raid_merge.proofs.Unique.{all_of}

abbrev numbered : ℕ → Step → ℕ × Step
numbered k s = (k, s)

pub pairs_head : {X : Type 0} (R : X → X → Type 0) (x : X) (xs : List X) → AllPairs R (x ∷ xs) → All (R x) xs
pairs_head R x xs o = λ i d h. o 0 (suc i) d (omega arith) (omega arith)

pub pairs_tail : {X : Type 0} (R : X → X → Type 0) (x : X) (xs : List X) → AllPairs R (x ∷ xs) → AllPairs R xs
pairs_tail R x xs o = λ i j d a b. o (suc i) (suc j) d (omega arith) (omega arith)

no_step : {X : Type 0} (x : X) (xs : List X) → [] ≡ x ∷ xs → ⊥
no_step x xs e = cc e

-- a step that is in a list in order is its first, or the first comes before it
first_or_later : (k : ℕ) (s : Step) (r : List Step) (y : ℕ × Step) (ys : List (ℕ × Step)) → AllPairs ComesBefore (y ∷ ys) → of k (y ∷ ys) ≡ s ∷ r → ((k, s) ≡ y) ⊎ ComesBefore y (k, s)
first_or_later k s r y ys o e = go (y.0 == k) refl e where
  go : (b : Bool) → (y.0 == k) ≡ b → cond b (y.1 ∷ of k ys) (of k ys) ≡ s ∷ r → ((k, s) ≡ y) ⊎ ComesBefore y (k, s)
  go true q e = let own : s ≡ y.1 = cc e in inl (ap₂ numbered (sym (eqb-true y.0 k q)) own)
  go false q e =
      let later : All (λ s. ComesBefore y (k, s)) (of k ys) = all_of (λ n s. ComesBefore y (n, s)) k ys (pairs_head ComesBefore y ys o) in
      inr (All-head (λ s. ComesBefore y (k, s)) s r (subst (λ xs. All (λ s. ComesBefore y (k, s)) xs) e later))

not_both : (a b : ℕ × Step) → ComesBefore a b → ComesBefore b a → ⊥
not_both a b (inl p) (inl q) = omega (arith, p, q)
not_both a b (inl p) (inr q) = omega (arith, p, q.0)
not_both a b (inr p) (inl q) = omega (arith, p.0, q)
not_both a b (inr p) (inr q) = omega (arith, p.1, q.1)

rest_same : (k : ℕ) (x : ℕ × Step) (xs ys : List (ℕ × Step)) → of k (x ∷ xs) ≡ of k (x ∷ ys) → of k xs ≡ of k ys
rest_same k x xs ys e = go (x.0 == k) e where
  go : (b : Bool) → cond b (x.1 ∷ of k xs) (of k xs) ≡ cond b (x.1 ∷ of k ys) (of k ys) → of k xs ≡ of k ys
  go true e = cc e
  go false e = e

the_same : (x y : ℕ × Step) → (x ≡ y) ⊎ ComesBefore y x → (y ≡ x) ⊎ ComesBefore x y → x ≡ y
the_same x y (inl e) b = e
the_same x y (inr a) (inl e) = sym e
the_same x y (inr a) (inr b) = absurd (not_both x y b a)

-- two lists in order with the same steps of each server are one
one : (xs ys : List (ℕ × Step)) → AllPairs ComesBefore xs → AllPairs ComesBefore ys → ((k : ℕ) → of k xs ≡ of k ys) → xs ≡ ys
one [] [] p q h = refl
one [] (y ∷ ys) p q h = absurd (no_step y.1 (of y.0 ys) (h y.0 ∙ choose_same y.0 (y.1 ∷ of y.0 ys) (of y.0 ys)))
one (x ∷ xs) [] p q h = absurd (no_step x.1 (of x.0 xs) (sym (h x.0) ∙ choose_same x.0 (x.1 ∷ of x.0 xs) (of x.0 xs)))
one (x ∷ xs) (y ∷ ys) p q h =
    let here : of x.0 (y ∷ ys) ≡ x.1 ∷ of x.0 xs = sym (h x.0) ∙ choose_same x.0 (x.1 ∷ of x.0 xs) (of x.0 xs) in
    let there : of y.0 (x ∷ xs) ≡ y.1 ∷ of y.0 ys = h y.0 ∙ choose_same y.0 (y.1 ∷ of y.0 ys) (of y.0 ys) in
    let same : x ≡ y = the_same x y (first_or_later x.0 x.1 (of x.0 xs) y ys q here) (first_or_later y.0 y.1 (of y.0 ys) x xs p there) in
    let rest : xs ≡ ys = one xs ys (pairs_tail ComesBefore x xs p) (pairs_tail ComesBefore y ys q) (λ k. rest_same k x xs ys (h k ∙ ap (λ z. of k (z ∷ ys)) (sym same))) in
    ap₂ ◌∷◌ same rest

pub only : (js : List (List Step)) (ps qs : List Pick) → IsMerge js ps → IsMerge js qs → qs ≡ ps
only js ps qs m n = n.picks_are ∙ (ap (λ ts. map pick_of ts) (one n.steps m.steps n.ordered m.ordered (λ k. n.each k ∙ sym (m.each k))) ∙ sym m.picks_are)

pub only_ok : {E : Type 0} (r : Result (List Pick) E) (js : List (List Step)) → IfOk r (IsMerge js) → IfOk r (λ picks. (other : List Pick) → IsMerge js other → other ≡ picks)
only_ok r js m = IfOk-weaker r (IsMerge js) (λ picks. (other : List Pick) → IsMerge js other → other ≡ picks) (λ picks is other also. only js picks other is also) m
