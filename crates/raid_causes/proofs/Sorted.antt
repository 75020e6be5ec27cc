-- Journals whose clocks rise have an order of all their steps.
use Rattle.std.proofs.Common.{◌≡◌, ◌≢◌, ℕ, ◌<◌, ◌≤◌, ◌==◌, nat_le, cond, Bool, true, false, List, [], ◌∷◌, length, map, All, inl, inr, arith, sym, ap, subst, ◌∙◌, refl}
use Rattle.std.specs.Prelude.{AllPairs, slice_index_or}
use Rattle.std.proofs.lemmas.Bool.{cases_eq}
use Rattle.std.proofs.lemmas.List.Elements.{All-nil, All-cons, All-head, All-tail, All-weaker}
use Rattle.std.proofs.lemmas.List.Kept.{AllPairs-cons}
use Rattle.raid_message.specs.declared.letter.Pick.{Pick}
use Rattle.raid_message.specs.declared.letter.Step.{Step}
use Rattle.raid_merge.specs.Merged.{IsRising, of, pick_of}
use Rattle.raid_merge.specs.Gathered.{flat}
use Rattle.raid_merge.proofs.Flat.{choose_same, choose_other, of-flat}
use Rattle.raid_merge.proofs.Only.{pairs_head, pairs_tail}
use Rattle.raid_causes.specs.Order.{IsOrder}
use Rattle.raid_causes.proofs.Lists.{below_or_not, past}
use Rattle.raid_causes.proofs.Causal.{NoLater}

le_is : (a b : ℕ) → nat_le a b ≡ true → a ≤ b
le_is a b q = grind (arith, q)

le_not : (a b : ℕ) → nat_le a b ≡ false → b < a
le_not a b q = grind (arith, q)

-- a step in front of all that have its clock or a larger one
abbrev insert : ℕ × Step → List (ℕ × Step) → List (ℕ × Step)
insert x [] = x ∷ []
insert x (y ∷ ys) = cond (nat_le x.1.clock y.1.clock) (x ∷ y ∷ ys) (y ∷ insert x ys)

abbrev sorted : List (ℕ × Step) → List (ℕ × Step)
sorted [] = []
sorted (x ∷ xs) = insert x (sorted xs)

insert_other : (x : ℕ × Step) (k : ℕ) (ys : List (ℕ × Step)) → x.0 ≢ k → of k (insert x ys) ≡ of k ys
insert_other x k [] differ = choose_other x.0 k (x.1 ∷ []) [] differ
insert_other x k (y ∷ ys) differ = go (nat_le x.1.clock y.1.clock) (insert_other x k ys differ) where
  go : (b : Bool) → of k (insert x ys) ≡ of k ys → of k (cond b (x ∷ y ∷ ys) (y ∷ insert x ys)) ≡ of k (y ∷ ys)
  go true e = choose_other x.0 k (x.1 ∷ of k (y ∷ ys)) (of k (y ∷ ys)) differ
  go false e = ap (λ zs. cond (y.0 == k) (y.1 ∷ zs) zs) e

insert_own : (x : ℕ × Step) (ys : List (ℕ × Step)) → All (λ s. x.1.clock < s.clock) (of x.0 ys) → of x.0 (insert x ys) ≡ x.1 ∷ of x.0 ys
insert_own x [] above = choose_same x.0 (x.1 ∷ []) []
insert_own x (y ∷ ys) above = go (nat_le x.1.clock y.1.clock) refl (insert_own x ys) where
  go : (b : Bool) → nat_le x.1.clock y.1.clock ≡ b → (All (λ s. x.1.clock < s.clock) (of x.0 ys) → of x.0 (insert x ys) ≡ x.1 ∷ of x.0 ys) → of x.0 (cond b (x ∷ y ∷ ys) (y ∷ insert x ys)) ≡ x.1 ∷ of x.0 (y ∷ ys)
  go true e rest = choose_same x.0 (x.1 ∷ of x.0 (y ∷ ys)) (of x.0 (y ∷ ys))
  go false e rest =
      let less : y.1.clock < x.1.clock = le_not x.1.clock y.1.clock e in
      let differ : y.0 ≢ x.0 = λ q.
      let mine : of x.0 (y ∷ ys) ≡ y.1 ∷ of x.0 ys = subst (λ k. cond (y.0 == k) (y.1 ∷ of k ys) (of k ys) ≡ y.1 ∷ of k ys) q (choose_same y.0 (y.1 ∷ of y.0 ys) (of y.0 ys)) in
      let more : x.1.clock < y.1.clock = All-head (λ (s : Step). x.1.clock < s.clock) y.1 (of x.0 ys) (subst (All (λ (s : Step). x.1.clock < s.clock)) mine above) in
      omega (arith, less, more) in
      let skip : (zs : List (ℕ × Step)) → of x.0 (y ∷ zs) ≡ of x.0 zs = λ zs. choose_other y.0 x.0 (y.1 ∷ of x.0 zs) (of x.0 zs) differ in
      skip (insert x ys) ∙ rest (subst (All (λ (s : Step). x.1.clock < s.clock)) (skip ys) above) ∙ ap (λ zs. x.1 ∷ zs) (sym (skip ys))

insert_all : (P : ℕ × Step → Type 0) (x : ℕ × Step) (ys : List (ℕ × Step)) → P x → All P ys → All P (insert x ys)
insert_all P x [] p a = All-cons P x [] p a
insert_all P x (y ∷ ys) p a = go (nat_le x.1.clock y.1.clock) (insert_all P x ys p (All-tail P y ys a)) where
  go : (b : Bool) → All P (insert x ys) → All P (cond b (x ∷ y ∷ ys) (y ∷ insert x ys))
  go true rest = All-cons P x (y ∷ ys) p a
  go false rest = All-cons P y (insert x ys) (All-head P y ys a) rest

insert_rises : (x : ℕ × Step) (ys : List (ℕ × Step)) → AllPairs NoLater ys → AllPairs NoLater (insert x ys)
insert_rises x [] o = AllPairs-cons NoLater x [] (All-nil (NoLater x)) o
insert_rises x (y ∷ ys) o = go (nat_le x.1.clock y.1.clock) refl (insert_rises x ys (pairs_tail NoLater y ys o)) where
  go : (b : Bool) → nat_le x.1.clock y.1.clock ≡ b → AllPairs NoLater (insert x ys) → AllPairs NoLater (cond b (x ∷ y ∷ ys) (y ∷ insert x ys))
  go true e rest =
      let le : x.1.clock ≤ y.1.clock = le_is x.1.clock y.1.clock e in
      AllPairs-cons NoLater x (y ∷ ys) (All-cons (NoLater x) y ys le (All-weaker (NoLater y) (NoLater x) (λ z h. omega (arith, h, le)) ys (pairs_head NoLater y ys o))) o
  go false e rest =
      let less : y.1.clock < x.1.clock = le_not x.1.clock y.1.clock e in
      AllPairs-cons NoLater y (insert x ys) (insert_all (NoLater y) x ys (omega (arith, less)) (pairs_head NoLater y ys o)) rest

sorted_rises : (xs : List (ℕ × Step)) → AllPairs NoLater (sorted xs)
sorted_rises [] = λ i j d a b. absurd (omega (arith, b))
sorted_rises (x ∷ xs) = insert_rises x (sorted xs) (sorted_rises xs)

abbrev Before : Step → Step → Type 0
Before a b = a.clock < b.clock

rest_rises : (x : ℕ × Step) (xs : List (ℕ × Step)) (k : ℕ) → IsRising (of k (x ∷ xs)) → IsRising (of k xs)
rest_rises x xs k r = go (x.0 == k) r where
  go : (b : Bool) → IsRising (cond b (x.1 ∷ of k xs) (of k xs)) → IsRising (of k xs)
  go true r = pairs_tail Before x.1 (of k xs) r
  go false r = r

sorted_of : (xs : List (ℕ × Step)) → ((k : ℕ) → IsRising (of k xs)) → (k : ℕ) → of k (sorted xs) ≡ of k xs
sorted_of [] r k = refl
sorted_of (x ∷ xs) r k =
    let rest : (m : ℕ) → of m (sorted xs) ≡ of m xs = sorted_of xs (λ m. rest_rises x xs m (r m)) in
    let mine : IsRising (x.1 ∷ of x.0 xs) = subst IsRising (choose_same x.0 (x.1 ∷ of x.0 xs) (of x.0 xs)) (r x.0) in
    let above : All (λ s. x.1.clock < s.clock) (of x.0 (sorted xs)) = subst (All (λ (s : Step). x.1.clock < s.clock)) (sym (rest x.0)) (pairs_head Before x.1 (of x.0 xs) mine) in
    elim (cases_eq x.0 k) [
      | inl q ↦
          subst (λ m. of m (sorted (x ∷ xs)) ≡ of m (x ∷ xs)) q
          (insert_own x (sorted xs) above ∙ ap (λ zs. x.1 ∷ zs) (rest x.0) ∙ sym (choose_same x.0 (x.1 ∷ of x.0 xs) (of x.0 xs)))
      | inr q ↦ insert_other x k (sorted xs) q ∙ rest k ∙ sym (choose_other x.0 k (x.1 ∷ of k xs) (of k xs) q)
    ]

pub an_order : (journals : List (List Step)) → All IsRising journals → (picks : List Pick) × IsOrder journals picks
an_order journals rising =
    let is : (k : ℕ) → of k (flat 0 journals) ≡ slice_index_or journals k [] = λ k. of-flat journals 0 k k (omega arith) in
    let each : (k : ℕ) → IsRising (slice_index_or journals k []) = λ k. elim (below_or_not k (length journals)) [
      | inl lt ↦ rising k [] lt
      | inr le ↦ subst IsRising (sym (past journals k [] le)) (λ i j d a b. absurd (omega (arith, b)))
    ] in
    let steps : List (ℕ × Step) = sorted (flat 0 journals) in (
      map pick_of steps,
      record {
        steps = steps;
        each = λ k. sorted_of (flat 0 journals) (λ m. subst IsRising (sym (is m)) (each m)) k ∙ is k;
        rising = sorted_rises (flat 0 journals);
        picks_are = refl;
      },
    )
