-- Two lists of the same steps, the one with rising clocks and the other with clocks that don't fall, are one.
use Rattle.std.proofs.Common.{◌≡◌, ℕ, suc, ◌+◌, ◌*◌, ◌<◌, ◌≤◌, ◌==◌, cond, Bool, true, false, ◌&&◌, List, [], ◌∷◌, length, map, get_or, refl, sym, ◌∙◌, ap, ap₂, subst, arith, All, inl, inr, Result, IfOk}
use Rattle.std.specs.Prelude.{AllPairs}
use Rattle.std.specs.List.{sum_by}
use Rattle.std.specs.List.Sorted.{IsPermutation, IsNonDecreasingBy}
use Rattle.std.proofs.lemmas.Bool.{cases_eq, cases_lt, eq-eqb, ne_eqb, eqb-true}
use Rattle.std.proofs.Math.ListN.{get_or-eq_default}
use Rattle.std.proofs.lemmas.List.Elements.{All-nil, All-cons, All-head, All-tail, All-weaker}
use Rattle.std.proofs.lemmas.List.Kept.{AllPairs-cons}
use Rattle.std.proofs.lemmas.List.Sorted.{sum_by-IsPermutation, All-permutation}
use Rattle.std.proofs.lemmas.List.Sums.{sum_by-cons}
use Rattle.std.proofs.lemmas.Result.{IfOk-weaker}
use Rattle.raid_message.specs.declared.letter.Step.{Step}
use Rattle.raid_message.specs.declared.letter.Pick.{Pick}
use Rattle.raid_merge.specs.Merged.{IsRising, of, ComesBefore, pick_of, IsMerge}
use Rattle.raid_merge.specs.Gathered.{flat, key}
use Rattle.raid_merge.proofs.Flat.{of-flat, servers-flat, choose_same}

abbrev total : {X : Type 0} → (X → ℕ) → List X → ℕ
total g [] = 0
total g (x ∷ xs) = g x + total g xs

total_is : {X : Type 0} (g : X → ℕ) (xs : List X) → total g xs ≡ sum_by g xs
total_is g [] = refl
total_is g (x ∷ xs) = rw (sum_by-cons, total_is g xs)

-- what is counted of a list in which nothing passes
none_passes : (p : Step → Bool) (xs : List Step) → All (λ s. p s ≡ false) xs → total (λ s. cond (p s) 1 0) xs ≡ 0
none_passes p [] a = refl
none_passes p (x ∷ xs) a =
    let head : p x ≡ false = All-head (λ s. p s ≡ false) x xs a in
    let rest : total (λ s. cond (p s) 1 0) xs ≡ 0 = none_passes p xs (All-tail (λ s. p s ≡ false) x xs a) in
    let one : ◌≡◌ {A = ℕ} (cond (p x) 1 0) 0 = rw head in
    omega arith

-- the two orders of a list of steps, each by its first
abbrev Strict : List Step → Type 0
Strict [] = Unit {0}
Strict (x ∷ xs) = All (λ s. x.clock < s.clock) xs × Strict xs

abbrev Rises : List Step → Type 0
Rises [] = Unit {0}
Rises (x ∷ xs) = All (λ s. x.clock ≤ s.clock) xs × Rises xs

abbrev is_same : Step → Step → Bool
is_same y s = (s.clock == y.clock) && (s.from == y.from)

and_both : (a b : Bool) → a && b ≡ true → (a ≡ true) × (b ≡ true)
and_both true true e = (refl, refl)
and_both true false e = cc
and_both false b e = cc

abbrev make : ℕ → ℕ → Step
make c f = record { clock = c; from = f }

same_step : (x y : Step) → is_same y x ≡ true → y ≡ x
same_step x y e =
    let both = and_both (x.clock == y.clock) (x.from == y.from) e in
    let c : x.clock ≡ y.clock = eqb-true x.clock y.clock both.0 in
    let f : x.from ≡ y.from = eqb-true x.from y.from both.1 in
    ap₂ make (sym c) (sym f)

itself : (y : Step) → is_same y y ≡ true
itself y = rw (eq-eqb y.clock y.clock refl, eq-eqb y.from y.from refl)

other_clock : (y s : Step) → (s.clock ≡ y.clock → ⊥) → is_same y s ≡ false
other_clock y s h = rw (ne_eqb s.clock y.clock h)

-- y is counted in a list that begins with it, so the other list has it
begins : (x y : Step) (xs ys : List Step) → All (λ s. x.clock < s.clock) xs → ((g : Step → ℕ) → total g (y ∷ ys) ≡ total g (x ∷ xs)) → y.clock ≤ x.clock → y ≡ x
begins x y xs ys s h low =
    let g : Step → ℕ = λ t. cond (is_same y t) 1 0 in
    let none : total g xs ≡ 0 = none_passes (is_same y) xs (All-weaker (λ t. x.clock < t.clock) (λ t. is_same y t ≡ false) (λ t q. other_clock y t (λ e. omega arith)) xs s) in
    let some : g y ≡ 1 = rw (itself y) in
    let all : g y + total g ys ≡ g x + total g xs = h g in
    go (is_same y x) refl (omega arith) where
      go : (b : Bool) → is_same y x ≡ b → 0 < cond b 1 0 → y ≡ x
      go true e p = same_step x y e
      go false e p = absurd (omega arith)

unique : (xs ys : List Step) → Strict xs → Rises ys → ((g : Step → ℕ) → total g ys ≡ total g xs) → ys ≡ xs
unique [] [] s r h = refl
unique [] (y ∷ ys) s r h = let e = h (λ _. 1) in absurd (omega arith)
unique (x ∷ xs) [] s r h = let e = h (λ _. 1) in absurd (omega arith)
unique (x ∷ xs) (y ∷ ys) s r h =
    let g : Step → ℕ = λ t. cond (t.clock == x.clock) 1 0 in
    let high : x.clock < y.clock → ⊥ = λ q.
    let none : total g ys ≡ 0 = none_passes (λ t. t.clock == x.clock) ys (All-weaker (λ t. y.clock ≤ t.clock) (λ t. (t.clock == x.clock) ≡ false) (λ t z. ne_eqb t.clock x.clock (λ e. omega arith)) ys r.0) in
    let other : g y ≡ 0 = rw (ne_eqb y.clock x.clock (λ e. omega arith)) in
    let some : g x ≡ 1 = rw (eq-eqb x.clock x.clock refl) in
    let all : g y + total g ys ≡ g x + total g xs = h g in
    omega arith in
    let first : y ≡ x = begins x y xs ys s.0 h (omega (arith, high)) in
    let rest : (f : Step → ℕ) → total f ys ≡ total f xs = λ f. let all : f y + total f ys ≡ f x + total f xs = h f in let same : f y ≡ f x = ap f first in omega arith in
    ap₂ ◌∷◌ first (unique xs ys s.1 r.1 rest)

-- a journal by its first step
strict : (xs : List Step) → IsRising xs → Strict xs
strict [] r = tt
strict (x ∷ xs) r = ((λ i d h. r 0 (suc i) d (omega arith) (omega arith)), strict xs (λ i j d a b. r (suc i) (suc j) d (omega arith) (omega arith)))

-- what the steps of one server weigh among all
total_steps : (g : Step → ℕ) (k : ℕ) (ts : List (ℕ × Step)) → total g (of k ts) ≡ total (λ t. cond (t.0 == k) (g t.1) 0) ts
total_steps g k [] = refl
total_steps g k (t ∷ ts) = go (t.0 == k) (total_steps g k ts) where
  go : (b : Bool) → total g (of k ts) ≡ total (λ t. cond (t.0 == k) (g t.1) 0) ts → total g (cond b (t.1 ∷ of k ts) (of k ts)) ≡ cond b (g t.1) 0 + total (λ t. cond (t.0 == k) (g t.1) 0) ts
  go true e = ap (λ n. g t.1 + n) e
  go false e = omega arith

-- whatever holds of all steps holds of those of one server
pub all_of : {X : Type 0} (P : ℕ → X → Type 0) (k : ℕ) (ts : List (ℕ × X)) → All (λ t. P t.0 t.1) ts → All (P k) (of k ts)
all_of {X} P k [] a = All-nil (P k)
all_of {X} P k (t ∷ ts) a = go (t.0 == k) refl (All-head (λ (t : ℕ × X). P t.0 t.1) t ts a) (all_of P k ts (All-tail (λ (t : ℕ × X). P t.0 t.1) t ts a)) where
  go : (b : Bool) → (t.0 == k) ≡ b → P t.0 t.1 → All (P k) (of k ts) → All (P k) (cond b (t.1 ∷ of k ts) (of k ts))
  go true e h xs = All-cons (P k) t.1 (of k ts) (subst (λ n. P n t.1) (eqb-true t.0 k e) h) xs
  go false e h xs = xs

ordered_tail : (t : ℕ × Step) (ts : List (ℕ × Step)) → IsNonDecreasingBy key (t ∷ ts) → All (λ u. key t ≤ key u) ts × IsNonDecreasingBy key ts
ordered_tail t ts o = ((λ i d h. o 0 (suc i) d (omega arith) (omega arith)), (λ i j d a b. o (suc i) (suc j) d (omega arith) (omega arith)))

rises : (k : ℕ) (ts : List (ℕ × Step)) → IsNonDecreasingBy key ts → Rises (of k ts)
rises k [] o = tt
rises k (t ∷ ts) o = let tail = ordered_tail t ts o in go (t.0 == k) refl tail.0 (rises k ts tail.1) where
  go : (b : Bool) → (t.0 == k) ≡ b → All (λ u. key t ≤ key u) ts → Rises (of k ts) → Rises (cond b (t.1 ∷ of k ts) (of k ts))
  go true e a r =
      let q : t.0 ≡ k = eqb-true t.0 k e in
      let keys : All (λ (u : ℕ × Step). t.1.clock * 65536 + k ≤ u.1.clock * 65536 + u.0) ts =
      All-weaker (λ (u : ℕ × Step). key t ≤ key u) (λ (u : ℕ × Step). t.1.clock * 65536 + k ≤ u.1.clock * 65536 + u.0) (λ u h. omega arith) ts a in
      let above : All (λ (s : Step). t.1.clock * 65536 + k ≤ s.clock * 65536 + k) (of k ts) = all_of (λ n s. t.1.clock * 65536 + k ≤ s.clock * 65536 + n) k ts keys in
      (All-weaker (λ (s : Step). t.1.clock * 65536 + k ≤ s.clock * 65536 + k) (λ (s : Step). t.1.clock ≤ s.clock) (λ s h. omega arith) (of k ts) above, r)
  go false e a r = r

-- and the other way: what holds of one server's steps
all_from : (P : Step → Type 0) (k : ℕ) (ts : List (ℕ × Step)) → All P (of k ts) → All (λ u. u.0 ≡ k → P u.1) ts
all_from P k [] a = All-nil (λ (u : ℕ × Step). u.0 ≡ k → P u.1)
all_from P k (t ∷ ts) a = go (t.0 == k) refl (λ b. all_from P k ts b) a where
  go : (b : Bool) → (t.0 == k) ≡ b → (All P (of k ts) → All (λ u. u.0 ≡ k → P u.1) ts) → All P (cond b (t.1 ∷ of k ts) (of k ts)) → All (λ u. u.0 ≡ k → P u.1) (t ∷ ts)
  go true e rest a = All-cons (λ (u : ℕ × Step). u.0 ≡ k → P u.1) t ts (λ q. All-head P t.1 (of k ts) a) (rest (All-tail P t.1 (of k ts) a))
  go false e rest a = All-cons (λ (u : ℕ × Step). u.0 ≡ k → P u.1) t ts (λ q. absurd (differ (sym e ∙ eq-eqb t.0 k q))) (rest a) where
    differ : false ≡ true → ⊥
    differ q = cc q

strict_tail : (k : ℕ) (t : ℕ × Step) (ts : List (ℕ × Step)) → Strict (of k (t ∷ ts)) → Strict (of k ts)
strict_tail k t ts s = go (t.0 == k) s where
  go : (b : Bool) → Strict (cond b (t.1 ∷ of k ts) (of k ts)) → Strict (of k ts)
  go true s = s.1
  go false s = s

before : (t u : ℕ × Step) → t.0 < 65536 → u.0 < 65536 → key t ≤ key u → (u.0 ≡ t.0 → t.1.clock < u.1.clock) → ComesBefore t u
before t u f g h own = elim (cases_lt t.1.clock u.1.clock) [
  | inl lt ↦ inl lt
  | inr ge ↦
      let same : t.1.clock ≡ u.1.clock = omega arith in
      let below : t.0 ≤ u.0 = omega arith in
      elim (cases_eq u.0 t.0) [
        | inl e ↦ inl (own e)
        | inr d ↦ inr (same, omega (arith, d))
      ]
]

-- the order of all steps, which have no two with one clock and one server
ordered : (ts : List (ℕ × Step)) → All (λ t. t.0 < 65536) ts → IsNonDecreasingBy key ts → ((k : ℕ) → Strict (of k ts)) → AllPairs ComesBefore ts
ordered [] f o s = λ i j d a b. absurd (omega arith)
ordered (t ∷ ts) f o s =
    let tail = ordered_tail t ts o in
    let few : t.0 < 65536 = All-head (λ (u : ℕ × Step). u.0 < 65536) t ts f in
    let more : All (λ u. u.0 < 65536) ts = All-tail (λ (u : ℕ × Step). u.0 < 65536) t ts f in
    let mine : Strict (t.1 ∷ of t.0 ts) = subst Strict (choose_same t.0 (t.1 ∷ of t.0 ts) (of t.0 ts)) (s t.0) in
    let own : All (λ u. u.0 ≡ t.0 → t.1.clock < u.1.clock) ts = all_from (λ s. t.1.clock < s.clock) t.0 ts mine.0 in
    AllPairs-cons ComesBefore t ts (λ i d h. before t (get_or ts i d) few (more i d h) (tail.0 i d h) (own i d h))
    (ordered ts more tail.1 (λ k. strict_tail k t ts (s k)))

pub merged : (js : List (List Step)) (all es : List (ℕ × Step)) (picks : List Pick) → length js ≤ 65536 → all ≡ flat 0 js → IsPermutation all es → IsNonDecreasingBy key es → picks ≡ map pick_of es → All IsRising js → IsMerge js picks
merged js all es picks few f p o q r =
    let from : (k : ℕ) → of k all ≡ get_or js k [] = λ k. rw f (of-flat js 0 k k (omega arith)) in
    let up : (k : ℕ) → Strict (get_or js k []) = λ k. elim (cases_lt k (length js)) [
      | inl h ↦ strict (get_or js k []) (r k [] h)
      | inr h ↦ subst Strict (sym (get_or-eq_default js [] h)) tt
    ] in
    let same : (k : ℕ) (g : Step → ℕ) → total g (of k es) ≡ total g (of k all) =
    λ k g.
    let w : ℕ × Step → ℕ = λ t. cond (t.0 == k) (g t.1) 0 in
    total_steps g k es ∙ (total_is w es ∙ (sum_by-IsPermutation w all es p ∙ (sym (total_is w all) ∙ sym (total_steps g k all)))) in
    let each : (k : ℕ) → of k es ≡ get_or js k [] = λ k. unique (of k all) (of k es) (subst Strict (sym (from k)) (up k)) (rises k es o) (same k) ∙ from k in
    let servers : All (λ t. t.0 < 65536) all = rw f (servers-flat js 0 65536 (omega arith)) in
    record {
      steps = es;
      each = each;
      ordered = ordered es (All-permutation (λ (t : ℕ × Step). t.0 < 65536) all es p servers) o (λ k. subst Strict (sym (each k)) (up k));
      picks_are = q;
    }

pub merged_ok : {E : Type 0} (r : Result (List Pick) E) (js : List (List Step)) (all es : List (ℕ × Step)) → length js ≤ 65536 → all ≡ flat 0 js → IsPermutation all es → IsNonDecreasingBy key es → All IsRising js →
    IfOk r (λ picks. picks ≡ map pick_of es) → IfOk r (IsMerge js)
merged_ok r js all es few f p o q = IfOk-weaker r (λ picks. picks ≡ map pick_of es) (IsMerge js) (λ picks e. merged js all es picks few f p o e q)
