-- A list of the running transactions in ascending order is the list of the rules.
use Rattle.std.proofs.Common.{◌≡◌, ℕ, zero, suc, ◌+◌, ◌<◌, ◌≤◌, inl, inr, ◌||◌, ◌==◌, Bool, true, false, cond, List, [], ◌∷◌, length, map, arith, sym, ◌∙◌, ap, subst, refl, ◌*◌}
use Rattle.std.specs.Bool.{⊤}
use Rattle.std.specs.List.{AllPairs, filter}
use Rattle.std.proofs.lemmas.Bool.{true≢false, or_left, eqb-true}
use Rattle.raid_base.specs.declared.names.Txn.{Txn}
use Rattle.raid_base.specs.declared.entry.Entry.{Entry}
use Rattle.raid_base.specs.Names.{is_txn, has_txn}
use Rattle.raid_workload.specs.declared.workload.Workload.{Workload}
use Rattle.raid_workload.specs.Parts.{txns, count_from}
use Rattle.raid_rules.specs.History.{noted, is_running}
use Rattle.raid_rules.proofs.Push.{same_txn}
use Rattle.raid_legal.specs.Seen.{running}
use Rattle.raid_serial.proofs.Translate.{cases_true, eq_self}
use Rattle.raid_serial.proofs.Views.{same_tests}
use Rattle.raid_placed.specs.Placed.{Placed}
use Rattle.raid_placed.proofs.Orderly.{placed_running, txn_among}

-- each is below all that come after it
abbrev Ascending : List Txn → Type 0
Ascending [] = ⊤
Ascending (x ∷ xs) = ((t : Txn) → has_txn xs t ≡ true → x.0 < t.0) × Ascending xs

rest_pairs : (x : Txn) (xs : List Txn) → AllPairs (λ a b. a.0 < b.0) (x ∷ xs) → AllPairs (λ a b. a.0 < b.0) xs
rest_pairs x xs h i j d before below = h (suc i) (suc j) d (omega arith) (omega arith)

or_rest : (b c : Bool) → b ≡ false → (b || c) ≡ true → c ≡ true
or_rest true c e q = absurd (true≢false e)
or_rest false c e q = q

beside : (b c : Bool) → c ≡ true → (b || c) ≡ true
beside true c q = refl
beside false c q = q

skip_pairs : (x y : Txn) (xs : List Txn) → AllPairs (λ a b. a.0 < b.0) (x ∷ y ∷ xs) → AllPairs (λ a b. a.0 < b.0) (x ∷ xs)
skip_pairs x y xs h zero zero d before below = absurd (omega (arith, before))
skip_pairs x y xs h zero (suc j) d before below = h zero (suc (suc j)) d (omega arith) (omega arith)
skip_pairs x y xs h (suc i) zero d before below = absurd (omega (arith, before))
skip_pairs x y xs h (suc i) (suc j) d before below = h (suc (suc i)) (suc (suc j)) d (omega arith) (omega arith)

first_below : (x : Txn) (xs : List Txn) → AllPairs (λ a b. a.0 < b.0) (x ∷ xs) → (t : Txn) → has_txn xs t ≡ true → x.0 < t.0
first_below x [] h t i = absurd (true≢false (sym i))
first_below x (y ∷ ys) h t i = elim (cases_true (is_txn t y)) [
  | inl q ↦ subst (λ z. x.0 < z.0) (same_txn y t q) (h zero (suc zero) y (omega arith) (omega arith))
  | inr q ↦ first_below x ys (skip_pairs x y ys h) t (or_rest (is_txn t y) (has_txn ys t) q i)
]

ascending : (xs : List Txn) → AllPairs (λ a b. a.0 < b.0) xs → Ascending xs
ascending [] h = tt
ascending (x ∷ xs) h = (first_below x xs h, ascending xs (rest_pairs x xs h))

ascending_kept : (f : Txn → Bool) (xs : List Txn) → Ascending xs → Ascending (filter f xs)
ascending_kept f [] a = tt
ascending_kept f (x ∷ xs) a = step (f x) (ascending_kept f xs a.1)
  where
    step : (b : Bool) → Ascending (filter f xs) → Ascending (cond b (x ∷ filter f xs) (filter f xs))
    step true rest = (λ t i. a.0 t (txn_among f xs t i), rest)
    step false rest = rest

count_above : (first n : ℕ) (t : Txn) → has_txn (map (λ k. let t : Txn = record { 0 = k } in t) (count_from first n)) t ≡ true → first ≤ t.0
count_above first zero t i = absurd (true≢false (sym i))
count_above first (suc n) t i = elim (cases_true (first == t.0)) [
  | inl q ↦ (let e : first ≡ t.0 = eqb-true first t.0 q in omega arith)
  | inr q ↦ (let l : first + 1 ≤ t.0 = count_above (first + 1) n t (or_rest (first == t.0) _ q i) in omega arith)
]

count_ascends : (first n : ℕ) → Ascending (map (λ k. let t : Txn = record { 0 = k } in t) (count_from first n))
count_ascends first zero = tt
count_ascends first (suc n) = (λ t i. (let l : first + 1 ≤ t.0 = count_above (first + 1) n t i in omega arith), count_ascends (first + 1) n)

-- ascending lists that have the same are one
has_first : (x : Txn) (xs : List Txn) → has_txn (x ∷ xs) x ≡ true
has_first x xs = or_left (is_txn x x) (has_txn xs x) (eq_self x.0 x.0 refl)

first_or_above : (x : Txn) (xs : List Txn) (t : Txn) → Ascending (x ∷ xs) → has_txn (x ∷ xs) t ≡ true → x.0 ≤ t.0
first_or_above x xs t a i = elim (cases_true (is_txn t x)) [
  | inl q ↦ (let e : x.0 ≡ t.0 = eqb-true x.0 t.0 q in omega arith)
  | inr q ↦ (let l : x.0 < t.0 = a.0 t (or_rest (is_txn t x) (has_txn xs t) q i) in omega arith)
]

rest_has : (x : Txn) (xs ys : List Txn) → Ascending (x ∷ xs) → ((t : Txn) → has_txn (x ∷ xs) t ≡ has_txn (x ∷ ys) t) → (t : Txn) → has_txn xs t ≡ true → has_txn ys t ≡ true
rest_has x xs ys a same t i = elim (cases_true (is_txn t x)) [
  | inl q ↦ absurd (let e : x.0 ≡ t.0 = eqb-true x.0 t.0 q in let l : x.0 < t.0 = a.0 t i in omega arith)
  | inr q ↦ or_rest (is_txn t x) (has_txn ys t) q (sym (same t) ∙ beside (is_txn t x) (has_txn xs t) i)
]

one_list : (xs ys : List Txn) → Ascending xs → Ascending ys → ((t : Txn) → has_txn xs t ≡ has_txn ys t) → xs ≡ ys
one_list [] [] a b same = refl
one_list [] (y ∷ ys) a b same = absurd (true≢false (sym (has_first y ys) ∙ sym (same y)))
one_list (x ∷ xs) [] a b same = absurd (true≢false (sym (has_first x xs) ∙ same x))
one_list (x ∷ xs) (y ∷ ys) a b same =
    let first : x ≡ y = same_txn x y (eq_self x.0 y.0 (let l : x.0 ≤ y.0 = first_or_above x xs y a (same y ∙ has_first y ys) in let m : y.0 ≤ x.0 = first_or_above y ys x b (sym (same x) ∙ has_first x xs) in omega arith)) in
    let alike : (t : Txn) → has_txn (x ∷ xs) t ≡ has_txn (x ∷ ys) t = λ t. same t ∙ ap (λ z. has_txn (z ∷ ys) t) (sym first) in
    let over : Ascending (x ∷ ys) = subst (λ z. Ascending (z ∷ ys)) (sym first) b in
    let rest : xs ≡ ys = one_list xs ys a.1 b.1 (λ t. same_tests (has_txn xs t) (has_txn ys t) (rest_has x xs ys a alike t) (rest_has x ys xs over (λ u. sym (alike u)) t)) in
    ap (λ z. z ∷ xs) first ∙ ap (λ zs. y ∷ zs) rest

pub placed_running_list : (w : Workload) (h : List Entry) (ts : List Txn) → Placed w h → ((t : Txn) → has_txn ts t ≡ is_running (noted h) t) → AllPairs (λ a b. a.0 < b.0) ts → ts ≡ running w (noted h)
placed_running_list w h ts l has a =
    one_list ts (running w (noted h)) (ascending ts a) (ascending_kept (is_running (noted h)) (txns w) (count_ascends 1 (length w.programs * (w.restarts + 1))))
    (λ t. has t ∙ sym (placed_running w h l t))
