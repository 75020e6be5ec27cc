-- The first transaction that passes, from a number on.
use Rattle.std.proofs.Common.{◌≡◌, ℕ, zero, suc, ◌+◌, ◌-◌, ◌*◌, ◌<◌, ◌≤◌, ◌==◌, nat_lt, Bool, true, false, not, ◌&&◌, cond, if◌then◌else◌, map, length, List, [], ◌∷◌, get_or, Option, Some, arith, ap, sym, ◌∙◌, refl}
use Rattle.std.specs.Prelude.{find}
use Rattle.std.specs.Option.{option_map_or}
use Rattle.raid_base.specs.declared.names.Txn.{Txn}
use Rattle.raid_workload.specs.declared.workload.Workload.{Workload}
use Rattle.raid_workload.specs.Parts.{count_from}

abbrev pub txn : ℕ → Txn
txn k = record { 0 = k }

-- how many transactions there are
abbrev pub count : Workload → ℕ
count w = length w.programs * (w.restarts + 1)

-- the number of a transaction, 0 for none
abbrev pub number : Option Txn → ℕ
number o = option_map_or (λ (t : Txn). t.0) o 0

-- the number of the first that passes among so many from a number on, 0 where none does
abbrev pub first_of : (Txn → Bool) → ℕ → ℕ → ℕ
first_of test a m = number (find test (map txn (count_from a m)))

-- the same among those up to a number
abbrev pub first_from : (Txn → Bool) → ℕ → ℕ → ℕ
first_from test n a = first_of test a (n + 1 - a)

-- the number passes, or the next one is looked at
skip_by : (test : Txn → Bool) (a m : ℕ) → test (txn a) ≡ false → first_of test a m ≡ first_of test (a + 1) (m - 1)
skip_by test a zero other = refl
skip_by test a (suc m) other =
    ap (λ b. number (cond b (Some (txn a)) (find test (map txn (count_from (a + 1) m))))) other
    ∙ ap (λ k. first_of test (a + 1) k) (let e : m ≡ suc m - 1 = omega arith in e)

pub skip : (test : Txn → Bool) (n a : ℕ) → test (txn a) ≡ false → first_from test n a ≡ first_from test n (a + 1)
skip test n a other = skip_by test a (n + 1 - a) other ∙ ap (λ k. first_of test (a + 1) k) (let e : n + 1 - a - 1 ≡ n + 1 - (a + 1) = omega arith in e)

pub none_by : (test : Txn → Bool) (a m : ℕ) → ((b : ℕ) → a ≤ b → test (txn b) ≡ false) → first_of test a m ≡ 0
none_by test a zero others = refl
none_by test a (suc m) others =
    ap (λ b. number (cond b (Some (txn a)) (find test (map txn (count_from (a + 1) m))))) (others a (omega arith))
    ∙ none_by test (a + 1) m (λ b h. others b (omega (arith, h)))

pub here : (test : Txn → Bool) (n a : ℕ) → a ≤ n → test (txn a) ≡ true → first_from test n a ≡ a
here test n a within this =
    let e : n + 1 - a ≡ suc (n - a) = omega (arith, within) in
    ap (λ k. first_of test a k) e ∙ ap (λ b. number (cond b (Some (txn a)) (find test (map txn (count_from (a + 1) (n - a)))))) this

-- none below a number passes
pub skip_to : (test : Txn → Bool) (n d : ℕ) → ((b : ℕ) → b ≤ d → test (txn b) ≡ false) → first_from test n (d + 1) ≡ first_of test 1 n
skip_to test n zero others = ap (λ k. first_of test 1 k) (let e : n + 1 - 1 ≡ n = omega arith in e)
skip_to test n (suc d) others =
    ap (λ k. first_from test n (k + 1)) (let e : suc d ≡ d + 1 = omega arith in e)
    ∙ sym (skip test n (d + 1) (ap (λ k. test (txn k)) (let e : d + 1 ≡ suc d = omega arith in e) ∙ others (suc d) (omega arith)))
    ∙ skip_to test n d (λ b h. others b (omega (arith, h)))

-- two tests that agree from a number on
pub same_from : (f g : Txn → Bool) (a m : ℕ) → ((b : ℕ) → a ≤ b → f (txn b) ≡ g (txn b)) → first_of f a m ≡ first_of g a m
same_from f g a zero h = refl
same_from f g a (suc m) h =
    ap (λ b. number (cond b (Some (txn a)) (find f (map txn (count_from (a + 1) m))))) (h a (omega arith)) ∙ go (g (txn a)) (same_from f g (a + 1) m (λ b k. h b (omega (arith, k))))
  where
    go : (b : Bool) → first_of f (a + 1) m ≡ first_of g (a + 1) m → number (cond b (Some (txn a)) (find f (map txn (count_from (a + 1) m)))) ≡ number (cond b (Some (txn a)) (find g (map txn (count_from (a + 1) m))))
    go true e = refl
    go false e = e

-- the first that passes, when one of them passes no longer: the first past that one, where it was it
pub without : (test less past : Txn → Bool) (k a m : ℕ) → 1 ≤ k →
    ((b : ℕ) → less (txn b) ≡ (test (txn b) && not (b == k))) → ((b : ℕ) → past (txn b) ≡ (nat_lt k b && test (txn b))) →
    first_of less a m ≡ (if first_of test a m == k then first_of past a m else first_of test a m)
without test less past k a zero some l p = none (0 == k) refl
  where
    nought : ℕ
    nought = 0

    none : (b : Bool) → (0 == k) ≡ b → nought ≡ (if b then 0 else 0)
    none true e = refl
    none false e = refl
without test less past k a (suc m) some l p = go (test (txn a)) (a == k) refl refl (without test less past k (a + 1) m some l p)
  where
    rest : (Txn → Bool) → Option Txn
    rest f = find f (map txn (count_from (a + 1) m))

    passed : (b : Bool) → test (txn a) ≡ true → (a == k) ≡ b → less (txn a) ≡ not b
    passed true e q = l a ∙ ap (λ c. c && not (a == k)) e ∙ ap not q
    passed false e q = l a ∙ ap (λ c. c && not (a == k)) e ∙ ap not q

    failed : test (txn a) ≡ false → less (txn a) ≡ false
    failed e = l a ∙ ap (λ c. c && not (a == k)) e

    not_past : test (txn a) ≡ false → past (txn a) ≡ false
    not_past e = p a ∙ ap (λ c. nat_lt k a && c) e ∙ none (nat_lt k a)
      where
        none : (b : Bool) → (b && false) ≡ false
        none true = refl
        none false = refl

    not_here : (a == k) ≡ true → past (txn a) ≡ false
    not_here q = p a ∙ ap (λ c. c && test (txn a)) (let e : nat_lt k a ≡ false = grind (arith, q) in e)

    after : (a == k) ≡ true → (b : ℕ) → a + 1 ≤ b → less (txn b) ≡ past (txn b)
    after q b h = l b ∙ go (test (txn b)) ∙ sym (p b)
      where
        one : not (b == k) ≡ true
        one = grind (arith, q, h)

        two : nat_lt k b ≡ true
        two = grind (arith, q, h)

        go : (c : Bool) → (c && not (b == k)) ≡ (nat_lt k b && c)
        go true = one ∙ sym (ap (λ z. z && true) two)
        go false = sym (ap (λ z. z && false) two)

    go : (c d : Bool) → test (txn a) ≡ c → (a == k) ≡ d → number (rest less) ≡ (if number (rest test) == k then number (rest past) else number (rest test)) →
        number (cond (less (txn a)) (Some (txn a)) (rest less))
        ≡ (if number (cond (test (txn a)) (Some (txn a)) (rest test)) == k then number (cond (past (txn a)) (Some (txn a)) (rest past)) else number (cond (test (txn a)) (Some (txn a)) (rest test)))
    go true true e q others = rw (passed true e q, e, q, not_here q) (same_from less past (a + 1) m (after q))
    go true false e q others = rw (passed false e q, e, q) refl
    go false d e q others = rw (failed e, e, not_past e) others

-- two defaults make no difference below the end
pub same_default : {X : Type 0} (xs : List X) (k : ℕ) (d e : X) → k < length xs → get_or xs k d ≡ get_or xs k e
same_default [] k d e below = absurd (omega (arith, below))
same_default (x ∷ xs) zero d e below = refl
same_default (x ∷ xs) (suc k) d e below = same_default xs k d e (omega (arith, below))
