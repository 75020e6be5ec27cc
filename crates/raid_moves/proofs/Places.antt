-- Programs in their places: what is found of each after one was put.
use Rattle.std.proofs.Common.{◌≡◌, ℕ, ◌+◌, ◌<◌, ◌≤◌, ◌==◌, nat_lt, Bool, true, false, List, [], ◌∷◌, length, filter, find, Option, Some, None, if◌then◌else◌, arith, sym, ap, subst, ◌∙◌, refl}
use Rattle.std.specs.List.{AllByRecursion, list_any}
use Rattle.std.proofs.lemmas.Bool.{eqb-true}
use Rattle.raid_base.specs.declared.names.Txn.{Txn}
use Rattle.raid_base.specs.Names.{is_txn}
use Rattle.raid_steps.specs.State.{Running}
use Rattle.raid_steps.specs.Programs.{put_running}
use Rattle.raid_moves.specs.Moves.{Ascend}

-- lists
pub nothing : {X : Type 0} {x : X} → None ≡ Some x → ⊥
nothing q = cc q

pub something : {X : Type 0} {x y : X} → Some x ≡ Some y → x ≡ y
something q = cc q

pub all_found : {X : Type 0} (P : X → Type 0) (test : X → Bool) (xs : List X) (y : X) → AllByRecursion P xs → find test xs ≡ Some y → P y
all_found P test [] y a q = absurd (nothing q)
all_found P test (x ∷ xs) y a q = go (test x) q (λ q. all_found P test xs y a.1 q)
  where
    go : (b : Bool) → (if b then Some x else find test xs) ≡ Some y → (find test xs ≡ Some y → P y) → P y
    go true q rest = subst P (something q) a.0
    go false q rest = rest q

pub all_kept : {X : Type 0} (P : X → Type 0) (test : X → Bool) (xs : List X) → AllByRecursion P xs → AllByRecursion P (filter test xs)
all_kept P test [] a = tt
all_kept P test (x ∷ xs) a = go (test x) (all_kept P test xs a.1)
  where
    go : (b : Bool) → AllByRecursion P (filter test xs) → AllByRecursion P (if b then x ∷ filter test xs else filter test xs)
    go true rest = (a.0, rest)
    go false rest = rest

pub all_weaken : {X : Type 0} (P Q : X → Type 0) (xs : List X) → ((x : X) → P x → Q x) → AllByRecursion P xs → AllByRecursion Q xs
all_weaken P Q [] each a = tt
all_weaken P Q (x ∷ xs) each a = (each x a.0, all_weaken P Q xs each a.1)

pub all_both : {X : Type 0} (P Q R : X → Type 0) (xs : List X) → ((x : X) → P x → Q x → R x) → AllByRecursion P xs → AllByRecursion Q xs → AllByRecursion R xs
all_both P Q R [] each a b = tt
all_both P Q R (x ∷ xs) each a b = (each x a.0 b.0, all_both P Q R xs each a.1 b.1)

-- where some pass a test, one is found
pub one_found : {X : Type 0} (test : X → Bool) (xs : List X) → list_any test xs ≡ true → find test xs ≡ None → ⊥
one_found test [] any none = absurd (untrue any) where
  untrue : false ≡ true → ⊥
  untrue q = cc q
one_found test (x ∷ xs) any none = go (test x) refl (one_found test xs)
  where
    go : (b : Bool) → test x ≡ b → (list_any test xs ≡ true → find test xs ≡ None → ⊥) → ⊥
    go true q rest = (let head : find test (x ∷ xs) ≡ Some x = rw q refl in nothing (sym none ∙ head))
    go false q rest = (let head : list_any test (x ∷ xs) ≡ list_any test xs = rw q refl in let tail : find test (x ∷ xs) ≡ find test xs = rw q refl in rest (sym head ∙ any) (sym tail ∙ none))

-- programs
pub all_put : (P : Running → Type 0) (r : Running) (rs : List Running) → P r → AllByRecursion P rs → AllByRecursion P (put_running r rs)
all_put P r [] h a = (h, tt)
all_put P r (q ∷ qs) h a = go (is_txn r.txn q.txn) (nat_lt r.txn.0 q.txn.0) (all_put P r qs h a.1)
  where
    go : (b c : Bool) → AllByRecursion P (put_running r qs) → AllByRecursion P (if b then r ∷ qs else if c then r ∷ q ∷ qs else q ∷ put_running r qs)
    go true c rest = (h, a.1)
    go false true rest = (h, (a.0, a.1))
    go false false rest = (a.0, rest)

abbrev pub IsBehind : Txn → Running → Type 0
IsBehind t r = t.0 < r.txn.0

less : (a b : ℕ) → nat_lt a b ≡ true → a < b
less a b q = grind (arith, q)

beyond : (a b : ℕ) → (b == a) ≡ false → nat_lt a b ≡ false → b < a
beyond a b q r = grind (arith, q, r)

pub self : (a : ℕ) → (a == a) ≡ true
self a = grind arith

pub apart : (a b : ℕ) → a < b → (a == b) ≡ false
apart a b q = grind (arith, q)

pub not_less : (a b : ℕ) → b < a → nat_lt a b ≡ false
not_less a b q = grind (arith, q)

still_behind : (t u : Txn) (rs : List Running) → t.0 < u.0 → AllByRecursion (IsBehind u) rs → AllByRecursion (IsBehind t) rs
still_behind t u rs q a = all_weaken (IsBehind u) (IsBehind t) rs (λ r l. omega (arith, q, l)) a

pub ascend_put : (r : Running) (rs : List Running) → Ascend rs → Ascend (put_running r rs)
ascend_put r [] a = (tt, tt)
ascend_put r (q ∷ qs) a = go (q.txn.0 == r.txn.0) refl (nat_lt r.txn.0 q.txn.0) refl (ascend_put r qs a.1)
  where
    go : (b : Bool) → (q.txn.0 == r.txn.0) ≡ b → (c : Bool) → nat_lt r.txn.0 q.txn.0 ≡ c → Ascend (put_running r qs) → Ascend (if b then r ∷ qs else if c then r ∷ q ∷ qs else q ∷ put_running r qs)
    go true e c l rest = (subst (λ n. AllByRecursion (λ (x : Running). n < x.txn.0) qs) (eqb-true q.txn.0 r.txn.0 e) a.0, a.1)
    go false e true l rest = ((less r.txn.0 q.txn.0 l, still_behind r.txn q.txn qs (less r.txn.0 q.txn.0 l) a.0), a)
    go false e false l rest = (all_put (IsBehind q.txn) r qs (beyond r.txn.0 q.txn.0 e l) a.0, rest)

pub ascend_kept : (test : Running → Bool) (rs : List Running) → Ascend rs → Ascend (filter test rs)
ascend_kept test [] a = tt
ascend_kept test (r ∷ rs) a = go (test r) (ascend_kept test rs a.1)
  where
    go : (b : Bool) → Ascend (filter test rs) → Ascend (if b then r ∷ filter test rs else filter test rs)
    go true rest = (all_kept (IsBehind r.txn) test rs a.0, rest)
    go false rest = rest

-- the program found of a transaction
abbrev pub program_of : Txn → List Running → Option Running
program_of t rs = find (λ (r : Running). is_txn t r.txn) rs

-- it is that transaction's
pub found_txn : (t : Txn) (rs : List Running) (r : Running) → program_of t rs ≡ Some r → r.txn ≡ t
found_txn t [] r q = absurd (nothing q)
found_txn t (p ∷ rs) r q = go (p.txn.0 == t.0) refl q (found_txn t rs r)
  where
    same : p.txn.0 ≡ t.0 → p.txn ≡ t
    same e = ap (λ n. let u : Txn = record { 0 = n } in u) e

    go : (b : Bool) → (p.txn.0 == t.0) ≡ b → (if b then Some p else program_of t rs) ≡ Some r → (program_of t rs ≡ Some r → r.txn ≡ t) → r.txn ≡ t
    go true e q rest = subst (λ (z : Running). z.txn ≡ t) (something q) (same (eqb-true p.txn.0 t.0 e))
    go false e q rest = rest q

-- a program that was put is found
pub put_found : (r : Running) (rs : List Running) → program_of r.txn (put_running r rs) ≡ Some r
put_found r [] = rw (self r.txn.0) refl
put_found r (q ∷ qs) = go (q.txn.0 == r.txn.0) refl (nat_lt r.txn.0 q.txn.0) (put_found r qs)
  where
    go : (b : Bool) → (q.txn.0 == r.txn.0) ≡ b → (c : Bool) → program_of r.txn (put_running r qs) ≡ Some r → program_of r.txn (if b then r ∷ qs else if c then r ∷ q ∷ qs else q ∷ put_running r qs) ≡ Some r
    go true e c rest = rw (self r.txn.0) refl
    go false e true rest = rw (self r.txn.0) refl
    go false e false rest = rw e rest

-- and all others are found as they were
pub put_other : (t : Txn) (r : Running) (rs : List Running) → (r.txn.0 == t.0) ≡ false → program_of t (put_running r rs) ≡ program_of t rs
put_other t r [] d = rw d refl
put_other t r (q ∷ qs) d = go (q.txn.0 == r.txn.0) refl (nat_lt r.txn.0 q.txn.0) (put_other t r qs d)
  where
    go : (b : Bool) → (q.txn.0 == r.txn.0) ≡ b → (c : Bool) → program_of t (put_running r qs) ≡ program_of t qs → program_of t (if b then r ∷ qs else if c then r ∷ q ∷ qs else q ∷ put_running r qs) ≡ program_of t (q ∷ qs)
    go true e c rest = (let same : (q.txn.0 == t.0) ≡ false = subst (λ n. (n == t.0) ≡ false) (sym (eqb-true q.txn.0 r.txn.0 e)) d in rw (d, same) refl)
    go false e true rest = rw d refl
    go false e false rest = ap (λ o. if q.txn.0 == t.0 then Some q else o) rest

-- a program that is put as it was found changes nothing
pub put_same : (r : Running) (rs : List Running) → Ascend rs → program_of r.txn rs ≡ Some r → put_running r rs ≡ rs
put_same r [] a f = absurd (nothing f)
put_same r (q ∷ qs) a f = go (q.txn.0 == r.txn.0) f (put_same r qs a.1)
  where
    go : (b : Bool) → (if b then Some q else program_of r.txn qs) ≡ Some r → (program_of r.txn qs ≡ Some r → put_running r qs ≡ qs) → (if b then r ∷ qs else if nat_lt r.txn.0 q.txn.0 then r ∷ q ∷ qs else q ∷ put_running r qs) ≡ q ∷ qs
    go true f rest = ap (λ p. p ∷ qs) (sym (something f))
    go false f rest = (let above = all_found (IsBehind q.txn) (λ (p : Running). is_txn r.txn p.txn) qs r a.0 f in
        let after = not_less r.txn.0 q.txn.0 above in rw after (ap (λ ps. q ∷ ps) (rest f)))

-- each program is the one found of its transaction
abbrev pub IsFoundIn : List Running → Running → Type 0
IsFoundIn rs r = program_of r.txn rs ≡ Some r

pub each_found : (rs : List Running) → Ascend rs → AllByRecursion (IsFoundIn rs) rs
each_found [] a = tt
each_found (r ∷ rs) a = (rw (self r.txn.0) refl, all_both (IsBehind r.txn) (IsFoundIn rs) (IsFoundIn (r ∷ rs)) rs below a.0 (each_found rs a.1))
  where
    below : (q : Running) → IsBehind r.txn q → IsFoundIn rs q → IsFoundIn (r ∷ rs) q
    below q l f = rw (apart r.txn.0 q.txn.0 l) f

-- a program that is put makes one more at most
pub length_put : (r : Running) (rs : List Running) → length (put_running r rs) ≤ length rs + 1
length_put r [] = omega arith
length_put r (q ∷ qs) = go (is_txn r.txn q.txn) (nat_lt r.txn.0 q.txn.0) (length_put r qs)
  where
    go : (b c : Bool) → length (put_running r qs) ≤ length qs + 1 → length (if b then r ∷ qs else if c then r ∷ q ∷ qs else q ∷ put_running r qs) ≤ length (q ∷ qs) + 1
    go true c rest = omega arith
    go false true rest = omega arith
    go false false rest = omega (arith, rest)
