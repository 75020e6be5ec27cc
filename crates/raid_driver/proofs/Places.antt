-- Programs in their places.
use Rattle.std.proofs.Common.{◌≡◌, ℕ, zero, suc, ◌+◌, ◌<◌, ◌==◌, nat_lt, Bool, true, false, if◌then◌else◌, List, [], ◌∷◌, ◌++◌, map, filter, length, take, drop, get_or, Option, Some, slice_get, slice_set, arith, ap, sym, subst, ◌∙◌, refl, drop-cons, add-one, append-nil, append_assoc, Result, Ok, Err}
use Rattle.std.specs.Prelude.{flat_map, OnOk}
use Rattle.std.specs.List.{All, AllPairs}
use Rattle.std.proofs.lemmas.Grind.{common_steps}
use Rattle.std.proofs.lemmas.List.{take-append-drop, take-set, drop-set}
use Rattle.std.proofs.lemmas.Option.{slice_get-get_or}
use Rattle.raid_program.proofs.Lists.{all_at}
use Rattle.std.proofs.lemmas.List.Elements.{All-cons, All-head, All-tail}
use Rattle.std.proofs.lemmas.List.Kept.{AllPairs-cons}
use Rattle.raid_base.specs.declared.names.Txn.{Txn}
use Rattle.raid_base.specs.declared.names.Item.{Item}
use Rattle.raid_base.specs.declared.names.Site.{Site}
use Rattle.raid_base.specs.Names.{is_txn}
use Rattle.raid_steps.specs.State.{Out}
use Rattle.raid_driver.specs.declared.task.Task.{Task}
use Rattle.raid_driver.specs.declared.task.Doing.{Doing}
use Rattle.raid_driver.specs.declared.task.Doing.TheVariants.{Asking, Done, Over}
use Rattle.raid_driver.specs.Drive.{Ascends, IsPlace, txns_of, done_of, is_done, task_of, put_task, may_ask, noted_at}

-- the transaction of the program that was found
found_cons : (q : Task) (o : Option Task) (t : Txn) (r : Task) (b : Bool) → is_txn t q.txn ≡ b → (if b then Some q else o) ≡ Some r → (o ≡ Some r → is_txn t r.txn ≡ true) → is_txn t r.txn ≡ true
found_cons q o t r true is found rest = let same : q ≡ r = cc found in subst (λ (z : Task). is_txn t z.txn ≡ true) same is
found_cons q o t r false is found rest = rest found

pub found_txn : (rs : List Task) (t : Txn) (r : Task) → task_of rs t ≡ Some r → is_txn t r.txn ≡ true
found_txn [] t r is = absurd (cc is)
found_txn (q ∷ rs) t r is = found_cons q (task_of rs t) t r (is_txn t q.txn) refl is (found_txn rs t r)

-- the first ones of a list in order
pub first_pairs : {X : Type 0} (R : X → X → Type 0) (x : X) (xs : List X) → AllPairs R (x ∷ xs) → All (R x) xs
first_pairs R x xs h k d below = h zero (suc k) d (omega arith) (omega (arith, below))

pub rest_pairs : {X : Type 0} (R : X → X → Type 0) (x : X) (xs : List X) → AllPairs R (x ∷ xs) → AllPairs R xs
rest_pairs R x xs h i j d before below = h (suc i) (suc j) d (omega (arith, before)) (omega (arith, below))

abbrev Less : Txn → Txn → Type 0
Less a b = a.0 < b.0

-- an element of a list of which all are larger
larger_at : (t : Txn) (qs : List Task) (k : ℕ) (q : Task) → All (Less t) (txns_of qs) → slice_get qs k ≡ Some q → t.0 < q.txn.0
larger_at t [] k q all at = absurd (cc at)
larger_at t (r ∷ qs) zero q all at = let same : r ≡ q = cc at in subst (λ (z : Task). t.0 < z.txn.0) same (All-head (Less t) r.txn (txns_of qs) all)
larger_at t (r ∷ qs) (suc k) q all at = larger_at t qs k q (All-tail (Less t) r.txn (txns_of qs) all) at

-- a program in place of what it was
pub put_at : (rs : List Task) (k : ℕ) (q r : Task) → Ascends (txns_of rs) → slice_get rs k ≡ Some q → is_txn r.txn q.txn ≡ true → put_task r rs ≡ slice_set rs k r
put_at [] k q r ascends at same = absurd (cc at)
put_at (p ∷ rs) zero q r ascends at same =
    let here : p ≡ q = cc at in
    let this : is_txn r.txn p.txn ≡ true = subst (λ (z : Task). is_txn r.txn z.txn ≡ true) (sym here) same in
    rw this refl
put_at (p ∷ rs) (suc k) q r ascends at same =
    let less = larger_at p.txn rs k q (first_pairs Less p.txn (txns_of rs) ascends) at in
    let other : is_txn r.txn p.txn ≡ false = grind (arith, less, same) in
    let after : nat_lt r.txn.0 p.txn.0 ≡ false = grind (arith, less, same) in
    let rest = put_at rs k q r (rest_pairs Less p.txn (txns_of rs) ascends) at same in
    rw (other, after) (ap (λ qs. p ∷ qs) rest)

-- a program put in its place
all_cons : (P : Txn → Type 0) (q r : Task) (qs : List Task) (b c : Bool) → All P (txns_of (q ∷ qs)) → P r.txn → (All P (txns_of qs) → All P (txns_of (put_task r qs))) →
    All P (txns_of (if b then r ∷ qs else if c then r ∷ q ∷ qs else q ∷ put_task r qs))
all_cons P q r qs true c all this rest = All-cons P r.txn (txns_of qs) this (All-tail P q.txn (txns_of qs) all)
all_cons P q r qs false true all this rest = All-cons P r.txn (txns_of (q ∷ qs)) this all
all_cons P q r qs false false all this rest = All-cons P q.txn (txns_of (put_task r qs)) (All-head P q.txn (txns_of qs) all) (rest (All-tail P q.txn (txns_of qs) all))

all_put : (P : Txn → Type 0) (r : Task) (qs : List Task) → All P (txns_of qs) → P r.txn → All P (txns_of (put_task r qs))
all_put P r [] all this = All-cons P r.txn [] this all
all_put P r (q ∷ qs) all this = all_cons P q r qs (is_txn r.txn q.txn) (nat_lt r.txn.0 q.txn.0) all this (λ rest. all_put P r qs rest this)

ascends_cons : (q r : Task) (qs : List Task) (b c : Bool) → is_txn r.txn q.txn ≡ b → nat_lt r.txn.0 q.txn.0 ≡ c → Ascends (txns_of (q ∷ qs)) → (Ascends (txns_of qs) → Ascends (txns_of (put_task r qs))) →
    Ascends (txns_of (if b then r ∷ qs else if c then r ∷ q ∷ qs else q ∷ put_task r qs))
ascends_cons q r qs true c same less ascends rest =
    let all = first_pairs Less q.txn (txns_of qs) ascends in
    let equal : q.txn.0 ≡ r.txn.0 = grind (arith, same) in
    AllPairs-cons Less r.txn (txns_of qs) (λ k d below. omega (arith, equal, all k d below)) (rest_pairs Less q.txn (txns_of qs) ascends)
ascends_cons q r qs false true same less ascends rest =
    let all = first_pairs Less q.txn (txns_of qs) ascends in
    let before : r.txn.0 < q.txn.0 = grind (arith, less) in
    AllPairs-cons Less r.txn (txns_of (q ∷ qs)) (All-cons (Less r.txn) q.txn (txns_of qs) before (λ k d below. omega (arith, before, all k d below))) ascends
ascends_cons q r qs false false same less ascends rest =
    let after : q.txn.0 < r.txn.0 = grind (arith, same, less) in
    AllPairs-cons Less q.txn (txns_of (put_task r qs)) (all_put (Less q.txn) r qs (first_pairs Less q.txn (txns_of qs) ascends) after) (rest (rest_pairs Less q.txn (txns_of qs) ascends))

alone : (t : Txn) → Ascends (t ∷ [])
alone t = AllPairs-cons Less t [] (λ k d below. absurd (omega (arith, below))) (λ i j d before below. absurd (omega (arith, below)))

pub put_ascends : (r : Task) (rs : List Task) → Ascends (txns_of rs) → Ascends (txns_of (put_task r rs))
put_ascends r [] ascends = alone r.txn
put_ascends r (q ∷ qs) ascends = ascends_cons q r qs (is_txn r.txn q.txn) (nat_lt r.txn.0 q.txn.0) refl refl ascends (put_ascends r qs)

-- the program at a place is found there
pub found_here : (rs : List Task) (t : Txn) (k : ℕ) (q : Task) → k < length rs → q ≡ get_or rs k q → is_txn t q.txn ≡ true → task_of (drop k rs) t ≡ slice_get rs k
found_here rs t k q below is same =
    let this : is_txn t (get_or rs k q).txn ≡ true = subst (λ (z : Task). is_txn t z.txn ≡ true) is same in
    let found : task_of (get_or rs k q ∷ drop (suc k) rs) t ≡ Some (get_or rs k q) = rw this refl in
    ap (λ (qs : List Task). task_of qs t) (drop-cons rs k q below) ∙ found ∙ sym (slice_get-get_or rs k q below)

-- a program put where it was
pub put_here : (rs : List Task) (r : Task) (k : ℕ) (q : Task) → k < length rs → q ≡ get_or rs k q → is_txn r.txn q.txn ≡ true → take k rs ++ put_task r (drop k rs) ≡ slice_set rs k r
put_here rs r k q below is same =
    let this : is_txn r.txn (get_or rs k q).txn ≡ true = subst (λ (z : Task). is_txn r.txn z.txn ≡ true) is same in
    let put : put_task r (get_or rs k q ∷ drop (suc k) rs) ≡ r ∷ drop (suc k) rs = rw this refl in
    rw (drop-cons rs k q below, put, ← take-append-drop k (slice_set rs k r), take-set rs k r, drop-set rs k r below, add-one) refl

-- a program that was found, after a change
pub record Changes (rs : List Task) (t : Txn) (k : ℕ) (q r : Task) : Type 0 where
  pub found : task_of rs t ≡ Some q
  pub put : slice_set rs k r ≡ put_task r rs
  pub txns : txns_of (slice_set rs k r) ≡ txns_of rs

txns_set : (rs : List Task) (k : ℕ) (q r : Task) → slice_get rs k ≡ Some q → r.txn ≡ q.txn → txns_of (slice_set rs k r) ≡ txns_of rs
txns_set [] k q r at same = absurd (cc at)
txns_set (p ∷ rs) zero q r at same = let here : p ≡ q = cc at in ap (λ t. t ∷ txns_of rs) (same ∙ ap (λ (z : Task). z.txn) (sym here))
txns_set (p ∷ rs) (suc k) q r at same = ap (λ ts. p.txn ∷ ts) (txns_set rs k q r at same)

pub changes : (rs : List Task) (t : Txn) (k : ℕ) (q r d : Task) → Ascends (txns_of rs) → IsPlace rs t k → q ≡ get_or rs k d → r.txn ≡ q.txn → Changes rs t k q r
changes rs t k q r d ascends place is same =
    let at = slice_get-get_or rs k d place.within ∙ ap (λ z. Some z) (sym is) in
    let number : is_txn r.txn q.txn ≡ true = grind (arith, ap (λ (u : Txn). u.0) same) in
    record { found = place.found ∙ at; put = sym (put_at rs k q r ascends at number); txns = txns_set rs k q r at same }

done_cons : (b c : Bool) (r p : Task) (rs : List Task) → b ≡ c → r.txn ≡ p.txn → txns_of (if b then r ∷ filter (λ (z : Task). is_done z.doing) rs else filter (λ (z : Task). is_done z.doing) rs) ≡ txns_of (if c then p ∷ filter (λ (z : Task). is_done z.doing) rs else filter (λ (z : Task). is_done z.doing) rs)
done_cons true true r p rs both number = ap (λ t. t ∷ done_of rs) number
done_cons true false r p rs both number = absurd (cc both)
done_cons false true r p rs both number = absurd (cc both)
done_cons false false r p rs both number = refl

done_rest : (b : Bool) (p : Task) (xs ys : List Task) → txns_of xs ≡ txns_of ys → txns_of (if b then p ∷ xs else xs) ≡ txns_of (if b then p ∷ ys else ys)
done_rest true p xs ys same = ap (λ ts. p.txn ∷ ts) same
done_rest false p xs ys same = same

pub done_set : (rs : List Task) (k : ℕ) (q r : Task) → slice_get rs k ≡ Some q → r.txn ≡ q.txn → is_done r.doing ≡ is_done q.doing → done_of (slice_set rs k r) ≡ done_of rs
done_set [] k q r at same done = absurd (cc at)
done_set (p ∷ rs) zero q r at same done =
    let here : p ≡ q = cc at in
    let number : r.txn ≡ p.txn = same ∙ ap (λ (z : Task). z.txn) (sym here) in
    let both : is_done r.doing ≡ is_done p.doing = done ∙ ap (λ (z : Task). is_done z.doing) (sym here) in
    done_cons (is_done r.doing) (is_done p.doing) r p rs both number
done_set (p ∷ rs) (suc k) q r at same done = done_rest (is_done p.doing) p (filter (λ (z : Task). is_done z.doing) (slice_set rs k r)) (filter (λ (z : Task). is_done z.doing) rs) (done_set rs k q r at same done)

-- what is noted leaves a program done or not
noted_case : (b : Bool) (j : ℕ) (x : Item) (s : Site) (q : Option Site) → is_done (if b then Asking j x (Some s) else Asking j x q) ≡ false
noted_case true j x s q = refl
noted_case false j x s q = refl

pub noted_done : (k : ℕ) (s : Site) (d : Doing) → is_done (noted_at k s d) ≡ is_done d
noted_done k s (Asking j x q) = noted_case (j == k) j x s q
noted_done k s (Done reads writes) = refl
noted_done k s Over = refl

-- all programs changed, one after another
pub unchanged_at : (f : Task → Task) (rs ts : List Task) (k : ℕ) (d : Task) → ts ≡ map f (take k rs) ++ drop k rs → k < length rs → get_or ts k d ≡ get_or rs k d
unchanged_at f rs ts k d is below = rw is (grind (arith, common_steps, below))

set_by : (f : Task → Task) (rs : List Task) (k : ℕ) (q : Task) → slice_get rs k ≡ Some q → slice_set (map f (take k rs) ++ drop k rs) k (f q) ≡ map f (take (k + 1) rs) ++ drop (k + 1) rs
set_by f [] k q at = absurd (cc at)
set_by f (r ∷ rs) zero q at = let here : r ≡ q = cc at in ap (λ z. f z ∷ rs) (sym here)
set_by f (r ∷ rs) (suc k) q at = let e : suc k + 1 ≡ suc (k + 1) = omega arith in rw e (ap (λ ts. f r ∷ ts) (set_by f rs k q at))

pub changed_set : (f : Task → Task) (rs ts : List Task) (k : ℕ) (q : Task) → ts ≡ map f (take k rs) ++ drop k rs → slice_get rs k ≡ Some q → slice_set ts k (f q) ≡ map f (take (k + 1) rs) ++ drop (k + 1) rs
changed_set f rs ts k q is at = ap (λ z. slice_set z k (f q)) is ∙ set_by f rs k q at

pub sent_more : (f : Task → List Out) (rs : List Task) (k : ℕ) (q : Task) → slice_get rs k ≡ Some q → flat_map f (take (k + 1) rs) ≡ flat_map f (take k rs) ++ f q
sent_more f [] k q at = absurd (cc at)
sent_more f (r ∷ rs) zero q at = let here : r ≡ q = cc at in append-nil (f r) ∙ ap f here
sent_more f (r ∷ rs) (suc k) q at =
    let e : suc k + 1 ≡ suc (k + 1) = omega arith in
    rw e (ap (λ os. f r ++ os) (sent_more f rs k q at) ∙ sym (append_assoc (f r) (flat_map f (take k rs)) (f q)))

pub may_at : (rs : List Task) (k : ℕ) (q : Task) → may_ask rs ≡ true → slice_get rs k ≡ Some q → q.asks + 1 < 4294967296
may_at rs k q may at =
    let one : nat_lt q.asks 4294967295 ≡ true = all_at (λ (r : Task). nat_lt r.asks 4294967295) rs k q may at in
    grind (arith, one)

-- a fact for a success from another
pub on_ok : {T E P Q : Type 0} → (r : Result T E) → (P → Q) → OnOk r P → OnOk r Q
on_ok (Ok v) f h = f h
on_ok (Err e) f h = h

pub at_place : (rs : List Task) (t : Txn) (k : ℕ) (q d : Task) → IsPlace rs t k → q ≡ get_or rs k d → slice_get rs k ≡ Some q
at_place rs t k q d place is = slice_get-get_or rs k d place.within ∙ ap (λ z. Some z) (sym is)
