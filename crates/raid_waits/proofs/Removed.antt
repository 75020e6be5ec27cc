-- A transaction that is taken out, and one that is added.
use Rattle.std.proofs.Common.{◌≡◌, ℕ, zero, suc, ◌+◌, ◌<◌, Bool, true, false, not, ◌||◌, cond, List, [], ◌∷◌, ◌++◌, map, length, get_or, arith, sym, ◌∙◌, ap, subst, refl, Some, None}
use Rattle.std.specs.Prelude.{find, position, option_map, filter, remove}
use Rattle.std.specs.List.{list_any, position_from}
use Rattle.std.proofs.lemmas.Bool.{true≢false}
use Rattle.std.proofs.lemmas.Option.{none-some}
use Rattle.std.proofs.lemmas.List.{map-append}
use Rattle.std.proofs.lemmas.List.Quantifiers.{position-Some}
use Rattle.std.proofs.lemmas.Iterator.Adapters.{position_from-zero}
use Rattle.std.proofs.lemmas.Grind.{common_steps}
use Rattle.raid_base.specs.declared.names.Txn.{Txn}
use Rattle.raid_base.specs.declared.request.Request.{Request}
use Rattle.raid_base.specs.Names.{is_txn, has_txn}
use Rattle.raid_rules.specs.Committed.{AllOnce}
use Rattle.raid_rules.proofs.Push.{same_txn}
use Rattle.raid_rules.proofs.Txns.{once_push}
use Rattle.raid_waits.specs.Waiting.{is_among, request_of}

-- the transactions of the requests
abbrev pub txns_of : List (Txn × Request) → List Txn
txns_of rs = map (λ r. r.0) rs

pub among_has : (rs : List (Txn × Request)) (t : Txn) → has_txn (txns_of rs) t ≡ is_among rs t
among_has [] t = refl
among_has (r ∷ rs) t = ap (λ b. is_txn t r.0 || b) (among_has rs t)

-- one more, who isn't among them
pub push_once : (rs : List (Txn × Request)) (t : Txn) (request : Request) → AllOnce (txns_of rs) → is_among rs t ≡ false → AllOnce (txns_of (rs ++ (t, request) ∷ []))
push_once rs t request once out =
    subst AllOnce (sym (map-append (λ (r : Txn × Request). r.0) rs ((t, request) ∷ []))) (once_push (txns_of rs) t once (among_has rs t ∙ out))

-- who isn't among them
module _ {X : Type 0} (p : X → Bool) where
  pub none_from : (i : ℕ) (xs : List X) → position_from p i xs ≡ None → list_any p xs ≡ false
  none_from i [] e = refl
  none_from i (x ∷ xs) e = go (p x) (none_from (i + 1) xs) e
    where
      go : (b : Bool) → (position_from p (i + 1) xs ≡ None → list_any p xs ≡ false) → cond b (Some i) (position_from p (i + 1) xs) ≡ None → (b || list_any p xs) ≡ false
      go true r h = absurd (none-some i (sym h))
      go false r h = r h

  pub filter_out : (xs : List X) → list_any p xs ≡ false → filter (λ x. not (p x)) xs ≡ xs
  filter_out [] e = refl
  filter_out (x ∷ xs) e = go (p x) (filter_out xs) e
    where
      go : (b : Bool) → (list_any p xs ≡ false → filter (λ y. not (p y)) xs ≡ xs) → (b || list_any p xs) ≡ false → cond (not b) (x ∷ filter (λ y. not (p y)) xs) (filter (λ y. not (p y)) xs) ≡ x ∷ xs
      go true r h = absurd (true≢false h)
      go false r h = ap (λ ys. x ∷ ys) (r h)

  pub find_none : (xs : List X) → list_any p xs ≡ false → find p xs ≡ None
  find_none [] e = refl
  find_none (x ∷ xs) e = go (p x) (find_none xs) e
    where
      go : (b : Bool) → (list_any p xs ≡ false → find p xs ≡ None) → (b || list_any p xs) ≡ false → cond b (Some x) (find p xs) ≡ None
      go true r h = absurd (true≢false h)
      go false r h = r h

-- no place: nobody
pub no_place : (rs : List (Txn × Request)) (t : Txn) → position (λ r. is_txn t r.0) rs ≡ None → is_among rs t ≡ false
no_place rs t e = none_from (λ r. is_txn t r.0) 0 rs (sym (position_from-zero (λ r. is_txn t r.0) rs) ∙ e)

pub no_request : (rs : List (Txn × Request)) (t : Txn) → is_among rs t ≡ false → request_of rs t ≡ None
no_request rs t e = ap (option_map (λ (r : Txn × Request). r.1)) (find_none (λ r. is_txn t r.0) rs e)

-- the first that passes
find_first : {X : Type 0} (p : X → Bool) (xs : List X) (k : ℕ) (d : X) → k < length xs → p (get_or xs k d) ≡ true → ((j : ℕ) → j < k → p (get_or xs j d) ≡ false) → find p xs ≡ Some (get_or xs k d)
find_first p [] k d below here before = absurd (omega (arith, below))
find_first p (x ∷ xs) zero d below here before = ap (λ b. cond b (Some x) (find p xs)) here
find_first p (x ∷ xs) (suc k) d below here before =
    ap (λ b. cond b (Some x) (find p xs)) (before 0 (omega arith)) ∙ find_first p xs k d (omega (arith, below)) here (λ j l. before (suc j) (omega (arith, l)))

-- where each stands once, without the first is without all
without_first : (t : Txn) (rs : List (Txn × Request)) (k : ℕ) (d : Txn × Request) → AllOnce (txns_of rs) → k < length rs → is_txn t (get_or rs k d).0 ≡ true →
    ((j : ℕ) → j < k → is_txn t (get_or rs j d).0 ≡ false) → remove rs k ≡ filter (λ r. not (is_txn t r.0)) rs
without_first t [] k d once below here before = absurd (omega (arith, below))
without_first t (r ∷ rs) zero d once below here before =
    sym (ap (λ b. cond (not b) (r ∷ filter (λ q. not (is_txn t q.0)) rs) (filter (λ q. not (is_txn t q.0)) rs)) here
    ∙ filter_out (λ q. is_txn t q.0) rs (subst (λ u. is_among rs u ≡ false) (same_txn r.0 t here) (sym (among_has rs r.0) ∙ once.0)))
without_first t (r ∷ rs) (suc k) d once below here before =
    ap (λ qs. r ∷ qs) (without_first t rs k d once.1 (omega (arith, below)) here (λ j l. before (suc j) (omega (arith, l))))
    ∙ sym (ap (λ b. cond (not b) (r ∷ filter (λ q. not (is_txn t q.0)) rs) (filter (λ q. not (is_txn t q.0)) rs)) (before 0 (omega arith)))

pub request_there : (t : Txn) (rs : List (Txn × Request)) (k : ℕ) (d : Txn × Request) → position (λ r. is_txn t r.0) rs ≡ Some k → request_of rs t ≡ Some (get_or rs k d).1
request_there t rs k d e =
    let s = position-Some (λ r. is_txn t r.0) rs k d e in
    ap (option_map (λ (r : Txn × Request). r.1)) (find_first (λ r. is_txn t r.0) rs k d s.0 s.1 s.2)

pub left_there : (t : Txn) (rs : List (Txn × Request)) (k : ℕ) (d : Txn × Request) → AllOnce (txns_of rs) → position (λ r. is_txn t r.0) rs ≡ Some k → remove rs k ≡ filter (λ r. not (is_txn t r.0)) rs
left_there t rs k d once e =
    let s = position-Some (λ r. is_txn t r.0) rs k d e in
    without_first t rs k d once s.0 s.1 s.2

-- fewer stand once too
fewer : (p : Txn × Request → Bool) (rs : List (Txn × Request)) (t : Txn) → has_txn (txns_of rs) t ≡ false → has_txn (txns_of (filter p rs)) t ≡ false
fewer p [] t e = refl
fewer p (r ∷ rs) t e = go (p r) (fewer p rs t (grind (arith, common_steps, e)))
  where
    go : (b : Bool) → has_txn (txns_of (filter p rs)) t ≡ false → has_txn (txns_of (cond b (r ∷ filter p rs) (filter p rs))) t ≡ false
    go true f = grind (arith, common_steps, e, f)
    go false f = f

pub filter_once : (p : Txn × Request → Bool) (rs : List (Txn × Request)) → AllOnce (txns_of rs) → AllOnce (txns_of (filter p rs))
filter_once p [] once = once
filter_once p (r ∷ rs) once = go (p r) (filter_once p rs once.1)
  where
    go : (b : Bool) → AllOnce (txns_of (filter p rs)) → AllOnce (txns_of (cond b (r ∷ filter p rs) (filter p rs)))
    go true f = (fewer p rs r.0 once.0, f)
    go false f = f
