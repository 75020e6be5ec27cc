-- What programs are about, when ballots change.
use Rattle.std.proofs.Common.{◌≡◌, ◌<◌, ◌==◌, nat_lt, Bool, true, false, not, if◌then◌else◌, List, [], ◌∷◌, ◌++◌, map, filter, Option, Some, None, arith, ap, sym, subst, ◌∙◌, refl}
use Rattle.std.specs.Prelude.{find, option_map, ◌||◌}
use Rattle.std.specs.Option.{option_map_or}
use Rattle.std.specs.List.{All, list_any}
use Rattle.std.proofs.lemmas.List.Elements.{All-cons, All-head, All-tail}
use Rattle.raid_base.specs.declared.names.Txn.{Txn}
use Rattle.raid_base.specs.declared.names.Site.{Site}
use Rattle.raid_base.specs.Names.{is_txn, has_txn}
use Rattle.raid_steps.specs.State.{preparing, sent, Running}
use Rattle.raid_steps.specs.Programs.{put_running}
use Rattle.raid_driver.specs.declared.task.Doing.{Doing}
use Rattle.raid_driver.specs.declared.task.Doing.TheVariants.{Asking, Done, Over}
use Rattle.raid_driver.specs.declared.task.Task.{Task}
use Rattle.raid_driver.specs.Drive.{Ascends, txns_of, done_of, task_of, put_task, is_done}
use Rattle.raid_driver.proofs.Places.{first_pairs, rest_pairs, found_txn}
use Rattle.raid_vote.specs.declared.changes.Ballot.{Ballot}
use Rattle.raid_vote.specs.Ballots.{is_of, awaiting, changed}
use Rattle.raid_site.specs.Whole.{phase_of, running_of, Same}

abbrev pub Less : Txn → Txn → Type 0
Less a b = a.0 < b.0

pub same_all : (t : Txn) (bs : List Ballot) → Same t bs bs
same_all t bs u other = refl

-- without the transaction's
closed_cons : (t u : Txn) (b : Ballot) (bs cs : List Ballot) (x y : Bool) → is_of t b ≡ x → is_of u b ≡ y → is_txn t u ≡ false → find (is_of u) bs ≡ find (is_of u) cs →
    (if y then Some b else find (is_of u) bs) ≡ find (is_of u) (if not x then b ∷ cs else cs)
closed_cons t u b bs cs true true this that other rest = absurd (let e : true ≡ false = sym that ∙ grind (arith, this, other) in cc e)
closed_cons t u b bs cs true false this that other rest = rest
closed_cons t u b bs cs false true this that other rest = rw that refl
closed_cons t u b bs cs false false this that other rest = rw that rest

pub same_closed : (t : Txn) (bs : List Ballot) → Same t bs (filter (λ b. not (is_of t b)) bs)
same_closed t [] u other = refl
same_closed t (b ∷ bs) u other = closed_cons t u b bs (filter (λ c. not (is_of t c)) bs) (is_of t b) (is_of u b) refl refl other (same_closed t bs u other)

closed_own : (t : Txn) (b : Ballot) (cs : List Ballot) (x : Bool) → is_of t b ≡ x → find (is_of t) cs ≡ None → find (is_of t) (if not x then b ∷ cs else cs) ≡ None
closed_own t b cs true this rest = rest
closed_own t b cs false this rest = rw this rest

pub own_closed : (t : Txn) (bs : List Ballot) → find (is_of t) (filter (λ b. not (is_of t b)) bs) ≡ None
own_closed t [] = refl
own_closed t (b ∷ bs) = closed_own t b (filter (λ c. not (is_of t c)) bs) (is_of t b) refl (own_closed t bs)

-- with one more
more_cons : (u : Txn) (b : Ballot) (bs cs : List Ballot) (y : Bool) → find (is_of u) bs ≡ find (is_of u) cs → (if y then Some b else find (is_of u) bs) ≡ (if y then Some b else find (is_of u) cs)
more_cons u b bs cs true rest = refl
more_cons u b bs cs false rest = rest

pub same_more : (t : Txn) (vs : List Site) (bs : List Ballot) → Same t bs (bs ++ record { txn = t; awaited = vs } ∷ [])
same_more t vs [] u other = let e : (t.0 == u.0) ≡ false = grind (arith, other) in rw e refl
same_more t vs (b ∷ bs) u other = more_cons u b bs (bs ++ record { txn = t; awaited = vs } ∷ []) (is_of u b) (same_more t vs bs u other)

none_cons : (t : Txn) (b : Ballot) (bs : List Ballot) (o : Option Ballot) (y : Bool) → (if y then Some b else find (is_of t) bs) ≡ None → (find (is_of t) bs ≡ None → o ≡ find (is_of t) bs) → o ≡ None
none_cons t b bs o true none rest = absurd (cc none)
none_cons t b bs o false none rest = rest none ∙ none

own_more_cons : (t : Txn) (b c : Ballot) (bs ds : List Ballot) (y : Bool) → (if y then Some b else find (is_of t) bs) ≡ None → (find (is_of t) bs ≡ None → find (is_of t) ds ≡ Some c) → (if y then Some b else find (is_of t) ds) ≡ Some c
own_more_cons t b c bs ds true none rest = absurd (cc none)
own_more_cons t b c bs ds false none rest = rest none

pub own_more : (t : Txn) (vs : List Site) (bs : List Ballot) → find (is_of t) bs ≡ None → find (is_of t) (bs ++ record { txn = t; awaited = vs } ∷ []) ≡ Some (record { txn = t; awaited = vs })
own_more t vs [] none = let e : (t.0 == t.0) ≡ true = grind arith in rw e refl
own_more t vs (b ∷ bs) none = own_more_cons t b (record { txn = t; awaited = vs }) bs (bs ++ record { txn = t; awaited = vs } ∷ []) (is_of t b) none (own_more t vs bs)

-- with other sites awaited
changed_other : (t u : Txn) (f : List Site → List Site) (b : Ballot) (bs cs : List Ballot) (x y : Bool) → is_of t b ≡ x → is_of u b ≡ y → is_txn t u ≡ false → find (is_of u) bs ≡ find (is_of u) cs →
    (if y then Some b else find (is_of u) bs) ≡ find (is_of u) ((if x then awaiting f b else b) ∷ cs)
changed_other t u f b bs cs true true this that other rest = absurd (let e : true ≡ false = sym that ∙ grind (arith, this, other) in cc e)
changed_other t u f b bs cs true false this that other rest = rw that rest
changed_other t u f b bs cs false true this that other rest = rw that refl
changed_other t u f b bs cs false false this that other rest = rw that rest

pub same_changed : (t : Txn) (f : List Site → List Site) (bs : List Ballot) → Same t bs (map (changed t f) bs)
same_changed t f [] u other = refl
same_changed t f (b ∷ bs) u other = changed_other t u f b bs (map (changed t f) bs) (is_of t b) (is_of u b) refl refl other (same_changed t f bs u other)

changed_this : (t : Txn) (f : List Site → List Site) (b : Ballot) (bs cs : List Ballot) (x : Bool) → is_of t b ≡ x → find (is_of t) cs ≡ option_map (awaiting f) (find (is_of t) bs) →
    find (is_of t) ((if x then awaiting f b else b) ∷ cs) ≡ option_map (awaiting f) (if x then Some b else find (is_of t) bs)
changed_this t f b bs cs true this rest = rw this refl
changed_this t f b bs cs false this rest = rw this rest

pub own_changed : (t : Txn) (f : List Site → List Site) (bs : List Ballot) → find (is_of t) (map (changed t f) bs) ≡ option_map (awaiting f) (find (is_of t) bs)
own_changed t f [] = refl
own_changed t f (b ∷ bs) = changed_this t f b bs (map (changed t f) bs) (is_of t b) refl (own_changed t f bs)

all_cons : (u : Txn) (f : List Site → List Site) (b : Ballot) (bs cs : List Ballot) (x : Bool) → find (is_of u) cs ≡ option_map (awaiting f) (find (is_of u) bs) →
    (if x then Some (awaiting f b) else find (is_of u) cs) ≡ option_map (awaiting f) (if x then Some b else find (is_of u) bs)
all_cons u f b bs cs true rest = refl
all_cons u f b bs cs false rest = rest

pub all_changed : (u : Txn) (f : List Site → List Site) (bs : List Ballot) → find (is_of u) (map (awaiting f) bs) ≡ option_map (awaiting f) (find (is_of u) bs)
all_changed u f [] = refl
all_changed u f (b ∷ bs) = all_cons u f b bs (map (awaiting f) bs) (is_of u b) (all_changed u f bs)

-- what a program of another transaction is about stays
pub phase_same : (t u : Txn) (d : Doing) (bs cs : List Ballot) → Same t bs cs → is_txn t u ≡ false → phase_of bs u d ≡ phase_of cs u d
phase_same t u (Asking k x s) bs cs same other = refl
phase_same t u (Done reads writes) bs cs same other = ap (λ (o : Option Ballot). option_map_or (λ (b : Ballot). preparing reads writes b.awaited) o sent) (same u other)
phase_same t u Over bs cs same other = refl

pub running_same : (t : Txn) (r : Task) (bs cs : List Ballot) → Same t bs cs → is_txn t r.txn ≡ false → running_of bs r ≡ running_of cs r
running_same t r bs cs same other = ap (λ z. let q : Running = record { txn = r.txn; answers = r.answers; asks = r.asks; phase = z } in q) (phase_same t r.txn r.doing bs cs same other)

pub rest_same : (t : Txn) (rs : List Task) (bs cs : List Ballot) → Same t bs cs → All (Less t) (txns_of rs) → map (running_of bs) rs ≡ map (running_of cs) rs
rest_same t [] bs cs same all = refl
rest_same t (r ∷ rs) bs cs same all =
    let less : t.0 < r.txn.0 = All-head (Less t) r.txn (txns_of rs) all in
    let other : is_txn t r.txn ≡ false = grind (arith, less) in
    ap (λ q. q ∷ map (running_of bs) rs) (running_same t r bs cs same other) ∙ ap (λ qs. running_of cs r ∷ qs) (rest_same t rs bs cs same (All-tail (Less t) r.txn (txns_of rs) all))

-- a program put in its place
put_cases : (bs cs : List Ballot) (r p : Task) (ps : List Task) (b c : Bool) → is_txn r.txn p.txn ≡ b → nat_lt r.txn.0 p.txn.0 ≡ c → Same r.txn bs cs → All (Less p.txn) (txns_of ps) →
    put_running (running_of cs r) (map (running_of bs) ps) ≡ map (running_of cs) (put_task r ps) →
    (if b then running_of cs r ∷ map (running_of bs) ps else if c then running_of cs r ∷ running_of bs p ∷ map (running_of bs) ps else running_of bs p ∷ put_running (running_of cs r) (map (running_of bs) ps))
    ≡ map (running_of cs) (if b then r ∷ ps else if c then r ∷ p ∷ ps else p ∷ put_task r ps)
put_cases bs cs r p ps true c this less same all rest =
    let equal : p.txn.0 ≡ r.txn.0 = grind (arith, this) in
    ap (λ qs. running_of cs r ∷ qs) (rest_same r.txn ps bs cs same (λ k d below. omega (arith, equal, all k d below)))
put_cases bs cs r p ps false true this less same all rest =
    let before : r.txn.0 < p.txn.0 = grind (arith, less) in
    ap (λ qs. running_of cs r ∷ qs) (rest_same r.txn (p ∷ ps) bs cs same (All-cons (Less r.txn) p.txn (txns_of ps) before (λ k d below. omega (arith, before, all k d below))))
put_cases bs cs r p ps false false this less same all rest =
    ap (λ q. q ∷ put_running (running_of cs r) (map (running_of bs) ps)) (running_same r.txn p bs cs same this) ∙ ap (λ qs. running_of cs p ∷ qs) rest

pub put_same : (bs cs : List Ballot) (r : Task) (rs : List Task) → Same r.txn bs cs → Ascends (txns_of rs) → put_running (running_of cs r) (map (running_of bs) rs) ≡ map (running_of cs) (put_task r rs)
put_same bs cs r [] same ascends = refl
put_same bs cs r (p ∷ ps) same ascends =
    put_cases bs cs r p ps (is_txn r.txn p.txn) (nat_lt r.txn.0 p.txn.0) refl refl same (first_pairs Less p.txn (txns_of ps) ascends) (put_same bs cs r ps same (rest_pairs Less p.txn (txns_of ps) ascends))

-- the transaction's program among those that run
found_cons : (bs : List Ballot) (t : Txn) (r : Task) (rs : List Task) (b : Bool) → find (λ (q : Running). is_txn t q.txn) (map (running_of bs) rs) ≡ option_map (running_of bs) (task_of rs t) →
    (if b then Some (running_of bs r) else find (λ (q : Running). is_txn t q.txn) (map (running_of bs) rs)) ≡ option_map (running_of bs) (if b then Some r else task_of rs t)
found_cons bs t r rs true rest = refl
found_cons bs t r rs false rest = rest

pub running_found : (bs : List Ballot) (t : Txn) (rs : List Task) → find (λ (q : Running). is_txn t q.txn) (map (running_of bs) rs) ≡ option_map (running_of bs) (task_of rs t)
running_found bs t [] = refl
running_found bs t (r ∷ rs) = found_cons bs t r rs (is_txn t r.txn) (running_found bs t rs)

pub runs_same : (bs : List Ballot) (t : Txn) (rs : List Task) → list_any (λ (q : Running). is_txn t q.txn) (map (running_of bs) rs) ≡ has_txn (txns_of rs) t
runs_same bs t [] = refl
runs_same bs t (r ∷ rs) = ap (λ b. is_txn t r.txn || b) (runs_same bs t rs)

-- those that are left when a transaction has ended
left_cons : (t : Txn) (bs cs : List Ballot) (r : Task) (rs : List Task) (b : Bool) → is_txn t r.txn ≡ b → Same t bs cs →
    filter (λ (q : Running). not (is_txn t q.txn)) (map (running_of bs) rs) ≡ map (running_of cs) (filter (λ (q : Task). not (is_txn t q.txn)) rs) →
    (if not b then running_of bs r ∷ filter (λ (q : Running). not (is_txn t q.txn)) (map (running_of bs) rs) else filter (λ (q : Running). not (is_txn t q.txn)) (map (running_of bs) rs))
    ≡ map (running_of cs) (if not b then r ∷ filter (λ (q : Task). not (is_txn t q.txn)) rs else filter (λ (q : Task). not (is_txn t q.txn)) rs)
left_cons t bs cs r rs true this same rest = rest
left_cons t bs cs r rs false this same rest =
    ap (λ q. q ∷ filter (λ (q : Running). not (is_txn t q.txn)) (map (running_of bs) rs)) (running_same t r bs cs same this) ∙ ap (λ qs. running_of cs r ∷ qs) rest

pub left_same : (t : Txn) (bs cs : List Ballot) (rs : List Task) → Same t bs cs → filter (λ (q : Running). not (is_txn t q.txn)) (map (running_of bs) rs) ≡ map (running_of cs) (filter (λ (q : Task). not (is_txn t q.txn)) rs)
left_same t bs cs [] same = refl
left_same t bs cs (r ∷ rs) same = left_cons t bs cs r rs (is_txn t r.txn) refl same (left_same t bs cs rs same)

-- a program that was found is put back
found_larger_cons : (a : Txn) (r q : Task) (o : Option Task) (b : Bool) → (if b then Some r else o) ≡ Some q → a.0 < r.txn.0 → (o ≡ Some q → a.0 < q.txn.0) → a.0 < q.txn.0
found_larger_cons a r q o true found less rest = let same : r ≡ q = cc found in subst (λ (z : Task). a.0 < z.txn.0) same less
found_larger_cons a r q o false found less rest = rest found

found_larger : (a : Txn) (rs : List Task) (t : Txn) (q : Task) → All (Less a) (txns_of rs) → task_of rs t ≡ Some q → a.0 < q.txn.0
found_larger a [] t q all found = absurd (cc found)
found_larger a (r ∷ rs) t q all found =
    found_larger_cons a r q (task_of rs t) (is_txn t r.txn) found (All-head (Less a) r.txn (txns_of rs) all) (found_larger a rs t q (All-tail (Less a) r.txn (txns_of rs) all))

back_cons : (r q : Task) (rs : List Task) (t : Txn) (b : Bool) → is_txn t r.txn ≡ b → (if b then Some r else task_of rs t) ≡ Some q → is_txn t q.txn ≡ true → All (Less r.txn) (txns_of rs) →
    (task_of rs t ≡ Some q → put_task q rs ≡ rs) → put_task q (r ∷ rs) ≡ r ∷ rs
back_cons r q rs t true this found number all rest =
    let same : r ≡ q = cc found in
    let e : is_txn q.txn r.txn ≡ true = grind (arith, this, number) in
    rw e (ap (λ z. z ∷ rs) (sym same))
back_cons r q rs t false this found number all rest =
    let less : r.txn.0 < q.txn.0 = found_larger r.txn rs t q all found in
    let e : is_txn q.txn r.txn ≡ false = grind (arith, less) in
    let later : nat_lt q.txn.0 r.txn.0 ≡ false = grind (arith, less) in
    rw (e, later) (ap (λ qs. r ∷ qs) (rest found))

pub put_back : (rs : List Task) (t : Txn) (q : Task) → Ascends (txns_of rs) → task_of rs t ≡ Some q → put_task q rs ≡ rs
put_back [] t q ascends found = absurd (cc found)
put_back (r ∷ rs) t q ascends found =
    back_cons r q rs t (is_txn t r.txn) refl found (found_txn (r ∷ rs) t q found) (first_pairs Less r.txn (txns_of rs) ascends) (put_back rs t q (rest_pairs Less r.txn (txns_of rs) ascends))

-- a program that was put is found
put_found_cons : (r p : Task) (ps : List Task) (b c : Bool) → is_txn r.txn p.txn ≡ b → task_of (put_task r ps) r.txn ≡ Some r → task_of (if b then r ∷ ps else if c then r ∷ p ∷ ps else p ∷ put_task r ps) r.txn ≡ Some r
put_found_cons r p ps true c this rest = let e : (r.txn.0 == r.txn.0) ≡ true = grind arith in rw e refl
put_found_cons r p ps false true this rest = let e : (r.txn.0 == r.txn.0) ≡ true = grind arith in rw e refl
put_found_cons r p ps false false this rest = rw this rest

pub put_found : (r : Task) (rs : List Task) → task_of (put_task r rs) r.txn ≡ Some r
put_found r [] = let e : (r.txn.0 == r.txn.0) ≡ true = grind arith in rw e refl
put_found r (p ∷ ps) = put_found_cons r p ps (is_txn r.txn p.txn) (nat_lt r.txn.0 p.txn.0) refl (put_found r ps)

-- whether it is done
no_done_cons : (t : Txn) (r : Task) (rs : List Task) (d : Bool) → is_txn t r.txn ≡ false → has_txn (done_of rs) t ≡ false → has_txn (txns_of (if d then r ∷ filter (λ (q : Task). is_done q.doing) rs else filter (λ (q : Task). is_done q.doing) rs)) t ≡ false
no_done_cons t r rs true other rest = rw other rest
no_done_cons t r rs false other rest = rest

no_done : (t : Txn) (rs : List Task) → All (Less t) (txns_of rs) → has_txn (done_of rs) t ≡ false
no_done t [] all = refl
no_done t (r ∷ rs) all =
    let less : t.0 < r.txn.0 = All-head (Less t) r.txn (txns_of rs) all in
    no_done_cons t r rs (is_done r.doing) (grind (arith, less)) (no_done t rs (All-tail (Less t) r.txn (txns_of rs) all))

over_cons : (t : Txn) (r q : Task) (rs : List Task) (b d : Bool) → is_txn t r.txn ≡ b → is_done r.doing ≡ d → (if b then Some r else task_of rs t) ≡ Some q → All (Less r.txn) (txns_of rs) →
    (task_of rs t ≡ Some q → has_txn (done_of rs) t ≡ is_done q.doing) →
    has_txn (txns_of (if d then r ∷ filter (λ (z : Task). is_done z.doing) rs else filter (λ (z : Task). is_done z.doing) rs)) t ≡ is_done q.doing
over_cons t r q rs true true this done found all rest = let same : r ≡ q = cc found in rw this (sym done ∙ ap (λ (z : Task). is_done z.doing) same)
over_cons t r q rs true false this done found all rest =
    let same : r ≡ q = cc found in
    let equal : r.txn.0 ≡ t.0 = grind (arith, this) in
    no_done t rs (λ k d below. omega (arith, equal, all k d below)) ∙ sym done ∙ ap (λ (z : Task). is_done z.doing) same
over_cons t r q rs false true this done found all rest = rw this (rest found)
over_cons t r q rs false false this done found all rest = rest found

pub over_found : (t : Txn) (q : Task) (rs : List Task) → Ascends (txns_of rs) → task_of rs t ≡ Some q → has_txn (done_of rs) t ≡ is_done q.doing
over_found t q [] ascends found = absurd (cc found)
over_found t q (r ∷ rs) ascends found =
    over_cons t r q rs (is_txn t r.txn) (is_done r.doing) refl refl found (first_pairs Less r.txn (txns_of rs) ascends) (over_found t q rs (rest_pairs Less r.txn (txns_of rs) ascends))

over_none_cons : (t : Txn) (r : Task) (rs : List Task) (b d : Bool) → is_txn t r.txn ≡ b → (if b then Some r else task_of rs t) ≡ None → (task_of rs t ≡ None → has_txn (done_of rs) t ≡ false) →
    has_txn (txns_of (if d then r ∷ filter (λ (z : Task). is_done z.doing) rs else filter (λ (z : Task). is_done z.doing) rs)) t ≡ false
over_none_cons t r rs true d this none rest = absurd (cc none)
over_none_cons t r rs false true this none rest = rw this (rest none)
over_none_cons t r rs false false this none rest = rest none

pub over_none : (t : Txn) (rs : List Task) → task_of rs t ≡ None → has_txn (done_of rs) t ≡ false
over_none t [] none = refl
over_none t (r ∷ rs) none = over_none_cons t r rs (is_txn t r.txn) (is_done r.doing) refl none (over_none t rs)
