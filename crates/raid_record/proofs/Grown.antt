-- What a history with one more entry says: whose programs may be tried again, who waits, and who has begun.
use Rattle.std.proofs.Common.{◌≡◌, ℕ, zero, suc, ◌+◌, ◌<◌, ◌==◌, nat_lt, Bool, true, false, not, ◌&&◌, ◌||◌, cond, List, [], ◌∷◌, ◌++◌, filter, filter_map, length, get_or, Some, true≢false, refl, ap, sym, subst, arith, ◌∙◌}
use Rattle.std.specs.Prelude.{find}
use Rattle.std.specs.List.{list_any, All}
use Rattle.std.specs.Option.{option_map_or}
use Rattle.std.proofs.lemmas.Bool.{and_parts, or_left}
use Rattle.std.proofs.lemmas.List.Elements.{All-append, filter-append, filter_map-append}
use Rattle.std.proofs.lemmas.List.Folds.{list_any-append}
use Rattle.raid_base.specs.declared.names.Txn.{Txn}
use Rattle.raid_base.specs.declared.names.Site.{Site}
use Rattle.raid_base.specs.declared.request.Request.{Request}
use Rattle.raid_base.specs.declared.entry.Entry.{Entry}
use Rattle.raid_base.specs.declared.entry.Entry.TheVariants.{Begin, Read, Wait, Commit, Abort, Ack, SwitchOn, SwitchEnd, Down, Up, Clear}
use Rattle.raid_base.specs.declared.entry.Noted.{Noted}
use Rattle.raid_base.specs.Names.{is_txn, is_site, has_txn}
use Rattle.raid_workload.specs.declared.workload.Workload.{Workload}
use Rattle.raid_workload.specs.Parts.{txns, home}
use Rattle.raid_rules.specs.Entries.{is_begin_of, is_end_of, is_down, wait_of}
use Rattle.raid_rules.specs.History.{add, next, has_begun, has_ended, is_running, waiting}
use Rattle.raid_rules.proofs.Push.{has_begun_push, same_txn}
use Rattle.raid_legal.specs.Seen.{attempt, has_down_after, is_restart}
use Rattle.raid_history.specs.Tables.{may_follow}
use Rattle.raid_steps.specs.State.{Copying}
use Rattle.raid_steps.specs.Sequencer.{ends_copying}
use Rattle.raid_copier.specs.declared.copiers.Copiers.{Copiers}
use Rattle.raid_copier.specs.Copiers as ways
use Rattle.raid_record.specs.Keeps.{is_left, AreNext, is_fit}
use Rattle.raid_record.specs.Turns.{turn_left, turn_waits}
use Rattle.raid_record.proofs.Lists.{any_in, any_and, none_in, kept_in, kept_twice, and_true, and_false, or_false}

abbrev pub AllBelow : ℕ → List Noted → Type 0
AllBelow k p = All (λ m. m.at < k) p

-- a site's stops after an entry
down_push : (p : List Noted) (n : Noted) (k : ℕ) (s : Site) → has_down_after (p ++ n ∷ []) k s ≡ (has_down_after p k s || (nat_lt k n.at && is_down (is_site s) n.entry))
down_push p n k s = list_any-append (λ m. nat_lt k m.at && is_down (is_site s) m.entry) p (n ∷ []) ∙ ap (λ b. has_down_after p k s || b) (or_false (nat_lt k n.at && is_down (is_site s) n.entry))

none_above : (p : List Noted) (k : ℕ) (s : Site) → AllBelow k p → has_down_after p k s ≡ false
none_above p k s below = none_in (λ m. nat_lt k m.at && is_down (is_site s) m.entry) p (λ i d l. ap (λ b. b && is_down (is_site s) (get_or p i d).entry) (past (get_or p i d).at (below i d l)))
  where
    past : (m : ℕ) → m < k → nat_lt k m ≡ false
    past m h = grind (arith, h)

-- an entry leaves a transaction's mark
abbrev leaves : Workload → List Noted → Txn → Noted → Bool
leaves w p t m = is_restart t m.entry && not (has_down_after p m.at (home w t))

left_more : (w : Workload) (p : List Noted) (e : Entry) (t : Txn) → is_left w (add p e) t ≡ (list_any (leaves w (add p e) t) p || leaves w (add p e) t (next p e))
left_more w p e t = list_any-append (leaves w (add p e) t) p (next p e ∷ []) ∙ ap (λ b. list_any (leaves w (add p e) t) p || b) (or_false (leaves w (add p e) t (next p e)))

-- an entry that is no stop
up_before : (w : Workload) (p : List Noted) (e : Entry) (t : Txn) → is_down (is_site (home w t)) e ≡ false → list_any (leaves w (add p e) t) p ≡ is_left w p t
up_before w p e t up = any_in (leaves w (add p e) t) (leaves w p t) p (λ i d l. ap (λ b. is_restart t (get_or p i d).entry && not b) (same (get_or p i d).at))
  where
    same : (k : ℕ) → has_down_after (add p e) k (home w t) ≡ has_down_after p k (home w t)
    same k = down_push p (next p e) k (home w t) ∙ ap (λ b. has_down_after p k (home w t) || (nat_lt k (length p + 1) && b)) up ∙ ap (λ b. has_down_after p k (home w t) || b) (and_false (nat_lt k (length p + 1))) ∙ or_false (has_down_after p k (home w t))

last_alone : (w : Workload) (p : List Noted) (e : Entry) (t : Txn) → AllBelow (length p + 1) p → leaves w (add p e) t (next p e) ≡ is_restart t e
last_alone w p e t below =
    ap (λ b. is_restart t e && not b)
    (down_push p (next p e) (length p + 1) (home w t)
    ∙ ap (λ b. b || (nat_lt (length p + 1) (length p + 1) && is_down (is_site (home w t)) e)) (none_above p (length p + 1) (home w t) below)
    ∙ ap (λ b. b && is_down (is_site (home w t)) e) (let e : nat_lt (length p + 1) (length p + 1) ≡ false = grind arith in e))
    ∙ and_true (is_restart t e)

left_up : (w : Workload) (p : List Noted) (e : Entry) (t : Txn) → AllBelow (length p + 1) p → is_down (is_site (home w t)) e ≡ false → is_left w (add p e) t ≡ (is_left w p t || is_restart t e)
left_up w p e t below up = left_more w p e t ∙ ap (λ b. b || leaves w (add p e) t (next p e)) (up_before w p e t up) ∙ ap (λ b. is_left w p t || b) (last_alone w p e t below)

-- a stop
left_down : (w : Workload) (p : List Noted) (s : Site) (t : Txn) → AllBelow (length p + 1) p → is_left w (add p (Down s)) t ≡ (is_left w p t && not (is_site s (home w t)))
left_down w p s t below =
    left_more w p (Down s) t ∙ or_false (list_any (leaves w (add p (Down s)) t) p)
    ∙ any_in (leaves w (add p (Down s)) t) (λ m. leaves w p t m && not (is_site s h)) p (λ i d l. one (get_or p i d) (below i d l))
    ∙ any_and (leaves w p t) (not (is_site s h)) p
  where
    h : Site
    h = home w t

    go : (a b c : Bool) → (a && not (b || c)) ≡ ((a && not b) && not c)
    go true true c = refl
    go true false c = refl
    go false b c = refl

    one : (m : Noted) → m.at < length p + 1 → leaves w (add p (Down s)) t m ≡ (leaves w p t m && not (is_site s h))
    one m under =
        ap (λ b. is_restart t m.entry && not b)
        (down_push p (next p (Down s)) m.at h
        ∙ ap (λ b. has_down_after p m.at h || (b && is_site h s)) (let e : nat_lt m.at (length p + 1) ≡ true = grind (arith, under) in e)
        ∙ ap (λ b. has_down_after p m.at h || b) (let e : (s.0 == h.0) ≡ (h.0 == s.0) = grind arith in e))
        ∙ go (is_restart t m.entry) (has_down_after p m.at h) (is_site s h)

pub left_push : (w : Workload) (p : List Noted) (e : Entry) (t : Txn) → AllBelow (length p + 1) p → is_left w (add p e) t ≡ turn_left w t (is_left w p t) e
left_push w p (Begin u s) t below = left_up w p (Begin u s) t below refl ∙ or_false (is_left w p t)
left_push w p (Read u x s) t below = left_up w p (Read u x s) t below refl ∙ or_false (is_left w p t)
left_push w p (Wait u r) t below = left_up w p (Wait u r) t below refl ∙ or_false (is_left w p t)
left_push w p (Commit u r a) t below = left_up w p (Commit u r a) t below refl ∙ or_false (is_left w p t)
left_push w p (Abort u cause act) t below = left_up w p (Abort u cause act) t below refl
left_push w p (Ack u s) t below = left_up w p (Ack u s) t below refl ∙ or_false (is_left w p t)
left_push w p (SwitchOn k kind method) t below = left_up w p (SwitchOn k kind method) t below refl ∙ or_false (is_left w p t)
left_push w p (SwitchEnd k) t below = left_up w p (SwitchEnd k) t below refl ∙ or_false (is_left w p t)
left_push w p (Down s) t below = left_down w p s t below
left_push w p (Up s k) t below = left_up w p (Up s k) t below refl ∙ or_false (is_left w p t)
left_push w p (Clear s x v) t below = left_up w p (Clear s x v) t below refl ∙ or_false (is_left w p t)

-- who runs after one more entry
has_ended_push : (p : List Noted) (n : Noted) (t : Txn) → has_ended (p ++ n ∷ []) t ≡ (has_ended p t || is_end_of t n.entry)
has_ended_push p n t = list_any-append (λ m. is_end_of t m.entry) p (n ∷ []) ∙ ap (λ b. has_ended p t || b) (or_false (is_end_of t n.entry))

running_push : (p : List Noted) (n : Noted) (t : Txn) → is_running (p ++ n ∷ []) t ≡ ((has_begun p t || is_begin_of t n.entry) && not (has_ended p t || is_end_of t n.entry))
running_push p n t = ap (λ b. b && not (has_ended (p ++ n ∷ []) t)) (has_begun_push p n t) ∙ ap (λ b. (has_begun p t || is_begin_of t n.entry) && not b) (has_ended_push p n t)

-- the requests of all Waits
abbrev waits_of : List Noted → List (Txn × Request)
waits_of p = filter_map (λ n. wait_of n.entry) p

abbrev pub Waited : List Noted → Type 0
Waited p = All (λ r. has_begun p r.0 ≡ true) (waits_of p)

abbrev runs : List Noted → Txn × Request → Bool
runs p r = is_running p r.0

waiting_more : (p : List Noted) (e : Entry) → waiting (add p e) ≡ filter (runs (add p e)) (waits_of p) ++ filter (runs (add p e)) (waits_of (next p e ∷ []))
waiting_more p e = ap (filter (runs (add p e))) (filter_map-append (λ n. wait_of n.entry) p (next p e ∷ [])) ∙ filter-append (runs (add p e)) (waits_of p) (waits_of (next p e ∷ []))

-- who runs after an entry that is no Begin
still : (p : List Noted) (e : Entry) (t : Txn) → is_begin_of t e ≡ false → is_running (add p e) t ≡ (is_running p t && not (is_end_of t e))
still p e t none = running_push p (next p e) t ∙ ap (λ b. (has_begun p t || b) && not (has_ended p t || is_end_of t e)) none ∙ go (has_begun p t) (has_ended p t) (is_end_of t e)
  where
    go : (a b c : Bool) → ((a || false) && not (b || c)) ≡ ((a && not b) && not c)
    go true true c = refl
    go true false c = refl
    go false b c = refl

-- an entry that is no Begin and no end leaves those that waited
unended : (p : List Noted) (e : Entry) → ((t : Txn) → is_begin_of t e ≡ false) → ((t : Txn) → is_end_of t e ≡ false) → filter (runs (add p e)) (waits_of p) ≡ waiting p
unended p e none goes-on = kept_in (runs (add p e)) (runs p) (waits_of p) (λ i d l. let t = (get_or (waits_of p) i d).0 in still p e t (none t) ∙ ap (λ b. is_running p t && not b) (goes-on t) ∙ and_true (is_running p t))

-- an end
ended : (p : List Noted) (e : Entry) (u : Txn) → ((t : Txn) → is_begin_of t e ≡ false) → ((t : Txn) → is_end_of t e ≡ (u.0 == t.0)) →
    filter (runs (add p e)) (waits_of p) ≡ filter (λ r. not (is_txn u r.0)) (waiting p)
ended p e u none ends =
    kept_in (runs (add p e)) (λ r. runs p r && not (is_txn u r.0)) (waits_of p)
    (λ i d l. let t = (get_or (waits_of p) i d).0 in still p e t (none t) ∙ ap (λ b. is_running p t && not b) (ends t ∙ (let e : (u.0 == t.0) ≡ (t.0 == u.0) = grind arith in e)))
    ∙ sym (kept_twice (runs p) (λ r. not (is_txn u r.0)) (waits_of p))

begins : (p : List Noted) (u : Txn) (s : Site) → Waited p → filter (runs (add p (Begin u s))) (waits_of p) ≡ waiting p
begins p u s waited = kept_in (runs (add p (Begin u s))) (runs p) (waits_of p) (λ i d l. one (get_or (waits_of p) i d).0 (waited i d l))
  where
    go : (a b c : Bool) → a ≡ true → ((a || b) && not (c || false)) ≡ (a && not c)
    go true b true h = refl
    go true b false h = refl
    go false b c h = absurd (true≢false (sym h))

    one : (t : Txn) → has_begun p t ≡ true → is_running (add p (Begin u s)) t ≡ is_running p t
    one t h = running_push p (next p (Begin u s)) t ∙ go (has_begun p t) (is_begin_of t (Begin u s)) (has_ended p t) h

nothing_more : (xs : List (Txn × Request)) → xs ++ [] ≡ xs
nothing_more [] = refl
nothing_more (x ∷ xs) = ap (λ ys. x ∷ ys) (nothing_more xs)

pub waiting_push : (p : List Noted) (e : Entry) → Waited p → may_follow p e ≡ true → waiting (add p e) ≡ turn_waits (waiting p) e
waiting_push p (Begin u s) waited may = waiting_more p (Begin u s) ∙ nothing_more _ ∙ begins p u s waited
waiting_push p (Read u x s) waited may = waiting_more p (Read u x s) ∙ nothing_more _ ∙ unended p (Read u x s) (λ t. refl) (λ t. refl)
waiting_push p (Wait u r) waited may =
    waiting_more p (Wait u r) ∙ ap (λ xs. xs ++ filter (runs (add p (Wait u r))) ((u, r) ∷ [])) (unended p (Wait u r) (λ t. refl) (λ t. refl))
    ∙ ap (λ b. waiting p ++ cond b ((u, r) ∷ []) []) (still p (Wait u r) u refl ∙ and_true (is_running p u) ∙ may)
waiting_push p (Commit u r a) waited may = waiting_more p (Commit u r a) ∙ nothing_more _ ∙ ended p (Commit u r a) u (λ t. refl) (λ t. or_false (u.0 == t.0))
waiting_push p (Abort u cause act) waited may = waiting_more p (Abort u cause act) ∙ nothing_more _ ∙ ended p (Abort u cause act) u (λ t. refl) (λ t. refl)
waiting_push p (Ack u s) waited may = waiting_more p (Ack u s) ∙ nothing_more _ ∙ unended p (Ack u s) (λ t. refl) (λ t. refl)
waiting_push p (SwitchOn k kind method) waited may = waiting_more p (SwitchOn k kind method) ∙ nothing_more _ ∙ unended p (SwitchOn k kind method) (λ t. refl) (λ t. refl)
waiting_push p (SwitchEnd k) waited may = waiting_more p (SwitchEnd k) ∙ nothing_more _ ∙ unended p (SwitchEnd k) (λ t. refl) (λ t. refl)
waiting_push p (Down s) waited may = waiting_more p (Down s) ∙ nothing_more _ ∙ unended p (Down s) (λ t. refl) (λ t. refl)
waiting_push p (Up s k) waited may = waiting_more p (Up s k) ∙ nothing_more _ ∙ unended p (Up s k) (λ t. refl) (λ t. refl)
waiting_push p (Clear s x v) waited may = waiting_more p (Clear s x v) ∙ nothing_more _ ∙ unended p (Clear s x v) (λ t. refl) (λ t. refl)

-- whoever has begun is one of the workload
begins_known : (w : Workload) (p : List Noted) (e : Entry) (t : Txn) → is_fit w p e ≡ true → is_begin_of t e ≡ true → has_txn (txns w) t ≡ true
begins_known w p (Begin u s) t fit own = subst (λ z. has_txn (txns w) z ≡ true) (same_txn u t own) fit
begins_known w p other t fit own = absurd (true≢false (sym own))

pub begun_push : (w : Workload) (p : List Noted) (e : Entry) → is_fit w p e ≡ true → ((t : Txn) → has_begun p t ≡ true → has_txn (txns w) t ≡ true) →
    (t : Txn) → has_begun (add p e) t ≡ true → has_txn (txns w) t ≡ true
begun_push w p e fit known t h = go (has_begun p t) (is_begin_of t e) refl refl (sym (has_begun_push p (next p e) t) ∙ h)
  where
    go : (a b : Bool) → has_begun p t ≡ a → is_begin_of t e ≡ b → (has_begun p t || is_begin_of t e) ≡ true → has_txn (txns w) t ≡ true
    go true b i j k = known t i
    go false true i j k = begins_known w p e t fit j
    go false false i j k = absurd (true≢false (sym k ∙ ap (λ c. c || is_begin_of t e) i ∙ j))

-- whoever has a Wait has begun
last_begun : (p : List Noted) (e : Entry) → may_follow p e ≡ true → All (λ r. has_begun (add p e) r.0 ≡ true) (waits_of (next p e ∷ []))
last_begun p (Wait u r) may zero d below = has_begun_push p (next p (Wait u r)) u ∙ or_left _ _ (and_parts (has_begun p u) (not (has_ended p u)) may).0
last_begun p (Wait u r) may (suc k) d below = absurd (omega (arith, below))
last_begun p (Begin u s) may k d below = absurd (omega (arith, below))
last_begun p (Read u x s) may k d below = absurd (omega (arith, below))
last_begun p (Commit u r a) may k d below = absurd (omega (arith, below))
last_begun p (Abort u cause act) may k d below = absurd (omega (arith, below))
last_begun p (Ack u s) may k d below = absurd (omega (arith, below))
last_begun p (SwitchOn j kind method) may k d below = absurd (omega (arith, below))
last_begun p (SwitchEnd j) may k d below = absurd (omega (arith, below))
last_begun p (Down s) may k d below = absurd (omega (arith, below))
last_begun p (Up s j) may k d below = absurd (omega (arith, below))
last_begun p (Clear s x v) may k d below = absurd (omega (arith, below))

pub waited_push : (p : List Noted) (e : Entry) → may_follow p e ≡ true → Waited p → Waited (add p e)
waited_push p e may waited =
    subst (λ xs. All (λ r. has_begun (add p e) r.0 ≡ true) xs) (sym (filter_map-append (λ n. wait_of n.entry) p (next p e ∷ [])))
    (All-append (λ r. has_begun (add p e) r.0 ≡ true) (waits_of p) (waits_of (next p e ∷ [])) (λ i d l. has_begun_push p (next p e) (get_or (waits_of p) i d).0 ∙ or_left _ _ (waited i d l)) (last_begun p e may))

-- an entry that ends no copying
abbrev pub ends_none : Entry → Bool
ends_none (Commit u r a) = false
ends_none (Down s) = false
ends_none other = true

all_kept : {X : Type 0} (xs : List X) → filter (λ x. true) xs ≡ xs
all_kept [] = refl
all_kept (x ∷ xs) = ap (λ ys. x ∷ ys) (all_kept xs)

none_ended : (e : Entry) (out : List Copying) → ends_none e ≡ true → filter (λ c. not (ends_copying e c)) out ≡ out
none_ended (Commit u r a) out h = absurd (true≢false (sym h))
none_ended (Down s) out h = absurd (true≢false (sym h))
none_ended (Begin u s) out h = all_kept out
none_ended (Read u x s) out h = all_kept out
none_ended (Wait u r) out h = all_kept out
none_ended (Abort u cause act) out h = all_kept out
none_ended (Ack u s) out h = all_kept out
none_ended (SwitchOn k kind method) out h = all_kept out
none_ended (SwitchEnd k) out h = all_kept out
none_ended (Up s k) out h = all_kept out
none_ended (Clear s x v) out h = all_kept out

pub copying_plain : (c : Copiers) (e : Entry) (out : List Copying) → ends_none e ≡ true → ways.Stands c out → ways.Stands c (filter (λ z. not (ends_copying e z)) out)
copying_plain c e out h stands = subst (λ (z : List Copying). ways.Stands c z) (sym (none_ended e out h)) stands

pub copying_turned : (c : Copiers) (e f : Entry) (out : List Copying) → e ≡ f → ways.Stands c (filter (λ z. not (ends_copying f z)) out) → ways.Stands c (filter (λ z. not (ends_copying e z)) out)
copying_turned c e f out is stands = subst (λ (z : Entry). ways.Stands c (filter (λ y. not (ends_copying z y)) out)) (sym is) stands

-- an entry that is no Begin
abbrev pub begins_none : Entry → Bool
begins_none (Begin u s) = false
begins_none other = true

no_begin : (e : Entry) (t : Txn) → begins_none e ≡ true → is_begin_of t e ≡ false
no_begin (Begin u s) t h = absurd (true≢false (sym h))
no_begin other t h = refl

begun_same : (p : List Noted) (e : Entry) (t : Txn) → begins_none e ≡ true → has_begun (add p e) t ≡ has_begun p t
begun_same p e t h = has_begun_push p (next p e) t ∙ ap (λ b. has_begun p t || b) (no_begin e t h) ∙ or_false (has_begun p t)

find_in : (f g : Txn → Bool) (ts : List Txn) → ((t : Txn) → f t ≡ g t) → find f ts ≡ find g ts
find_in f g [] h = refl
find_in f g (t ∷ ts) h = ap (λ b. cond b (Some t) (find f ts)) (h t) ∙ ap (λ o. cond (g t) (Some t) o) (find_in f g ts h)

pub nexts_plain : (w : Workload) (numbers : List ℕ) (p : List Noted) (e : Entry) → begins_none e ≡ true → AreNext w numbers p → AreNext w numbers (add p e)
nexts_plain w numbers p e h next s least most =
    next s least most
    ∙ ap (λ o. option_map_or (λ (t : Txn). t.0) o 0)
    (find_in (λ t. attempt w t == 0 && is_site s (home w t) && not (has_begun p t)) (λ t. attempt w t == 0 && is_site s (home w t) && not (has_begun (add p e) t)) (txns w)
    (λ t. ap (λ b. attempt w t == 0 && is_site s (home w t) && not b) (sym (begun_same p e t h))))

pub nexts_turned : (w : Workload) (numbers : List ℕ) (p : List Noted) (e f : Entry) → e ≡ f → AreNext w numbers (add p f) → AreNext w numbers (add p e)
nexts_turned w numbers p e f is next = subst (λ (z : Entry). AreNext w numbers (add p z)) (sym is) next
