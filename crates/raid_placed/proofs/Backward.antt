-- Who is backward over the view in force, and so whom a switch aborts.
use Rattle.std.proofs.Common.{◌≡◌, ℕ, ◌<◌, ◌||◌, ◌&&◌, Bool, true, false, not, nat_lt, cond, List, [], ◌∷◌, ◌++◌, length, get_or, arith, sym, ◌∙◌, ap, refl, Some}
use Rattle.std.specs.List.{All, filter, list_any}
use Rattle.std.proofs.lemmas.Bool.{true≢false, or_left}
use Rattle.std.proofs.lemmas.Grind.{common_steps}
use Rattle.std.proofs.lemmas.List.Elements.{filter_passes}
use Rattle.raid_base.specs.declared.names.Txn.{Txn}
use Rattle.raid_base.specs.declared.names.Item.{Item}
use Rattle.raid_base.specs.declared.entry.Entry.{Entry}
use Rattle.raid_base.specs.declared.entry.Entry.TheVariants.{Read, SwitchOn}
use Rattle.raid_base.specs.declared.entry.Noted.{Noted}
use Rattle.raid_base.specs.declared.verdict.Kind.{Kind}
use Rattle.raid_base.specs.declared.verdict.Method.{Method}
use Rattle.raid_base.specs.Names.{is_txn, has_txn, holds}
use Rattle.raid_workload.specs.declared.workload.Workload.{Workload}
use Rattle.raid_workload.specs.Parts.{txns}
use Rattle.raid_rules.specs.Entries.{is_read, is_commit, is_end_of}
use Rattle.raid_rules.specs.History.{noted, next, stamp, has_ended, is_running}
use Rattle.raid_rules.specs.Views.{View, view_of, is_backward, is_overwrite, aborts_backward, abort_list}
use Rattle.raid_legal.specs.Seen.{running}
use Rattle.raid_legal.specs.InForce.{in_force, off_list}
use Rattle.raid_legal.specs.Forced.{forced}
use Rattle.raid_serial.proofs.System.{Hist, View as InView}
use Rattle.raid_serial.proofs.Theorem.{State, inv}
use Rattle.raid_serial.proofs.Corollaries.{backward_in, backward_out}
use Rattle.raid_serial.proofs.Translate.{txn, numbers_of, hist_of, rep_hist, mem_txn, not_true}
use Rattle.raid_serial.proofs.Real.{rep_view, run_model}
use Rattle.raid_serial.proofs.Backward.{backward_real, backward_model}
use Rattle.raid_serial.proofs.Facts.{Quiet}
use Rattle.raid_serial.proofs.Tamed.{Agrees, Stands, step, agrees_back, begins_stands, state_of, find_none}
use Rattle.raid_serial.proofs.Views.{same_tests, commit_fits_view}
use Rattle.raid_placed.specs.Placed.{Placed}
use Rattle.raid_placed.specs.Turned.{older}
use Rattle.raid_placed.proofs.Sent.{placed_fact, by_facts, forced_placeable}
use Rattle.raid_placed.proofs.Orderly.{placed_ordered, txn_kept}

-- a placed history is tame, with its own stamps
stands_with : (S : ℕ → ℕ) (w : Workload) (h : List Entry) → Placed w h → Agrees S (noted h) → Stands S w (noted h)
stands_with S w = by_facts w (λ p. Agrees S p → Stands S w p) (λ a. begins_stands S w) (λ h e l rest f a. (let before : Agrees S (noted h) = agrees_back S w (noted h) e f a in step S w (noted h) (rest before) before e f a))

pub placed_stands : (w : Workload) (h : List Entry) → Placed w h → Stands (λ t. stamp (noted h) (txn t)) w (noted h)
placed_stands w h l = stands_with (λ t. stamp (noted h) (txn t)) w h l (λ t b. refl)

pub placed_backward : (w : Workload) (h : List Entry) → Placed w h → (t : Txn) → is_running (noted h) t ≡ true → has_txn (in_force w (noted h)).off t ≡ false →
    is_backward (view_of (in_force w (noted h)).view (noted h)) t ≡ is_backward (noted h) t
placed_backward w h l t run free =
    same_tests (is_backward (view_of v p) t) (is_backward p t)
    (λ b. backward_real (Hist (hist_of p)) p (rep_hist p) t.0 (backward_out state t.0 (backward_model (InView (hist_of p) v.cut (numbers_of v.keep)) (view_of v p) (rep_view v p) t.0 b)))
    (λ b. backward_real (InView (hist_of p) v.cut (numbers_of v.keep)) (view_of v p) (rep_view v p) t.0 (backward_in S state (inv S st.tame) t.0 (run_model (Hist (hist_of p)) p (rep_hist p) t.0 run, λ m. true≢false (sym (mem_txn t.0 (in_force w p).off m) ∙ free)) (backward_model (Hist (hist_of p)) p (rep_hist p) t.0 b)))
  where
    p : List Noted
    p = noted h

    v : View
    v = (in_force w p).view

    S : ℕ → ℕ
    S k = stamp p (txn k)

    st : Stands S w p
    st = placed_stands w h l

    state : State
    state = state_of (hist_of p) (length p) (in_force w p) st.joint st.newer st.since

-- filters by tests that are the same on the list
alike_txns : (f g : Txn → Bool) (ts : List Txn) → ((t : Txn) → has_txn ts t ≡ true → f t ≡ g t) → filter f ts ≡ filter g ts
alike_txns f g [] h = refl
alike_txns f g (x ∷ xs) h =
    ap (λ b. cond b (x ∷ filter f xs) (filter f xs)) (h x (or_left (is_txn x x) (has_txn xs x) (grind (arith, common_steps))))
    ∙ ap (λ ys. cond (g x) (x ∷ ys) ys) (alike_txns f g xs (λ t i. h t (beside (is_txn t x) (has_txn xs t) i)))
  where
    beside : (b d : Bool) → d ≡ true → (b || d) ≡ true
    beside true d q = refl
    beside false d q = q

-- a switch's entry makes nobody backward
overwrite_none : (t : Txn) (a : ℕ) (x : Item) (k : ℕ) (kind : Kind) (method : Method) (n : Noted) → n.entry ≡ SwitchOn k kind method → (v : List Noted) → list_any (is_overwrite t a x) (v ++ n ∷ []) ≡ list_any (is_overwrite t a x) v
overwrite_none t a x k kind method n q [] = ap (λ e. (nat_lt a n.at && is_commit (λ u request. not (is_txn t u) && holds x request.writes) e) || false) q ∙ none (nat_lt a n.at)
  where
    none : (b : Bool) → ((b && false) || false) ≡ false
    none true = refl
    none false = refl
overwrite_none t a x k kind method n q (m ∷ ms) = ap (λ b. is_overwrite t a x m || b) (overwrite_none t a x k kind method n q ms)

read_alike : (e : Entry) (f g : Txn → Item → Bool) → ((u : Txn) (x : Item) → f u x ≡ g u x) → is_read (λ u x s. f u x) e ≡ is_read (λ u x s. g u x) e
read_alike (Read u x s) f g h = h u x
read_alike other f g h = refl

backward_alike : (t : Txn) (v u xs : List Noted) → ((a : ℕ) (x : Item) → list_any (is_overwrite t a x) u ≡ list_any (is_overwrite t a x) v) →
    list_any (λ n. is_read (λ r x s. is_txn t r && list_any (is_overwrite t n.at x) u) n.entry) xs ≡ list_any (λ n. is_read (λ r x s. is_txn t r && list_any (is_overwrite t n.at x) v) n.entry) xs
backward_alike t v u [] h = refl
backward_alike t v u (m ∷ ms) h =
    ap (λ b. b || list_any (λ n. is_read (λ r x s. is_txn t r && list_any (is_overwrite t n.at x) u) n.entry) ms) (read_alike m.entry (λ r x. is_txn t r && list_any (is_overwrite t m.at x) u) (λ r x. is_txn t r && list_any (is_overwrite t m.at x) v) (λ r x. ap (λ b. is_txn t r && b) (h m.at x)))
    ∙ ap (λ b. is_read (λ r x s. is_txn t r && list_any (is_overwrite t m.at x) v) m.entry || b) (backward_alike t v u ms h)

any_push : (f : Noted → Bool) (v : List Noted) (n : Noted) → f n ≡ false → list_any f (v ++ n ∷ []) ≡ list_any f v
any_push f [] n q = ap (λ b. b || false) q
any_push f (m ∷ ms) n q = ap (λ b. f m || b) (any_push f ms n q)

pub switch_backward : (t : Txn) (k : ℕ) (kind : Kind) (method : Method) (n : Noted) → n.entry ≡ SwitchOn k kind method → (v : List Noted) → is_backward (v ++ n ∷ []) t ≡ is_backward v t
switch_backward t k kind method n q v =
    backward_alike t v (v ++ n ∷ []) (v ++ n ∷ []) (λ a x. overwrite_none t a x k kind method n q v)
    ∙ any_push (λ m. is_read (λ r x s. is_txn t r && list_any (is_overwrite t m.at x) v) m.entry) v n (ap (is_read (λ r x s. is_txn t r && list_any (is_overwrite t n.at x) v)) q)

-- whom a switch aborts, by the old controller's view
forced_quiet : (w : Workload) (p : List Noted) (k : ℕ) (to : Kind) (method : Method) → forced w p ≡ Some (SwitchOn k to method) → Quiet w p
forced_quiet w p k to method q = (placed_fact w p (SwitchOn k to method) (forced_placeable w p (SwitchOn k to method) q)).0

pub forced_aborts : (w : Workload) (h : List Entry) (k : ℕ) (to : Kind) (method : Method) → Placed w h → forced w (noted h) ≡ Some (SwitchOn k to method) →
    abort_list method to (older (in_force w (noted h)) (noted h)).1 (running w (noted h)) ≡ off_list w (noted h) method to
forced_aborts w h k to method l q =
    let p : List Noted = noted h in
    alike_txns (λ t. aborts_backward method to && is_backward (view_of (in_force w p).view p) t) (λ t. aborts_backward method to && is_backward p t) (running w p) (λ t i.
    (let run : is_running p t ≡ true = txn_kept (is_running p) (txns w) t i in
    ap (λ b. aborts_backward method to && b) (placed_backward w h l t run (not_true (has_txn (in_force w p).off t) (find_none (is_running p) (in_force w p).off t run (forced_quiet w p k to method q))))))

pub forced_aborts_noted : (w : Workload) (h : List Entry) (k : ℕ) (to : Kind) (method : Method) → Placed w h → forced w (noted h) ≡ Some (SwitchOn k to method) →
    abort_list method to ((older (in_force w (noted h)) (noted h)).1 ++ next (noted h) (SwitchOn k to method) ∷ []) (running w (noted h)) ≡ off_list w (noted h) method to
forced_aborts_noted w h k to method l q =
    let p : List Noted = noted h in
    let v : List Noted = view_of (in_force w p).view p in
    let n : Noted = next p (SwitchOn k to method) in
    alike_txns (λ t. aborts_backward method to && is_backward (v ++ n ∷ []) t) (λ t. aborts_backward method to && is_backward v t) (running w p) (λ t i. ap (λ b. aborts_backward method to && b) (switch_backward t k to method n refl v))
    ∙ forced_aborts w h k to method l q

-- nobody of those that run has ended in the old view, with the entry noted there or not
running_on : (w : Workload) (h : List Entry) → Placed w h → (v : View) (k : ℕ) (d : Txn) → k < length (running w (noted h)) → has_ended (view_of v (noted h)) (get_or (running w (noted h)) k d) ≡ false
running_on w h l v k d below = (commit_fits_view v (noted h) (placed_ordered w h l) (get_or (running w (noted h)) k d) [] (filter_passes (is_running (noted h)) (txns w) k d below)).goes_on

pub placed_running_on : (w : Workload) (h : List Entry) → Placed w h → All (λ t. has_ended (older (in_force w (noted h)) (noted h)).1 t ≡ false) (running w (noted h))
placed_running_on w h l = running_on w h l (in_force w (noted h)).view

pub switch_running_on : (w : Workload) (h : List Entry) (k : ℕ) (to : Kind) (method : Method) → Placed w h →
    All (λ t. has_ended ((older (in_force w (noted h)) (noted h)).1 ++ next (noted h) (SwitchOn k to method) ∷ []) t ≡ false) (running w (noted h))
switch_running_on w h k to method l i d below =
    any_push (λ m. is_end_of (get_or (running w (noted h)) i d) m.entry) (view_of (in_force w (noted h)).view (noted h)) (next (noted h) (SwitchOn k to method)) refl
    ∙ running_on w h l (in_force w (noted h)).view i d below
