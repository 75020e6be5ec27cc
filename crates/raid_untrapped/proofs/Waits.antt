-- Who waits on whose reads, by witnesses, and what the controllers in force say of it.
use Rattle.std.proofs.Common.{◌≡◌, ℕ, ℤ, ◌<◌, ◌≤◌, ◌⊎◌, inl, inr, Bool, true, false, not, ◌&&◌, ◌||◌, nat_lt, List, fold, length, Option, Some, None, if◌then◌else◌, arith, sym, ◌∙◌, ap, subst, refl}
use Rattle.std.specs.List.{list_any}
use Rattle.std.proofs.lemmas.Bool.{true≢false, and_parts, and_from, or_left, eqb-true}
use Rattle.raid_base.specs.declared.names.Txn.{Txn}
use Rattle.raid_base.specs.declared.names.Item.{Item}
use Rattle.raid_base.specs.declared.request.Request.{Request}
use Rattle.raid_base.specs.declared.entry.Entry.{Entry}
use Rattle.raid_base.specs.declared.entry.Entry.TheVariants.{Read}
use Rattle.raid_base.specs.declared.entry.Noted.{Noted}
use Rattle.raid_base.specs.declared.verdict.Kind.{Kind}
use Rattle.raid_base.specs.declared.verdict.Kind.TheVariants.{Lock, Stamp, Valid, Graph}
use Rattle.raid_base.specs.declared.verdict.Verdict.{Verdict}
use Rattle.raid_base.specs.declared.verdict.Verdict.TheVariants as verdicts
use Rattle.raid_base.specs.Meet.{meeting}
use Rattle.raid_base.specs.Names.{is_txn, is_item, has_txn}
use Rattle.raid_workload.specs.declared.workload.Workload.{Workload}
use Rattle.raid_rules.specs.Entries.{is_begin, is_read, is_end_of}
use Rattle.raid_rules.specs.History.{noted, stamp, has_begun, has_ended, is_running, waiting}
use Rattle.raid_rules.specs.Order.{is_of}
use Rattle.raid_rules.specs.Verdicts.{writing, verdict_of, is_in_the_way, is_read_by, is_held, is_blocked_by, is_late, is_invalid, closes_cycle}
use Rattle.raid_rules.specs.Views.{View, is_in, view_of}
use Rattle.raid_rules.proofs.Push.{same_txn}
use Rattle.raid_rules.proofs.Waits.{held_iff_blocked}
use Rattle.raid_rules.proofs.Txns.{or_right, eq_self}
use Rattle.raid_legal.specs.InForce.{InForce, in_force, controllers, newer, past, verdict}
use Rattle.raid_legal.specs.Answers.{is_lock, blocks}
use Rattle.raid_serial.proofs.Model.{read}
use Rattle.raid_serial.proofs.System.{Hist, InView}
use Rattle.raid_serial.proofs.Theorem.{Inv, inv}
use Rattle.raid_serial.proofs.Tamed.{Stands, find_none, state_of}
use Rattle.raid_serial.proofs.Facts.{Quiet, not_off}
use Rattle.raid_serial.proofs.Ordered.{Ordered}
use Rattle.raid_serial.proofs.Real.{filter_has, has_filter, lt_true, true_lt, rep_view, run_model}
use Rattle.raid_serial.proofs.Translate.{txn, entry_of, noted_of, numbers_of, hist_of, Has, has_any, any_has, cases_true, not_true, mem_txn, rep_hist}
use Rattle.raid_placed.specs.Placed.{Placed}
use Rattle.raid_placed.proofs.Orderly.{placed_ordered}
use Rattle.raid_placed.proofs.Backward.{placed_stands}
use Rattle.raid_untrapped.specs.Trap.{cut_at, wait_cut, has_read_past, waits_on_reads}
use Rattle.raid_untrapped.proofs.Members.{In, in_any, any_in}
use Rattle.raid_untrapped.proofs.Ends.{reads, Ends, placed_ends}

-- the entry is a Read of u of one of the items
abbrev pub touches : Txn → List (Item × ℤ) → Entry → Bool
touches u writes e = list_any (λ pair. is_read_by (is_txn u) pair.0 e) writes

-- t waits to write what u, which runs, has read past the number
pub record Rel (k : ℕ) (p : List Noted) (t u : Txn) : Type 0 where
  pub request : Request
  pub waits : In (t, request) (waiting p)
  pub differ : is_txn t u ≡ false
  pub runs : is_running p u ≡ true
  pub read : Noted
  pub there : Has read p
  pub late : k < read.at
  pub touched : touches u request.writes read.entry ≡ true

-- the computed relation is the same
pub by_reads : (w : Workload) (p : List Noted) (t u : Txn) → waits_on_reads w p t u ≡ true → Rel (wait_cut w p) p t u
by_reads w p t u h =
    let test : Txn × Request → Bool = λ r. is_txn t r.0 && has_read_past (wait_cut w p) p u r.1.writes in
    let a = and_parts (not (is_txn t u) && is_running p u) (list_any test (waiting p)) h in
    let b = and_parts (not (is_txn t u)) (is_running p u) a.0 in
    let r = any_in test (waiting p) a.1 in
    let c = and_parts (is_txn t (r.0).0) (has_read_past (wait_cut w p) p u (r.0).1.writes) r.2 in
    let n = any_has (λ n. nat_lt (wait_cut w p) n.at && touches u (r.0).1.writes n.entry) p c.1 in
    let d = and_parts (nat_lt (wait_cut w p) (n.0).at) (touches u (r.0).1.writes (n.0).entry) n.2 in
    record {
      request = (r.0).1;
      waits = subst (λ z. In (z, (r.0).1) (waiting p)) (same_txn (r.0).0 t c.0) r.1;
      differ = not_off (is_txn t u) b.0;
      runs = b.1;
      read = n.0;
      there = n.1;
      late = true_lt (wait_cut w p) (n.0).at d.0;
      touched = d.1;
    }

-- what a Read is, in the abstract
touch_reads : (u : Txn) (x : Item) (e : Entry) → is_read_by (is_txn u) x e ≡ true → (y : ℕ) × (entry_of e ≡ read u.0 y) × (reads u e ≡ true)
touch_reads u x (Read t y s) h = let a = and_parts (is_item x y) (is_txn u t) h in (y.0, ap (λ k. read k y.0) (eqb-true t.0 u.0 a.1), a.1)
touch_reads u x other h = absurd (true≢false (sym h))

pub touched_read : (u : Txn) (writes : List (Item × ℤ)) (e : Entry) → touches u writes e ≡ true → (y : ℕ) × (entry_of e ≡ read u.0 y) × (reads u e ≡ true)
touched_read u writes e h = let p = any_in (λ (pair : Item × ℤ). is_read_by (is_txn u) pair.0 e) writes h in touch_reads u (p.0).0 e p.2

-- Reads that are alike in the abstract touch the same
alike_read : (u t : Txn) (y x : Item) (e : Entry) → entry_of e ≡ read t.0 y.0 → (is_item x y && is_txn u t) ≡ true → is_read_by (is_txn u) x e ≡ true
alike_read u t y x (Read r z s) q h = let a : r.0 ≡ t.0 = cc q in let b : z.0 ≡ y.0 = cc q in let c = and_parts (is_item x y) (is_txn u t) h in and_from _ _ (eq_self z.0 x.0 (b ∙ eqb-true y.0 x.0 c.0)) (eq_self r.0 u.0 (a ∙ eqb-true t.0 u.0 c.1))
alike_read u t y x other q h = absurd (cc q)

alike_touch : (u : Txn) (x : Item) (a b : Entry) → entry_of a ≡ entry_of b → is_read_by (is_txn u) x a ≡ true → is_read_by (is_txn u) x b ≡ true
alike_touch u x (Read t y s) b q h = alike_read u t y x b (sym q) h
alike_touch u x other b q h = absurd (true≢false (sym h))

-- verdicts: only locking makes a commit wait
meet_wait : (a b : Verdict) → meeting a b ≡ verdicts.Wait → (a ≡ verdicts.Wait) ⊎ (b ≡ verdicts.Wait)
meet_wait (verdicts.Reject why) b e = absurd (cc e)
meet_wait verdicts.Wait b e = inl refl
meet_wait verdicts.Grant b e = inr e

no_wait : (b : Bool) (v : Verdict) → (v ≡ verdicts.Wait → ⊥) → (if b then v else verdicts.Grant) ≡ verdicts.Wait → ⊥
no_wait true v h e = h e
no_wait false v h e = cc e

held_wait : (b : Bool) → (if b then verdicts.Wait else verdicts.Grant) ≡ verdicts.Wait → b ≡ true
held_wait true e = refl
held_wait false e = absurd (cc e)

kind_wait : (kind : Kind) (view : List Noted) (t : Txn) (k : ℕ) (writes : List (Item × ℤ)) → verdict_of kind view (writing t k writes) ≡ verdicts.Wait → (is_lock kind ≡ true) × (is_held view t writes ≡ true)
kind_wait Lock view t k writes e = (refl, held_wait (is_held view t writes) e)
kind_wait Stamp view t k writes e = absurd (no_wait (is_late view (writing t k writes)) (verdicts.Reject _) (λ e. cc e) e)
kind_wait Valid view t k writes e = absurd (no_wait (is_invalid view t) (verdicts.Reject _) (λ e. cc e) e)
kind_wait Graph view t k writes e = absurd (no_wait (closes_cycle view (writing t k writes)) (verdicts.Reject _) (λ e. cc e) e)

-- a locking controller in force says so
abbrev pub Holds : List Noted → InForce → Txn → List (Item × ℤ) → Type 0
Holds p f t writes =
    ((is_lock f.kind ≡ true) × (is_held (view_of f.view p) t writes ≡ true))
    ⊎ ((c : Kind × ℕ) × (f.next ≡ Some c) × (is_lock c.0 ≡ true) × (is_held (view_of (past c.1) p) t writes ≡ true))

fold_wait : (p : List Noted) (t : Txn) (k : ℕ) (writes : List (Item × ℤ)) (a : Verdict) (next : Option (Kind × ℕ)) → fold (λ v c. meeting v (verdict_of c.0 c.1 (writing t k writes))) a (newer p next) ≡ verdicts.Wait →
    (a ≡ verdicts.Wait) ⊎ ((c : Kind × ℕ) × (next ≡ Some c) × (verdict_of c.0 (view_of (past c.1) p) (writing t k writes) ≡ verdicts.Wait))
fold_wait p t k writes a None e = inl e
fold_wait p t k writes a (Some c) e = elim (meet_wait a (verdict_of c.0 (view_of (past c.1) p) (writing t k writes)) e) [ inl q ↦ inl q | inr q ↦ inr (c, refl, q) ]

pub wait_holds : (w : Workload) (p : List Noted) (t : Txn) (k : ℕ) (writes : List (Item × ℤ)) → verdict w p (writing t k writes) ≡ verdicts.Wait → Holds p (in_force w p) t writes
wait_holds w p t k writes e = elim (fold_wait p t k writes (verdict_of (in_force w p).kind (view_of (in_force w p).view p) (writing t k writes)) (in_force w p).next e) [
  | inl q ↦ inl (kind_wait (in_force w p).kind (view_of (in_force w p).view p) t k writes q)
  | inr r ↦ (let h = kind_wait (r.0).0 (view_of (past (r.0).1) p) t k writes r.2 in inr (r.0, r.1, h.0, h.1))
]

-- a test that a controller in force passes
old_any : (g : Kind × List Noted → Bool) (f : InForce) (p : List Noted) → g (f.kind, view_of f.view p) ≡ true → list_any g (controllers f p) ≡ true
old_any g f p e = or_left (g (f.kind, view_of f.view p)) (list_any g (newer p f.next)) e

new_any : (g : Kind × List Noted → Bool) (f : InForce) (p : List Noted) (c : Kind × ℕ) → f.next ≡ Some c → g (c.0, view_of (past c.1) p) ≡ true → list_any g (controllers f p) ≡ true
new_any g f p c q e = or_right (g (f.kind, view_of f.view p)) (list_any g (newer p f.next)) (subst (λ o. list_any g (newer p o) ≡ true) (sym q) (or_left (g (c.0, view_of (past c.1) p)) false e))

any_newer : (g : Kind × List Noted → Bool) (p : List Noted) (next : Option (Kind × ℕ)) → list_any g (newer p next) ≡ true → (c : Kind × ℕ) × (next ≡ Some c) × (g (c.0, view_of (past c.1) p) ≡ true)
any_newer g p None e = absurd (true≢false (sym e))
any_newer g p (Some c) e = (c, refl, only (g (c.0, view_of (past c.1) p)) e)
  where
    only : (b : Bool) → (b || false) ≡ true → b ≡ true
    only true e = refl
    only false e = e

-- who is held is blocked by somebody
pub held_blocks : (w : Workload) (p : List Noted) (t : Txn) (writes : List (Item × ℤ)) → Holds p (in_force w p) t writes → (u : Txn) × (blocks w p u t writes ≡ true)
held_blocks w p t writes (inl h) =
    let r = (held_iff_blocked (view_of (in_force w p).view p) t writes).0 h.1 in
    (r.0, old_any (λ c. is_lock c.0 && is_blocked_by r.0 c.1 t writes) (in_force w p) p (and_from _ _ h.0 r.1))
held_blocks w p t writes (inr h) =
    let r = (held_iff_blocked (view_of (past (h.0).1) p) t writes).0 h.3 in
    (r.0, new_any (λ c. is_lock c.0 && is_blocked_by r.0 c.1 t writes) (in_force w p) p h.0 h.1 (and_from _ _ h.2 r.1))

-- what is past the cut is in the view
past_in : (v : View) (n : Noted) → v.cut < n.at → is_in v n ≡ true
past_in v n q = or_left (nat_lt v.cut n.at || is_begin (has_txn v.keep) n.entry) (is_read (λ t x s. has_txn v.keep t) n.entry) (or_left (nat_lt v.cut n.at) (is_begin (has_txn v.keep) n.entry) (lt_true v.cut n.at q))

cut_low : (b : Bool) (c : Kind × ℕ) → cut_at b (Some c) ≤ c.1
cut_low true c = omega arith
cut_low false c = omega arith

module _ (w : Workload) (h : List Entry) (l : Placed w h) where
  abbrev p : List Noted
  p = noted h

  abbrev f : InForce
  f = in_force w p

  o : Ordered p
  o = placed_ordered w h l

  st : Stands (λ t. stamp p (txn t)) w p
  st = placed_stands w h l

  I : Inv (λ t. stamp p (txn t)) (state_of (hist_of p) (length p) f st.joint st.newer st.since)
  I = inv (λ t. stamp p (txn t)) st.tame

  ends : Ends w p
  ends = placed_ends w h l

  -- a Read comes after its transaction's Begin
  pub read_late : (n : Noted) (u : Txn) (writes : List (Item × ℤ)) → Has n p → touches u writes n.entry ≡ true → stamp p u < n.at
  read_late n u writes i e = let r = touched_read u writes n.entry e in I.base.later (noted_of n) u.0 r.0 ((rep_hist p).into n i) (inl r.1)

  -- who blocks in a view runs, and its Read is in the view
  blocked_rel : (k : ℕ) (v : View) (t u : Txn) (request : Request) → In (t, request) (waiting p) → ((n : Noted) → Has n p → is_in v n ≡ true → reads u n.entry ≡ true → k < n.at) →
      ((n m : Noted) → Has n p → Has m p → is_in v n ≡ true → reads u n.entry ≡ true → is_end_of u m.entry ≡ true → v.cut < m.at) → is_blocked_by u (view_of v p) t request.writes ≡ true → Rel k p t u
  blocked_rel k v t u request i late ended b =
      let a = and_parts (is_in_the_way (view_of v p) t u) (list_any (λ pair. list_any (λ n. is_read_by (is_txn u) pair.0 n.entry) (view_of v p)) request.writes) b in
      let c = and_parts (not (is_txn t u)) (not (has_ended (view_of v p) u)) a.0 in
      let x = any_in (λ (pair : Item × ℤ). list_any (λ n. is_read_by (is_txn u) pair.0 n.entry) (view_of v p)) request.writes a.1 in
      let n = any_has (λ n. is_read_by (is_txn u) (x.0).0 n.entry) (view_of v p) x.2 in
      let j = filter_has (is_in v) p n.0 n.1 in
      let r = touch_reads u (x.0).0 (n.0).entry n.2 in
      record {
        request = request;
        waits = i;
        differ = not_off (is_txn t u) c.0;
        runs = and_from (has_begun p u) (not (has_ended p u)) (o.whole u (has_any (λ m. is_of u m.entry) p n.0 j.0 (read_own (n.0).entry r.2)))
            (ap not (not_true (has_ended p u) (λ e.
            (let m = any_has (λ m. is_end_of u m.entry) p e in
            let past_cut : v.cut < (m.0).at = ended n.0 m.0 j.0 m.1 j.1 r.2 m.2 in
            let in_view : Has m.0 (view_of v p) = has_filter (is_in v) p m.0 m.1 (past_in v m.0 past_cut) in
            true≢false (sym c.1 ∙ ap not (has_any (λ m. is_end_of u m.entry) (view_of v p) m.0 in_view m.2))))));
        read = n.0;
        there = j.0;
        late = late n.0 j.0 j.1 r.2;
        touched = in_any (λ (pair : Item × ℤ). is_read_by (is_txn u) pair.0 (n.0).entry) request.writes x.0 x.1 n.2;
      }
    where
      read_own : (e : Entry) → reads u e ≡ true → is_of u e ≡ true
      read_own (Read t x s) q = q
      read_own other q = absurd (true≢false (sym q))

  -- an entry of a view, where it is a Read: it is past the cut, or its transaction is kept
  in_cases : (v : View) (n : Noted) (u : Txn) → is_in v n ≡ true → reads u n.entry ≡ true → (v.cut < n.at) ⊎ (has_txn v.keep u ≡ true)
  in_cases v n u i r = elim (cases_true (nat_lt v.cut n.at)) [
    | inl a ↦ inl (true_lt v.cut n.at a)
    | inr a ↦ inr (kept n.entry r (sym (ap (λ b. b || is_begin (has_txn v.keep) n.entry || is_read (λ t x s. has_txn v.keep t) n.entry) a) ∙ i))
  ]
    where
      kept : (e : Entry) → reads u e ≡ true → (false || is_begin (has_txn v.keep) e || is_read (λ t x s. has_txn v.keep t) e) ≡ true → has_txn v.keep u ≡ true
      kept (Read t x s) r k = subst (λ z. has_txn v.keep z ≡ true) (same_txn t u r) k
      kept other r k = absurd (true≢false (sym r))

  -- who blocks by the controllers in force has read past the cut, and runs
  pub blocks_rel : (t u : Txn) (request : Request) → In (t, request) (waiting p) → blocks w p u t request.writes ≡ true → Rel (wait_cut w p) p t u
  blocks_rel t u request i b = elim (cases_true (g (f.kind, view_of f.view p))) [
    | inl a ↦ by_old (and_parts (is_lock f.kind) (is_blocked_by u (view_of f.view p) t request.writes) a)
    | inr a ↦ by_new (any_newer g p f.next (sym (ap (λ z. z || list_any g (newer p f.next)) a) ∙ b))
  ]
    where
      g : Kind × List Noted → Bool
      g c = is_lock c.0 && is_blocked_by u c.1 t request.writes

      by_old : (is_lock f.kind ≡ true) × (is_blocked_by u (view_of f.view p) t request.writes ≡ true) → Rel (wait_cut w p) p t u
      by_old a = blocked_rel (wait_cut w p) f.view t u request i
          (λ n j v r. subst (λ z. cut_at z f.next < n.at) (sym a.0) (st.counted n j))
          (λ n m j k v r e. elim (in_cases f.view n u v r) [ inl c ↦ (let z : n.at < m.at = ends.after n m u j k r e in omega arith) | inr c ↦ ends.kept m u k e c ]) a.1

      by_new : (c : Kind × ℕ) × (f.next ≡ Some c) × (g (c.0, view_of (past c.1) p) ≡ true) → Rel (wait_cut w p) p t u
      by_new (c, q, e) =
          let low : wait_cut w p ≤ c.1 = subst (λ z. cut_at (is_lock f.kind) z ≤ c.1) (sym q) (cut_low (is_lock f.kind) c) in
          let late : (n : Noted) → is_in (past c.1) n ≡ true → reads u n.entry ≡ true → c.1 < n.at = λ n v r. elim (in_cases (past c.1) n u v r) [ inl z ↦ z | inr z ↦ absurd (true≢false (sym z)) ] in
          blocked_rel (wait_cut w p) (past c.1) t u request i
          (λ n j v r. (let z : c.1 < n.at = late n v r in omega arith))
          (λ n m j k v r e. (let y : c.1 < n.at = late n v r in let z : n.at < m.at = ends.after n m u j k r e in omega arith))
          (and_parts (is_lock c.0) (is_blocked_by u (view_of (past c.1) p) t request.writes) e).1

  -- the old controller's view has the Reads of those that run, but of those on the abort list
  pub covered : (n : Noted) (u : Txn) (x : Item) → Has n p → is_running p u ≡ true → (has_txn f.off u ≡ true → ⊥) → is_read_by (is_txn u) x n.entry ≡ true →
      list_any (λ m. is_read_by (is_txn u) x m.entry) (view_of f.view p) ≡ true
  covered n u x i run free e =
      let r = touch_reads u x n.entry e in
      let c : InView f.view.cut (numbers_of f.view.keep) (noted_of n) = I.cover u.0 u.0 r.0 (noted_of n) (run_model (Hist (hist_of p)) p (rep_hist p) u.0 run, λ m. free (mem_txn u.0 f.off m)) (inl refl) ((rep_hist p).into n i) (inl r.1) in
      let m = (rep_view f.view p).out (noted_of n) ((rep_hist p).into n i, c) in
      has_any (λ m. is_read_by (is_txn u) x m.entry) (view_of f.view p) m.0 m.1 (alike_touch u x n.entry (m.0).entry (ap (λ z. z.entry) m.2) e)

  -- the other way round: who has read past the cut, and runs, blocks, where a locking controller is in force and nobody is left to be aborted
  pub rel_blocks : (t u : Txn) (writes : List (Item × ℤ)) → Quiet w p → (is_lock f.kind ≡ true) ⊎ ((c : Kind × ℕ) × (f.next ≡ Some c) × (is_lock c.0 ≡ true)) →
      is_txn t u ≡ false → is_running p u ≡ true → (n : Noted) → Has n p → wait_cut w p < n.at → touches u writes n.entry ≡ true → blocks w p u t writes ≡ true
  rel_blocks t u writes quiet lock differ run n i late e = elim (cases_true (is_lock f.kind)) [
    | inl a ↦ old_any g f p (and_from _ _ a (in_view f.view (covered n u (x.0).0 i run (find_none (is_running p) f.off u run quiet) x.2)))
    | inr a ↦ elim lock [
      | inl b ↦ absurd (true≢false (sym b ∙ a))
      | inr c ↦ (let low : (c.0).1 < n.at = subst (λ z. cut_at z (Some c.0) < n.at) a (subst (λ z. cut_at (is_lock f.kind) z < n.at) c.1 late) in
          new_any g f p c.0 c.1 (and_from _ _ c.2 (in_view (past (c.0).1) (has_any (λ m. is_read_by (is_txn u) (x.0).0 m.entry) (view_of (past (c.0).1) p) n (has_filter (is_in (past (c.0).1)) p n i (past_in (past (c.0).1) n low)) x.2))))
    ]
  ]
    where
      g : Kind × List Noted → Bool
      g c = is_lock c.0 && is_blocked_by u c.1 t writes

      x : (pair : Item × ℤ) × In pair writes × (is_read_by (is_txn u) pair.0 n.entry ≡ true)
      x = any_in (λ (pair : Item × ℤ). is_read_by (is_txn u) pair.0 n.entry) writes e

      in_view : (v : View) → list_any (λ m. is_read_by (is_txn u) (x.0).0 m.entry) (view_of v p) ≡ true → is_blocked_by u (view_of v p) t writes ≡ true
      in_view v q = and_from _ _
          (and_from (not (is_txn t u)) (not (has_ended (view_of v p) u)) (ap not differ)
          (ap not (not_true (has_ended (view_of v p) u) (λ e. (let m = any_has (λ m. is_end_of u m.entry) (view_of v p) e in
          true≢false (sym (and_parts (has_begun p u) (not (has_ended p u)) run).1 ∙ ap not (has_any (λ m. is_end_of u m.entry) p m.0 (filter_has (is_in v) p m.0 m.1).0 m.2)))))))
          (in_any (λ (pair : Item × ℤ). list_any (λ m. is_read_by (is_txn u) pair.0 m.entry) (view_of v p)) writes x.0 x.1 q)
