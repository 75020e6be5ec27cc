-- The programs, run alone in the serial order, make the Commits of the history.
use Rattle.std.proofs.Common.{◌≡◌, ℕ, zero, suc, ℤ, inl, inr, Bool, true, false, ◌==◌, cond, if◌then◌else◌, List, [], ◌∷◌, ◌++◌, map, arith, sym, ◌∙◌, ap, subst, refl, Option, Some, None, append-nil, append_assoc}
use Rattle.std.specs.Prelude.{find, option_and_then, unwrap_or}
use Rattle.std.specs.Option.{option_map_or}
use Rattle.std.specs.List.{cons_option}
use Rattle.std.proofs.lemmas.Bool.{true≢false, or_left}
use Rattle.std.proofs.lemmas.Grind.{common_steps}
use Rattle.std.proofs.lemmas.List.Folds.{list_any-append}
use Rattle.raid_base.specs.declared.names.Txn.{Txn}
use Rattle.raid_base.specs.declared.names.Item.{Item}
use Rattle.raid_base.specs.declared.names.Site.{Site}
use Rattle.raid_base.specs.declared.request.Request.{Request}
use Rattle.raid_base.specs.declared.entry.Entry.{Entry as Real}
use Rattle.raid_base.specs.declared.entry.Entry.TheVariants.{Commit}
use Rattle.raid_base.specs.declared.entry.Noted.{Noted as RNoted}
use Rattle.raid_base.specs.Names.{is_txn, has_txn, holds}
use Rattle.raid_base.specs.Find.{first_of}
use Rattle.raid_workload.specs.declared.workload.Workload.{Workload}
use Rattle.raid_rules.specs.Entries.{is_commit_of, writes_of, reads_item}
use Rattle.raid_rules.specs.History.{noted as noted_in, add, next, value, has_committed}
use Rattle.raid_rules.specs.Conflict.{commits as commits_in, committed, commit_of}
use Rattle.raid_rules.proofs.Push.{same_txn, noted_push, fold_seeing_push}
use Rattle.raid_legal.specs.Seen.{seen, value_of}
use Rattle.raid_legal.proofs.Push.{legal_push}
use Rattle.raid_program.specs.Run.{Answers, outcome_of}
use Rattle.raid_program.specs.declared.program.Want.TheVariants as wants
use Rattle.raid_workload.specs.Parts.{program}
use Rattle.raid_legal.specs.Legal.{Legal}
use Rattle.raid_rules.specs.Committed.{AllOnce}
use Rattle.raid_serial.proofs.Model.{Noted, Member, IsRead, commit}
use Rattle.raid_serial.proofs.System.{In}
use Rattle.raid_serial.proofs.Serial.{Maybe, nothing, just, or_else, Val, Writes}
use Rattle.raid_serial.proofs.Values.{commits, add as add_model, Tail}
use Rattle.raid_serial.proofs.Translate.{txn, item_of, items_of, entry_of, noted_of, hist_of, hist_push, Has, has_any, cases_true, not_true, eq_self, rep_hist, commit_to, holds_mem, read_from}
use Rattle.raid_serial.proofs.Grants.{has_last, has_before}
use Rattle.raid_rules.proofs.Places.{by_last}
use Rattle.raid_serial.proofs.Made.{Made, allowed_made, legal_waits}
use Rattle.raid_serial.proofs.Facts.{some_is, none_is}
use Rattle.raid_rules.proofs.Listing.{committed_has}

-- a proof for each list by its last entry
by_last_noted : (P : List RNoted → Type 0) → P [] → ((p : List RNoted) (n : RNoted) → P p → P (p ++ n ∷ [])) → (p : List RNoted) → P p
by_last_noted P none more p = go [] p none
  where
    go : (before p : List RNoted) → P before → P (before ++ p)
    go before [] q = subst P (sym (append-nil before)) q
    go before (n ∷ p) q = subst P (append_assoc before (n ∷ []) p) (go (before ++ n ∷ []) p (more before n q))

value_push : (initial : ℤ) (q : List RNoted) (n : RNoted) (x : Item) → value initial (q ++ n ∷ []) x ≡ unwrap_or (first_of x (writes_of n.entry)) (value initial q x)
value_push initial q n x = grind (arith, common_steps)

-- the only Commit of a transaction
once_tail : (e : Real) (cs : List (Txn × Request)) → AllOnce (map (λ c. c.0) (cons_option (commit_of e) cs)) → AllOnce (map (λ c. c.0) cs)
once_tail (Commit u request applied) cs d = d.1
once_tail other cs d = d

once_head : (e : Real) (cs : List (Txn × Request)) (t : Txn) → AllOnce (map (λ c. c.0) (cons_option (commit_of e) cs)) → is_commit_of t e ≡ true → has_txn (map (λ c. c.0) cs) t ≡ false
once_head (Commit u request applied) cs t d i = subst (λ z. has_txn (map (λ c. c.0) cs) z ≡ false) (same_txn u t i) d.0
once_head other cs t d i = absurd (true≢false (sym i))

pub find_commit : (p : List RNoted) (n : RNoted) (t : Txn) → AllOnce (committed p) → Has n p → is_commit_of t n.entry ≡ true → find (λ m. is_commit_of t m.entry) p ≡ Some n
find_commit [] n t d i e = absurd i
find_commit (m ∷ ms) n t d (inl q) e = ap (λ b. cond b (Some m) (find (λ m. is_commit_of t m.entry) ms)) (ap (λ z. is_commit_of t z.entry) (sym q) ∙ e) ∙ ap Some (sym q)
find_commit (m ∷ ms) n t d (inr i) e =
    let h : has_committed ms t ≡ true = has_any (λ m. is_commit_of t m.entry) ms n i e in
    let f : is_commit_of t m.entry ≡ false = not_true _ (λ b. true≢false (sym (committed_has ms t ∙ h) ∙ once_head m.entry (commits_in ms) t d b)) in
    ap (λ b. cond b (Some m) (find (λ m. is_commit_of t m.entry) ms)) f ∙ find_commit ms n t (once_tail m.entry (commits_in ms) d) i e

first_holds : (x : ℕ) (ps : List (Item × ℤ)) (v : ℤ) → first_of (item_of x) ps ≡ Some v → holds (item_of x) ps ≡ true
first_holds x [] v e = absurd (none_is v e)
first_holds x (p ∷ ps) v e = elim (cases_true (p.0.0 == x)) [
  | inl q ↦ or_left _ _ q
  | inr q ↦ (let f : first_of (item_of x) ps ≡ Some v = sym (ap (λ b. if b then Some p.1 else first_of (item_of x) ps) q) ∙ e in grind (arith, common_steps, first_holds x ps v f))
]

module _ (p : List RNoted) (d : AllOnce (committed p)) where
  -- what a transaction wrote to an item, who wrote it, and the number of its Commit
  abbrev pub wrote : ℕ → ℕ → Option ℤ
  wrote t x = option_and_then (λ (n : RNoted). first_of (item_of x) (writes_of n.entry)) (find (λ (n : RNoted). is_commit_of (txn t) n.entry) p)

  abbrev pub mark : ℕ → Option ℤ → Maybe
  mark t None = nothing
  mark t (Some v) = just (suc t)

  abbrev pub wr : ℕ → ℕ → Maybe
  wr t x = mark t (wrote t x)

  abbrev pub none : ℕ → ℕ
  none x = 0

  abbrev pub number_at : ℕ → ℕ
  number_at t = option_map_or (λ (n : RNoted). n.at) (find (λ (n : RNoted). is_commit_of (txn t) n.entry) p) 0

  -- the value that a writer left, 0 for none
  abbrev pub decode : ℤ → ℕ → ℕ → ℤ
  decode initial x zero = initial
  decode initial x (suc t) = unwrap_or (wrote t x) initial

  pub wrote_at : (n : RNoted) (t x : ℕ) → Has n p → is_commit_of (txn t) n.entry ≡ true → wrote t x ≡ first_of (item_of x) (writes_of n.entry)
  wrote_at n t x i e = ap (λ (o : Option RNoted). option_and_then (λ (n : RNoted). first_of (item_of x) (writes_of n.entry)) o) (find_commit p n (txn t) d i e)

  pub number : (a : Noted) (t : ℕ) (ys : List ℕ) → In a (hist_of p) → a.entry ≡ commit t ys → a.at ≡ number_at t
  number a t ys i e =
      let o = (rep_hist p).out a i in
      let f = find_commit p o.0 (txn t) d o.1 (commit_to (o.0).entry t ys (sym (ap (λ z. z.entry) o.2) ∙ e)) in
      ap (λ z. z.at) o.2 ∙ sym (ap (λ (q : Option RNoted). option_map_or (λ (n : RNoted). n.at) q 0) f)

  marked : (t v : ℕ) (o : Option ℤ) → mark t o ≡ just v → (z : ℤ) × (o ≡ Some z)
  marked t v None e = absurd (cc e)
  marked t v (Some z) e = (z, refl)

  written_items : (e : Real) (t x : ℕ) (ys : List ℕ) (v : ℤ) → entry_of e ≡ commit t ys → first_of (item_of x) (writes_of e) ≡ Some v → Member x ys
  written_items (Commit u request applied) t x ys v q f = let b : items_of request.writes ≡ ys = cc q in subst (Member x) b (holds_mem x request.writes (first_holds x request.writes v f))
  written_items other t x ys v q f = absurd (cc q)

  pub writes : (a : Noted) (t x : ℕ) (ys : List ℕ) → In a (hist_of p) → a.entry ≡ commit t ys → Writes wr none number_at t x → Member x ys
  writes a t x ys i e w =
      let o = (rep_hist p).out a i in
      let q : entry_of (o.0).entry ≡ commit t ys = sym (ap (λ z. z.entry) o.2) ∙ e in
      let z = marked t w.0 (wrote t x) w.1 in
      written_items (o.0).entry t x ys z.0 q (sym (wrote_at o.0 t x o.1 (commit_to (o.0).entry t ys q)) ∙ z.1)

  -- an item's value in a part of the history
  decode_step : (initial old : ℤ) (t x k : ℕ) (o : Option ℤ) → wrote t x ≡ o → old ≡ decode initial x k → unwrap_or o old ≡ decode initial x (or_else (mark t o) k)
  decode_step initial old t x k None e h = h
  decode_step initial old t x k (Some v) e h = sym (ap (λ q. unwrap_or q initial) e)

  value_step : (initial : ℤ) (q : List RNoted) (n : RNoted) (x : ℕ) → Has n p → value initial q (item_of x) ≡ decode initial x (Val wr none number_at (commits (hist_of q)) x) →
      unwrap_or (first_of (item_of x) (writes_of n.entry)) (value initial q (item_of x)) ≡ decode initial x (Val wr none number_at (add_model (entry_of n.entry) (commits (hist_of q))) x)
  value_step initial q n x i h = go n.entry refl
    where
      go : (e : Real) → n.entry ≡ e → unwrap_or (first_of (item_of x) (writes_of e)) (value initial q (item_of x)) ≡ decode initial x (Val wr none number_at (add_model (entry_of e) (commits (hist_of q))) x)
      go (Commit u request applied) s =
          let w : wrote u.0 x ≡ first_of (item_of x) request.writes = wrote_at n u.0 x i (ap (is_commit_of u) s ∙ eq_self u.0 u.0 refl) ∙ ap (λ e. first_of (item_of x) (writes_of e)) s in
          subst (λ o. unwrap_or o (value initial q (item_of x)) ≡ decode initial x (or_else (mark u.0 (wrote u.0 x)) (Val wr none number_at (commits (hist_of q)) x))) w (decode_step initial (value initial q (item_of x)) u.0 x (Val wr none number_at (commits (hist_of q)) x) (wrote u.0 x) refl h)
      go other s = h

  pub value_is : (initial : ℤ) (x : ℕ) (q : List RNoted) → ((n : RNoted) → Has n q → Has n p) → value initial q (item_of x) ≡ decode initial x (Val wr none number_at (commits (hist_of q)) x)
  value_is initial x = by_last_noted (λ q. ((n : RNoted) → Has n q → Has n p) → value initial q (item_of x) ≡ decode initial x (Val wr none number_at (commits (hist_of q)) x)) (λ sub. refl) more
    where
      more : (q : List RNoted) (n : RNoted) → (((n : RNoted) → Has n q → Has n p) → value initial q (item_of x) ≡ decode initial x (Val wr none number_at (commits (hist_of q)) x)) → ((m : RNoted) → Has m (q ++ n ∷ []) → Has m p) →
          value initial (q ++ n ∷ []) (item_of x) ≡ decode initial x (Val wr none number_at (commits (hist_of (q ++ n ∷ []))) x)
      more q n h sub =
          value_push initial q n (item_of x)
          ∙ value_step initial q n x (sub n (has_last q n)) (h (λ m i. sub m (has_before q m n i)))
          ∙ ap (λ z. decode initial x (Val wr none number_at (commits z) x)) (sym (hist_push q n))

-- where a transaction read what it has seen of an item
abbrev pub Witness : Workload → List RNoted → Txn → Item → ℤ → Type 0
Witness w p t x v = (a : RNoted) × (q : List RNoted) × Tail (noted_of a) (hist_of q) (hist_of p) × IsRead (noted_of a) t.0 x.0 × (value_of w q x ≡ v) × ((n : RNoted) → Has n q → Has n p)

widen : (w : Workload) (p : List RNoted) (n : RNoted) (t : Txn) (x : Item) (v : ℤ) → Witness w p t x v → Witness w (p ++ n ∷ []) t x v
widen w p n t x v s = (s.0, s.1, subst (Tail (noted_of s.0) (hist_of s.1)) (sym (hist_push p n)) (inr s.2), s.3, s.4, λ m i. has_before p m n (s.5 m i))

seen_step : (w : Workload) (p : List RNoted) (n : RNoted) (t : Txn) (x : Item) (v : ℤ) (b : Bool) → reads_item t x n.entry ≡ b → (seen w p t x ≡ Some v → Witness w p t x v) → (if b then Some (value_of w p x) else seen w p t x) ≡ Some v → Witness w (p ++ n ∷ []) t x v
seen_step w p n t x v true e h q = (n, p, subst (Tail (noted_of n) (hist_of p)) (sym (hist_push p n)) (inl (refl, refl)), read_from n.entry t.0 x.0 e, some_is (value_of w p x) v q, λ m i. has_before p m n i)
seen_step w p n t x v false e h q = widen w p n t x v (h q)

pub seen_from : (w : Workload) (t : Txn) (x : Item) (v : ℤ) (p : List RNoted) → seen w p t x ≡ Some v → Witness w p t x v
seen_from w t x v = by_last_noted (λ p. seen w p t x ≡ Some v → Witness w p t x v) (λ e. absurd (none_is v e))
    (λ p n h q. seen_step w p n t x v (reads_item t x n.entry) refl h (sym (fold_seeing_push (λ before o m. if reads_item t x m.entry then Some (value_of w before x) else o) None p n) ∙ q))

-- a committed transaction: its Commit, and answers on which its program makes it
pub record Done (w : Workload) (p : List RNoted) (t : Txn) : Type 0 where
  pub answers : Answers
  pub at : RNoted
  pub request : Request
  pub applied : List Site
  pub has : Has at p
  pub is : at.entry ≡ Commit t request applied
  pub makes : outcome_of (program w t) answers ≡ record { end = wants.Done; reads = request.reads; writes = request.writes }
  pub seen : (x : Item) (v : ℤ) → answers x ≡ Some v → Witness w p t x v

done_widen : (w : Workload) (p : List RNoted) (n : RNoted) (t : Txn) → Done w p t → Done w (p ++ n ∷ []) t
done_widen w p n t d = record { answers = d.answers; at = d.at; request = d.request; applied = d.applied; has = has_before p d.at n d.has; is = d.is; makes = d.makes; seen = λ x v e. widen w p n t x v (d.seen x v e) }

done_new : (w : Workload) (p : List RNoted) (e : Real) (t : Txn) → Made w p e → is_commit_of t e ≡ true → Done w (add p e) t
done_new w p (Commit u request applied) t m i = subst (λ z. Done w (add p (Commit u request applied)) z) (same_txn u t i) (record {
  answers = seen w p u;
  at = next p (Commit u request applied);
  request = request;
  applied = applied;
  has = has_last p (next p (Commit u request applied));
  is = refl;
  makes = λ i. record { end = m.done i; reads = m.reads i; writes = m.writes i };
  seen = λ x v e. widen w p (next p (Commit u request applied)) u x v (seen_from w u x v p e);
})
done_new w p other t m i = absurd (true≢false (sym i))

pub all_done : (w : Workload) (h : List Real) → Legal w h → (t : Txn) → has_committed (noted_in h) t ≡ true → Done w (noted_in h) t
all_done w = by_last (λ h. Legal w h → (t : Txn) → has_committed (noted_in h) t ≡ true → Done w (noted_in h) t) (λ l t e. absurd (true≢false (sym e))) more
  where
    more : (h : List Real) (e : Real) → (Legal w h → (t : Txn) → has_committed (noted_in h) t ≡ true → Done w (noted_in h) t) → Legal w (h ++ e ∷ []) → (t : Txn) → has_committed (noted_in (h ++ e ∷ [])) t ≡ true → Done w (noted_in (h ++ e ∷ [])) t
    more h e rest l t c =
        let q = (legal_push w h e).0 l in
        let c' : has_committed (add (noted_in h) e) t ≡ true = subst (λ p. has_committed p t ≡ true) (noted_push h e) c in
        subst (λ p. Done w p t) (sym (noted_push h e)) (elim (cases_true (has_committed (noted_in h) t)) [
          | inl a ↦ done_widen w (noted_in h) (next (noted_in h) e) t (rest q.0 t a)
          | inr b ↦ done_new w (noted_in h) e t (allowed_made w (noted_in h) e (legal_waits w h q.0) q.1) (grind (arith, common_steps, c', b, list_any-append (λ n. is_commit_of t n.entry) (noted_in h) (next (noted_in h) e ∷ [])))
        ])

-- the request of a transaction's Commit
request_past : (e : Real) (cs : List (Txn × Request)) (t : Txn) (r : Txn × Request) → is_commit_of t e ≡ false → find (λ c. is_txn t c.0) cs ≡ Some r → find (λ c. is_txn t c.0) (cons_option (commit_of e) cs) ≡ Some r
request_past (Commit u request applied) cs t r f e = ap (λ b. cond b (Some (u, request)) (find (λ c. is_txn t c.0) cs)) f ∙ e
request_past other cs t r f e = e

pub find_request : (p : List RNoted) (n : RNoted) (t : Txn) (request : Request) (applied : List Site) → AllOnce (committed p) → Has n p → n.entry ≡ Commit t request applied → find (λ c. is_txn t c.0) (commits_in p) ≡ Some (t, request)
find_request [] n t request applied d i e = absurd i
find_request (m ∷ ms) n t request applied d (inl q) e = subst (λ z. find (λ c. is_txn t c.0) (cons_option (commit_of z) (commits_in ms)) ≡ Some (t, request)) (sym e ∙ ap (λ z. z.entry) q) (ap (λ b. cond b (Some (t, request)) (find (λ c. is_txn t c.0) (commits_in ms))) (eq_self t.0 t.0 refl))
find_request (m ∷ ms) n t request applied d (inr i) e =
    let h : has_committed ms t ≡ true = has_any (λ m. is_commit_of t m.entry) ms n i (ap (is_commit_of t) e ∙ eq_self t.0 t.0 refl) in
    let f : is_commit_of t m.entry ≡ false = not_true _ (λ b. true≢false (sym (committed_has ms t ∙ h) ∙ once_head m.entry (commits_in ms) t d b)) in
    request_past m.entry (commits_in ms) t (t, request) f (find_request ms n t request applied (once_tail m.entry (commits_in ms) d) i e)
