-- No trap of waits: each entry that is placed keeps it so.
use Rattle.std.proofs.Common.{◌≡◌, ℕ, ℤ, ◌+◌, ◌<◌, ◌≤◌, ◌⊎◌, inl, inr, Bool, true, false, not, ◌&&◌, nat_lt, List, [], ◌∷◌, ◌++◌, map, length, Option, Some, None, if◌then◌else◌, arith, sym, ◌∙◌, ap, subst, refl}
use Rattle.std.specs.Prelude.{filter, filter_map, is_some}
use Rattle.std.proofs.lemmas.Bool.{true≢false, and_parts, and_from, or_left}
use Rattle.std.proofs.lemmas.Grind.{common_steps}
use Rattle.raid_base.specs.declared.names.Txn.{Txn}
use Rattle.raid_base.specs.declared.names.Item.{Item}
use Rattle.raid_base.specs.declared.request.Request.{Request}
use Rattle.raid_base.specs.declared.entry.Entry.{Entry}
use Rattle.raid_base.specs.declared.entry.Entry.TheVariants.{Read, Wait, Commit, Abort, SwitchOn, SwitchEnd}
use Rattle.raid_base.specs.declared.entry.Cause.{Cause}
use Rattle.raid_base.specs.declared.entry.Cause.TheVariants as causes
use Rattle.raid_base.specs.declared.entry.Act.TheVariants as acts
use Rattle.raid_base.specs.declared.entry.Noted.{Noted}
use Rattle.raid_base.specs.declared.verdict.Kind.{Kind}
use Rattle.raid_base.specs.declared.verdict.Verdict.{Verdict}
use Rattle.raid_base.specs.declared.verdict.Verdict.TheVariants as verdicts
use Rattle.raid_base.specs.Names.{is_txn}
use Rattle.raid_workload.specs.declared.workload.Workload.{Workload}
use Rattle.raid_rules.specs.Entries.{is_begin_of, wait_of}
use Rattle.raid_rules.specs.History.{noted, add, next, stamp, is_running, is_waiting, waiting}
use Rattle.raid_rules.specs.Conflict.{one, leads}
use Rattle.raid_rules.specs.Verdicts.{writing}
use Rattle.raid_rules.proofs.Push.{same_txn, noted_push}
use Rattle.raid_rules.proofs.Places.{by_last}
use Rattle.raid_rules.proofs.Paths.{join}
use Rattle.raid_rules.proofs.Reach.{IsPair, leads_path, path_leads}
use Rattle.raid_rules.proofs.Txns.{eq_self}
use Rattle.raid_legal.specs.Seen.{running}
use Rattle.raid_legal.specs.InForce.{InForce, in_force, turn, is_tied, is_over, verdict}
use Rattle.raid_legal.specs.Answers.{is_lock, blocks, wait_edges, closes_waits, answer_commit, answered, decided, site_refusal}
use Rattle.raid_legal.specs.Forced.{forced}
use Rattle.raid_legal.proofs.Left.{Compels, forced_compels}
use Rattle.raid_serial.proofs.Facts.{none_is, not_off}
use Rattle.raid_serial.proofs.Force.{in_force_push}
use Rattle.raid_serial.proofs.Grants.{has_split}
use Rattle.raid_serial.proofs.Translate.{Has, cases_true, not_true}
use Rattle.raid_placed.specs.Placed.{Placed, Placeable, Goes}
use Rattle.raid_placed.specs.Waiting.{turn_waiting}
use Rattle.raid_placed.proofs.Sent.{placed_push, placed_fact, unforced_quiet}
use Rattle.raid_placed.proofs.Orderly.{placed_running}
use Rattle.raid_placed.proofs.Waiting.{placed_waiting}
use Rattle.raid_untrapped.specs.Trap.{cut_at, wait_cut}
use Rattle.raid_untrapped.proofs.Members.{In, in_any, any_txn, in_push, in_filter, any_kept, any_joined}
use Rattle.raid_untrapped.proofs.Ends.{reads}
use Rattle.raid_untrapped.proofs.Waits.{Rel, touches, touched_read, wait_holds, read_late, rel_blocks}

-- no set of transactions is such that each of it is in relation to one of it, but the empty one
abbrev pub NoTrap : (Txn → Txn → Type 0) → Type 0
NoTrap R = (X : Txn → Bool) → ((t : Txn) → X t ≡ true → (u : Txn) × (X u ≡ true) × R t u) → (t : Txn) → X t ≡ true → ⊥

-- a smaller relation has none; it is enough that it is smaller where both ends are in relation to something
pub smaller : (R S : Txn → Txn → Type 0) → NoTrap R → ((t u v : Txn) → S t u → S u v → R t u) → NoTrap S
smaller R S none up X trap = none X (λ t i. (let a = trap t i in let b = trap a.0 a.1 in (a.0, a.1, up t a.0 b.0 a.2 b.2)))

-- who waits runs
waits_run : (p : List Noted) (t : Txn) (request : Request) → In (t, request) (waiting p) → is_running p t ≡ true
waits_run p t request i = (in_filter (λ r. is_running p r.0) (filter_map (λ n. wait_of n.entry) p) (t, request) i).1

pub waits_is : (p : List Noted) (t : Txn) (request : Request) → In (t, request) (waiting p) → is_waiting p t ≡ true
waits_is p t request i = in_any (λ r. is_txn t r.0) (waiting p) (t, request) i (eq_self t.0 t.0 refl)

-- what was asked by who waits stays asked, but for a Wait's
waited_before : (rs : List (Txn × Request)) (e : Entry) (r : Txn × Request) → wait_of e ≡ None → In r (turn_waiting rs e) → In r rs
waited_before rs (Wait t request) r q i = absurd (none_is (t, request) (sym q))
waited_before rs (Commit t request applied) r q i = (in_filter (λ r. not (is_txn t r.0)) rs r i).0
waited_before rs (Abort t cause act) r q i = (in_filter (λ r. not (is_txn t r.0)) rs r i).0
waited_before rs other r q i = i

-- who reads doesn't wait
reader_free : (w : Workload) (p : List Noted) (e : Entry) (u : Txn) → Placeable w p e → reads u e ≡ true → is_waiting p u ≡ false
reader_free w p (Read t x s) u g r = subst (λ z. is_waiting p z ≡ false) (same_txn t u r) (step (forced w p) refl g)
  where
    step : (o : Option Entry) → forced w p ≡ o → Goes w p (Read t x s) o → is_waiting p t ≡ false
    step None q g = not_off (is_waiting p t) (and_parts (is_running p t) (not (is_waiting p t)) g.0).1
    step (Some must) q g = absurd (subst (Compels w p) (sym g) (forced_compels w p must q))
reader_free w p other u g r = absurd (true≢false (sym r))

-- the computed edges
pub wait_pair : (w : Workload) (p : List Noted) (rs : List (Txn × Request)) (u v : Txn) (a b : Request) → In (u, a) rs → In (v, b) rs → blocks w p v u a.writes ≡ true → IsPair (wait_edges w p rs) u v
wait_pair w p rs u v a b i j e =
    any_joined (λ (r : Txn × Request). map (λ (q : Txn × Request). (r.0, q.0)) (filter (λ (q : Txn × Request). blocks w p q.0 r.0 r.1.writes) rs)) (λ (e : Txn × Txn). is_txn u e.0 && is_txn v e.1) rs (u, a) i
    (any_kept (λ (q : Txn × Request). blocks w p q.0 u a.writes) (λ (q : Txn × Request). (u, q.0)) (λ (e : Txn × Txn). is_txn u e.0 && is_txn v e.1) rs (v, b) j e (and_from _ _ (eq_self u.0 u.0 refl) (eq_self v.0 v.0 refl)))

module _ (w : Workload) (h : List Entry) (l : Placed w h) where
  abbrev p : List Noted
  p = noted h

  -- a SwitchEnd finds no running transaction with Reads before the SwitchOn
  over_late : (n : Noted) (u : Txn) (writes : List (Item × ℤ)) (c : Option (Kind × ℕ)) → is_over w p c ≡ true → is_running p u ≡ true → Has n p → touches u writes n.entry ≡ true → (b : Bool) → cut_at b c < n.at
  over_late n u writes None over run i e b = absurd (true≢false (sym over))
  over_late n u writes (Some c) over run i e b = low b
    where
      tied : is_tied p c.1 u ≡ false
      tied = not_true (is_tied p c.1 u) (λ q. true≢false (sym over ∙ ap not (any_txn (is_tied p c.1) (running w p) u q (placed_running w h l u ∙ run))))

      early : nat_lt (stamp p u) c.1 ≡ false
      early = not_true (nat_lt (stamp p u) c.1) (λ q. true≢false (sym (or_left (nat_lt (stamp p u) c.1) _ q) ∙ tied))

      not_below : (a b : ℕ) → nat_lt a b ≡ false → b ≤ a
      not_below a b e = grind (arith, common_steps, e)

      low : (b : Bool) → cut_at b (Some c) < n.at
      low true = (let z : stamp p u < n.at = read_late w h l n u writes i e in omega arith)
      low false = (let z : stamp p u < n.at = read_late w h l n u writes i e in let y : c.1 ≤ stamp p u = not_below (stamp p u) c.1 early in omega arith)

  abbrev cut_of : InForce → ℕ
  cut_of f = cut_at (is_lock f.kind) f.next

  single_cut : (b : Bool) (o : Option (Kind × ℕ)) → is_some o ≡ false → cut_at b o ≡ 0
  single_cut true o e = refl
  single_cut false None e = refl
  single_cut false (Some c) e = absurd (true≢false e)

  -- where an entry lets the cut fall, the Reads of those that run stand past it all the same
  later : (e : Entry) → Placeable w p e → (n : Noted) (u : Txn) (writes : List (Item × ℤ)) → is_running p u ≡ true → Has n p → touches u writes n.entry ≡ true →
      cut_of (turn w p (in_force w p) (length p + 1) e) < n.at → wait_cut w p < n.at
  later (SwitchOn k to method) g n u writes run i t c = (let z : wait_cut w p ≡ 0 = single_cut (is_lock (in_force w p).kind) (in_force w p).next (placed_fact w p (SwitchOn k to method) g).1 in omega arith)
  later (SwitchEnd k) g n u writes run i t c = over_late n u writes (in_force w p).next (placed_fact w p (SwitchEnd k) g) run i t (is_lock (in_force w p).kind)
  later other g n u writes run i t c = c

  -- between two that wait, no entry but a Wait gives rise to the relation
  kept_rel : (e : Entry) → Placeable w p e → wait_of e ≡ None → (t u v : Txn) → Rel (wait_cut w (add p e)) (add p e) t u → Rel (wait_cut w (add p e)) (add p e) u v → Rel (wait_cut w p) p t u
  kept_rel e g none t u v r s =
      let j : In (u, s.request) (waiting p) = before u s.request s.waits in
      let run : is_running p u ≡ true = waits_run p u s.request j in
      elim (has_split p r.read (next p e) r.there) [
        | inl a ↦ record {
          request = r.request;
          waits = before t r.request r.waits;
          differ = r.differ;
          runs = run;
          read = r.read;
          there = a;
          late = later e g r.read u r.request.writes run a r.touched (subst (λ z. cut_of z < r.read.at) (in_force_push w p e) r.late);
          touched = r.touched;
        }
        | inr a ↦ absurd (true≢false (sym (waits_is p u s.request j) ∙ reader_free w p e u g (touched_read u r.request.writes e (subst (λ z. touches u r.request.writes z.entry ≡ true) a r.touched)).2))
      ]
    where
      before : (t : Txn) (request : Request) → In (t, request) (waiting (add p e)) → In (t, request) (waiting p)
      before t request i = waited_before (waiting p) e (t, request) none (subst (In (t, request)) (placed_waiting w h e l g) i)

  other_none : (e : Entry) → Placeable w p e → wait_of e ≡ None → NoTrap (Rel (wait_cut w p) p) → NoTrap (Rel (wait_cut w (add p e)) (add p e))
  other_none e g q none = smaller (Rel (wait_cut w p) p) (Rel (wait_cut w (add p e)) (add p e)) none (kept_rel e g q)

  -- a Wait
  module _ (t : Txn) (request : Request) (g : Placeable w p (Wait t request)) where
    abbrev e : Entry
    e = Wait t request

    abbrev rs : List (Txn × Request)
    rs = waiting p ++ (t, request) ∷ []

    abbrev pairs : List (Txn × Txn)
    pairs = wait_edges w p rs

    waits_sent : (forced w p ≡ None) × (answer_commit w p t request ≡ Some e)
    waits_sent = go (forced w p) refl g
      where
        go : (o : Option Entry) → forced w p ≡ o → Goes w p e o → (forced w p ≡ None) × (answer_commit w p t request ≡ Some e)
        go None q g = (q, g.1)
        go (Some must) q g = absurd (subst (Compels w p) (sym g) (forced_compels w p must q))

    waits_open : (a b : Bool) → (if a then None else if b then Some (Abort t causes.Deadlock (acts.Commit request)) else Some (Wait t request)) ≡ Some e → b ≡ false
    waits_open true b q = absurd (none_is e q)
    waits_open false true q = absurd (cc q)
    waits_open false false q = refl

    decided_open : (v : Verdict) → verdict w p (writing t (stamp p t) request.writes) ≡ v → decided w p t request v ≡ Some e →
        (verdict w p (writing t (stamp p t) request.writes) ≡ verdicts.Wait) × (closes_waits w p t request ≡ false)
    decided_open (verdicts.Reject why) q d = absurd (cc d)
    decided_open verdicts.Grant q d = absurd (cc d)
    decided_open verdicts.Wait q d = (q, waits_open (is_waiting p t) (closes_waits w p t request) d)

    answered_open : (o : Option Cause) → answered w p t request o ≡ Some e → (verdict w p (writing t (stamp p t) request.writes) ≡ verdicts.Wait) × (closes_waits w p t request ≡ false)
    answered_open (Some why) d = absurd (cc d)
    answered_open None d = decided_open (verdict w p (writing t (stamp p t) request.writes)) refl d

    waits_now : (verdict w p (writing t (stamp p t) request.writes) ≡ verdicts.Wait) × (closes_waits w p t request ≡ false)
    waits_now = answered_open (site_refusal w p request) waits_sent.1

    lock : (is_lock (in_force w p).kind ≡ true) ⊎ ((c : Kind × ℕ) × ((in_force w p).next ≡ Some c) × (is_lock c.0 ≡ true))
    lock = elim (wait_holds w p t (stamp p t) request.writes waits_now.0) [ inl a ↦ inl a.0 | inr a ↦ inr (a.0, a.1, a.2) ]

    -- what the relation was made of before the Wait
    asked : (u : Txn) (r : Request) → In (u, r) (waiting (add p e)) → In (u, r) rs
    asked u r i = subst (In (u, r)) (placed_waiting w h e l g) i

    ran : (u : Txn) → is_running (add p e) u ≡ true → is_running p u ≡ true
    ran u run = ran_before p (next p e) u refl run
      where
        ran_before : (p : List Noted) (n : Noted) (u : Txn) → is_begin_of u n.entry ≡ false → is_running (p ++ n ∷ []) u ≡ true → is_running p u ≡ true
        ran_before p n u none runs = grind (arith, common_steps, none, runs)

    was_there : (n : Noted) (u : Txn) (writes : List (Item × ℤ)) → Has n (add p e) → touches u writes n.entry ≡ true → Has n p
    was_there n u writes i q = elim (has_split p n (next p e) i) [
      | inl a ↦ a
      | inr a ↦ absurd (true≢false (sym (touched_read u writes e (subst (λ z. touches u writes z.entry ≡ true) a q)).2))
    ]

    same_cut : (k : ℕ) → wait_cut w (add p e) < k → wait_cut w p < k
    same_cut k c = subst (λ z. cut_of z < k) (in_force_push w p e) c

    rel_edge : (u v x : Txn) → Rel (wait_cut w (add p e)) (add p e) u v → Rel (wait_cut w (add p e)) (add p e) v x → IsPair pairs u v
    rel_edge u v x r s =
        wait_pair w p rs u v r.request s.request (asked u r.request r.waits) (asked v s.request s.waits)
        (rel_blocks w h l u v r.request.writes (unforced_quiet w p waits_sent.0) lock r.differ (ran v r.runs) r.read (was_there r.read v r.request.writes r.there r.touched) (same_cut r.read.at r.late) r.touched)

    rel_old : (u v : Txn) → Rel (wait_cut w (add p e)) (add p e) u v → (u ≡ t → ⊥) → Rel (wait_cut w p) p u v
    rel_old u v r other = record {
      request = r.request;
      waits = elim (in_push (waiting p) (u, r.request) (t, request) (asked u r.request r.waits)) [ inl i ↦ i | inr q ↦ absurd (other (ap (λ z. z.0) q)) ];
      differ = r.differ;
      runs = ran v r.runs;
      read = r.read;
      there = was_there r.read v r.request.writes r.there r.touched;
      late = same_cut r.read.at r.late;
      touched = r.touched;
    }

    -- those of a trap that the new one reaches are a trap without it
    wait_none : NoTrap (Rel (wait_cut w p) p) → NoTrap (Rel (wait_cut w (add p e)) (add p e))
    wait_none none X trap u i = elim (cases_true (X t)) [
      | inl a ↦ (let b = trap t a in let c = trap b.0 b.1 in none Z inner b.0 (and_from (X b.0) (leads pairs t b.0) b.1 (path_leads pairs t b.0 (one (rel_edge t b.0 c.0 b.2 c.2)))))
      | inr a ↦ none X (λ v j. (let b = trap v j in (b.0, b.1, rel_old v b.0 b.2 (λ same. true≢false (sym j ∙ ap X same ∙ a))))) u i
    ]
      where
        Z : Txn → Bool
        Z v = X v && leads pairs t v

        inner : (v : Txn) → Z v ≡ true → (x : Txn) × (Z x ≡ true) × Rel (wait_cut w p) p v x
        inner v j =
            let k = and_parts (X v) (leads pairs t v) j in
            let b = trap v k.0 in
            let c = trap b.0 b.1 in (
              b.0,
              and_from (X b.0) (leads pairs t b.0) b.1 (path_leads pairs t b.0 (join (IsPair pairs) (leads_path pairs t v k.1) (one (rel_edge v b.0 c.0 b.2 c.2)))),
              rel_old v b.0 b.2 (λ same. true≢false (sym (subst (λ z. leads pairs t z ≡ true) same k.1) ∙ waits_now.1)),
            )

-- no placed history has a trap
pub placed_trapless : (w : Workload) (h : List Entry) → Placed w h → NoTrap (Rel (wait_cut w (noted h)) (noted h))
placed_trapless w = by_last (λ h. Placed w h → NoTrap (Rel (wait_cut w (noted h)) (noted h))) (λ l X trap t i. absurd (trap t i).2.waits) more
  where
    step : (h : List Entry) (e : Entry) → Placed w h → Placeable w (noted h) e → NoTrap (Rel (wait_cut w (noted h)) (noted h)) → NoTrap (Rel (wait_cut w (add (noted h) e)) (add (noted h) e))
    step h (Wait t request) l g none = wait_none w h l t request g none
    step h other l g none = other_none w h l other g refl none

    more : (h : List Entry) (e : Entry) → (Placed w h → NoTrap (Rel (wait_cut w (noted h)) (noted h))) → Placed w (h ++ e ∷ []) → NoTrap (Rel (wait_cut w (noted (h ++ e ∷ []))) (noted (h ++ e ∷ [])))
    more h e rest l =
        let q = (placed_push w h e).0 l in
        subst (λ p. NoTrap (Rel (wait_cut w p) p)) (sym (noted_push h e)) (step h e q.0 q.1 (rest q.0))
