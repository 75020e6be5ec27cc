-- One kind alone: the order that it gives the edges.
use Rattle.std.proofs.Common.{◌≡◌, ℕ, ◌+◌, ◌<◌, ◌≤◌, ◌⊎◌, inl, inr, Bool, true, false, ◌||◌, cond, if◌then◌else◌, List, [], ◌∷◌, ◌++◌, length, get_or, fold, arith, sym, ◌∙◌, ap, subst, refl, None}
use Rattle.std.specs.Prelude.{slice_get}
use Rattle.std.specs.List.{All, list_any, filter}
use Rattle.std.proofs.lemmas.Bool.{true≢false}
use Rattle.std.proofs.lemmas.Grind.{common_steps}
use Rattle.std.proofs.lemmas.List.Elements.{All-head, All-tail}
use Rattle.raid_base.specs.declared.names.Txn.{Txn}
use Rattle.raid_base.specs.declared.entry.Entry.{Entry as Real}
use Rattle.raid_base.specs.declared.entry.Entry.TheVariants.{Read, Commit, SwitchOn, SwitchEnd}
use Rattle.raid_base.specs.declared.entry.Noted.{Noted as RNoted}
use Rattle.raid_base.specs.declared.verdict.Kind.TheVariants.{Lock, Stamp, Valid}
use Rattle.raid_base.specs.declared.verdict.Verdict.TheVariants as verdicts
use Rattle.raid_workload.specs.declared.workload.Workload.{Workload}
use Rattle.raid_rules.specs.Committed.{CommittedEdge}
use Rattle.raid_rules.specs.Conflict.{Edge as REdge}
use Rattle.raid_rules.specs.Entries.{is_commit, is_commit_of}
use Rattle.raid_rules.specs.History.{noted as noted_in, add, next, commit_number, stamp as stamp_in, is_running}
use Rattle.raid_rules.specs.Verdicts.{Question, reading, writing, verdict_of}
use Rattle.raid_rules.specs.Views.{whole, is_in, view_of}
use Rattle.raid_rules.proofs.Places.{by_last}
use Rattle.raid_rules.proofs.Push.{noted_push}
use Rattle.raid_legal.specs.InForce.{InForce, in_force, opening, turn, turn_end, verdict}
use Rattle.raid_legal.specs.Legal.{Legal}
use Rattle.raid_legal.proofs.Push.{legal_push}
use Rattle.raid_serial.proofs.Graph.{one}
use Rattle.raid_serial.proofs.Model.{Entry, commit, Noted, Member, Act, Edge, ActionOf, edge_last, edge_none}
use Rattle.raid_serial.proofs.Verdicts.{lock, stamp, valid, HasCommitted, Run, Grant, Promise, below, invalid}
use Rattle.raid_serial.proofs.System.{In, Hist, Live, CEdge, Base, facts, grows, view_path}
use Rattle.raid_serial.proofs.Theorem.{inv}
use Rattle.raid_serial.proofs.Translate.{txn, numbers_of, items_of, entry_of, noted_of, kind_of, hist_of, hist_push, Has, cases_true, rep_hist, commit_from}
use Rattle.raid_serial.proofs.Real.{run_model, edge_model, com_model}
use Rattle.raid_serial.proofs.Grants.{grant_reading, grant_writing}
use Rattle.raid_serial.proofs.Facts.{Fact, fact, each_grants, none_is}
use Rattle.raid_serial.proofs.Tamed.{Agrees, agrees_back, Stands, stands}
use Rattle.raid_serial.proofs.Force.{in_force_push}
use Rattle.raid_serial.proofs.Says.{Says, says}
use Rattle.raid_serial.proofs.Ordered.{run_begun}
use Rattle.raid_serial.proofs.Views.{at_has}

-- without switches the opening controller stays alone in force
alone_turn : (w : Workload) (p : List RNoted) (k : ℕ) (e : Real) → w.switches ≡ [] → (in_force w p).next ≡ None → Says w p e → turn w p (in_force w p) k e ≡ in_force w p
alone_turn w p k (SwitchOn j kind method) none single s = absurd (none_is s.1.0 (ap (λ l. slice_get l (in_force w p).switches) (sym none) ∙ s.1.1))
alone_turn w p k (SwitchEnd j) none single s = ap (turn_end (in_force w p)) single
alone_turn w p k other none single s = refl

pub stays_alone : (w : Workload) → w.switches ≡ [] → (h : List Real) → Legal w h → in_force w (noted_in h) ≡ opening w
stays_alone w none = by_last (λ h. Legal w h → in_force w (noted_in h) ≡ opening w) (λ l. refl) more
  where
    more : (h : List Real) (e : Real) → (Legal w h → in_force w (noted_in h) ≡ opening w) → Legal w (h ++ e ∷ []) → in_force w (noted_in (h ++ e ∷ [])) ≡ opening w
    more h e rest l =
        let q = (legal_push w h e).0 l in
        ap (in_force w) (noted_push h e) ∙ in_force_push w (noted_in h) e ∙ alone_turn w (noted_in h) (length (noted_in h) + 1) e none (ap (λ (f : InForce). f.next) (rest q.0)) (says w (noted_in h) e q.1) ∙ rest q.0

-- a filter that all pass
filter_all : (f : RNoted → Bool) (p : List RNoted) → All (λ n. f n ≡ true) p → filter f p ≡ p
filter_all f [] a = refl
filter_all f (m ∷ ms) a = ap (λ b. cond b (m ∷ filter f ms) (filter f ms)) (All-head (λ n. f n ≡ true) m ms a) ∙ ap (λ l. m ∷ l) (filter_all f ms (All-tail (λ n. f n ≡ true) m ms a))

all_from : (P : RNoted → Type 0) (p : List RNoted) → ((n : RNoted) → Has n p → P n) → All P p
all_from P p a k d l = a (get_or p k d) (at_has p k d l)

whole_is : (p : List RNoted) → ((n : RNoted) → Has n p → 0 < n.at) → view_of whole p ≡ p
whole_is p counted = filter_all (is_in whole) p (all_from (λ n. is_in whole n ≡ true) p (λ n i. (let l : 0 < n.at = counted n i in grind (arith, common_steps, l))))

-- which entries are actions
abbrev is_action : Real → Bool
is_action (Read t x site) = true
is_action (Commit t request applied) = true
is_action other = false

act_none : (e : Real) (k u x : ℕ) → is_action e ≡ false → Act (record { at = k; entry = entry_of e }) u x → ⊥
act_none (Read t y site) k u x q a = true≢false q
act_none (Commit t request applied) k u x q a = true≢false q
act_none other k u x q (inl a) = cc a
act_none other k u x q (inr a) = cc (a.1)

commit_none : (e : Real) (u : ℕ) (xs : List ℕ) → is_commit (λ t request. true) e ≡ false → entry_of e ≡ commit u xs → ⊥
commit_none (Commit t request applied) u xs q a = true≢false q
commit_none other u xs q a = cc a

abbrev Idle : Entry → Type 0
Idle e = (k u x : ℕ) → Act (record { at = k; entry = e }) u x → ⊥

module _ (w : Workload) (none : w.switches ≡ []) (S : ℕ → ℕ) (h : List Real) (l : Legal w h) (agree : Agrees S (noted_in h)) where
  abbrev p : List RNoted
  p = noted_in h

  abbrev st : Stands S w p
  st = stands S w h l agree

  base : Base S (hist_of p) (length p)
  base = (inv S st.tame).base

  -- the grant of the one controller, over the whole history
  granted : (q : Question) → verdict w p q ≡ verdicts.Grant → verdict_of w.kind p q ≡ verdicts.Grant
  granted q g =
      let first : verdict_of (in_force w p).kind (view_of (in_force w p).view p) q ≡ verdicts.Grant = (each_grants w p q g).0 in
      let opened : verdict_of w.kind (view_of whole p) q ≡ verdicts.Grant = subst (λ (f : InForce). verdict_of f.kind (view_of f.view p) q ≡ verdicts.Grant) (stays_alone w none h l) first in
      subst (λ view. verdict_of w.kind view q ≡ verdicts.Grant) (whole_is p st.counted) opened

  last : (e : Real) (m : Noted) → In m (hist_of p) → m.at < length p + 1
  last e m i = let b : m.at ≤ length p = base.bound m i in omega arith

  same_stamp : (t : Txn) → is_running p t ≡ true → stamp_in p t ≡ S t.0
  same_stamp t run = sym (agree t.0 (run_begun p t run))

  below_next : (e : Real) (a : RNoted) → Has a p → a.at < length p + 1
  below_next e a i = last e (noted_of a) ((rep_hist p).into a i)

  abbrev M : Real → Noted → Type 0
  M e = Hist (noted_of (next p e) ∷ hist_of p)

  read_grant : (t : Txn) (x : _) (s : _) → Fact w p (Read t x s) → Grant S (kind_of w.kind) (Hist (hist_of p)) (M (Read t x s)) (noted_of (next p (Read t x s))) t.0
  read_grant t x s f = grant_reading S (Hist (hist_of p)) (M (Read t x s)) p (noted_of (next p (Read t x s))) (rep_hist p) (grows (hist_of p) (noted_of (next p (Read t x s)))) st.stamps st.counted (below_next (Read t x s)) w.kind t.0 (stamp_in p t) x.0 (same_stamp t f.0) refl (granted (reading t (stamp_in p t) x) f.2)

  commit_grant : (t : Txn) (request : _) (applied : _) → Fact w p (Commit t request applied) → Grant S (kind_of w.kind) (Hist (hist_of p)) (M (Commit t request applied)) (noted_of (next p (Commit t request applied))) t.0
  commit_grant t request applied f = grant_writing S (Hist (hist_of p)) (M (Commit t request applied)) p (noted_of (next p (Commit t request applied))) (rep_hist p) (grows (hist_of p) (noted_of (next p (Commit t request applied)))) st.stamps st.counted (below_next (Commit t request applied)) w.kind t.0 (stamp_in p t) request.writes (same_stamp t f.0) refl (granted (writing t (stamp_in p t) request.writes) f.2)

  -- timestamps
  abbrev Rising : List Noted → Type 0
  Rising hist = (u v : ℕ) → Edge (Hist hist) u v → S u < S v

  rises_acts : (e : Real) (t : Txn) → is_running p t ≡ true → ActionOf (noted_of (next p e)) t.0 → Grant S stamp (Hist (hist_of p)) (M e) (noted_of (next p e)) t.0 → Rising (hist_of p) → Rising (noted_of (next p e) ∷ hist_of p)
  rises_acts e t run by g rest u v edge = elim (edge_last (Hist (hist_of p)) (M e) (noted_of (next p e)) t.0 (grows (hist_of p) (noted_of (next p e))) (last e) by u v edge) [
    | inl old ↦ rest u v old
    | inr new ↦ (let r : S u < S t.0 = below S (Hist (hist_of p)) (Hist (hist_of p)) (M e) (noted_of (next p e)) t.0 (facts S (hist_of p) (length p) base) (λ m i. i) (grows (hist_of p) (noted_of (next p e))) (last e) by (Run (Hist (hist_of p))) (λ r x. x) (run_model (Hist (hist_of p)) p (rep_hist p) t.0 run) u g new.1 in
        let q : S v ≡ S t.0 = ap S new.0 in omega arith)
  ]

  rises_idle : (e : Real) → Idle (entry_of e) → Rising (hist_of p) → Rising (noted_of (next p e) ∷ hist_of p)
  rises_idle e idle rest u v edge = rest u v (edge_none (Hist (hist_of p)) (M e) (noted_of (next p e)) (grows (hist_of p) (noted_of (next p e))) (idle (length p + 1)) u v edge)

  rises : (e : Real) → kind_of w.kind ≡ stamp → Fact w p e → Rising (hist_of p) → Rising (noted_of (next p e) ∷ hist_of p)
  rises (Read t x s) kind f = rises_acts (Read t x s) t f.0 (inl (x.0, refl)) (subst (λ k. Grant S k (Hist (hist_of p)) (M (Read t x s)) (noted_of (next p (Read t x s))) t.0) kind (read_grant t x s f))
  rises (Commit t request applied) kind f = rises_acts (Commit t request applied) t f.0 (inr (items_of request.writes, refl)) (subst (λ k. Grant S k (Hist (hist_of p)) (M (Commit t request applied)) (noted_of (next p (Commit t request applied))) t.0) kind (commit_grant t request applied f))
  rises other kind f = rises_idle other (λ k u x a. act_none other k u x refl a)

  -- locking and validation
  abbrev InTurn : List Noted → Type 0
  InTurn hist = (u v : ℕ) (c d : Noted) (xs ys : List ℕ) → CEdge hist u v → In c hist → In d hist → c.entry ≡ commit u xs → d.entry ≡ commit v ys → c.at < d.at

  old_commit : (e : Real) → is_commit (λ t request. true) e ≡ false → (c : Noted) (u : ℕ) (xs : List ℕ) → In c (noted_of (next p e) ∷ hist_of p) → c.entry ≡ commit u xs → In c (hist_of p)
  old_commit e q c u xs (inl i) is = absurd (commit_none e u xs q (subst (λ z. z.entry ≡ commit u xs) i is))
  old_commit e q c u xs (inr i) is = i

  turns_calm : (e : Real) → is_commit (λ t request. true) e ≡ false → ((u v : ℕ) → Edge (M e) u v → HasCommitted (Hist (hist_of p)) v → Edge (Hist (hist_of p)) u v) → InTurn (hist_of p) → InTurn (noted_of (next p e) ∷ hist_of p)
  turns_calm e q back rest u v c d xs ys edge ic id ec ed =
      let jc : In c (hist_of p) = old_commit e q c u xs ic ec in
      let jd : In d (hist_of p) = old_commit e q d v ys id ed in
      rest u v c d xs ys (back u v edge.0 (d, jd, (ys, ed)), (c, jc, (xs, ec)), (d, jd, (ys, ed))) jc jd ec ed

  old_edge : (e : Real) (t : Txn) → is_running p t ≡ true → ActionOf (noted_of (next p e)) t.0 → (u v : ℕ) → Edge (M e) u v → HasCommitted (Hist (hist_of p)) v → Edge (Hist (hist_of p)) u v
  old_edge e t run by u v edge done = elim (edge_last (Hist (hist_of p)) (M e) (noted_of (next p e)) t.0 (grows (hist_of p) (noted_of (next p e))) (last e) by u v edge) [
    | inl old ↦ old
    | inr new ↦ absurd ((run_model (Hist (hist_of p)) p (rep_hist p) t.0 run).1 (subst (λ z. HasCommitted (Hist (hist_of p)) z) new.0 done))
  ]

  -- nothing leaves a transaction whose Commit is granted
  no_out : (t : Txn) (request : _) (applied : _) → (kind_of w.kind ≡ lock) ⊎ (kind_of w.kind ≡ valid) → Fact w p (Commit t request applied) → (v : ℕ) → Edge (Hist (hist_of p)) t.0 v → ⊥
  no_out t request applied (inl kind) f v edge =
      let run = run_model (Hist (hist_of p)) p (rep_hist p) t.0 f.0 in
      let alone = stays_alone w none h l in
      let live : Live (hist_of p) (numbers_of (in_force w p).off) t.0 = (run, λ m. subst (λ (f : InForce). Member t.0 (numbers_of f.off)) alone m) in
      let force : InForce = in_force w p in
      let law : Promise S (kind_of (in_force w p).kind) t.0 v = (inv S st.tame).law t.0 v live (view_path (hist_of p) (in_force w p).view.cut (numbers_of (in_force w p).view.keep) (numbers_of (in_force w p).off) (inv S st.tame).cover t.0 v live (one edge)) in
      subst (λ k. Promise S k t.0 v) (ap (λ (f : InForce). kind_of f.kind) alone ∙ kind) law
  no_out t request applied (inr kind) f v edge =
      invalid S (Hist (hist_of p)) (Hist (hist_of p)) (M (Commit t request applied)) (noted_of (next p (Commit t request applied))) t.0 (facts S (hist_of p) (length p) base) (λ m i. i) (grows (hist_of p) (noted_of (next p (Commit t request applied)))) (last (Commit t request applied)) (inr (items_of request.writes, refl)) (Run (Hist (hist_of p))) (λ r x. x) (run_model (Hist (hist_of p)) p (rep_hist p) t.0 f.0)
      (items_of request.writes, refl) (subst (λ k. Grant S k (Hist (hist_of p)) (M (Commit t request applied)) (noted_of (next p (Commit t request applied))) t.0) kind (commit_grant t request applied f)) v (one edge)

  turns_commit : (t : Txn) (request : _) (applied : _) → (kind_of w.kind ≡ lock) ⊎ (kind_of w.kind ≡ valid) → Fact w p (Commit t request applied) → InTurn (hist_of p) → InTurn (noted_of (next p (Commit t request applied)) ∷ hist_of p)
  turns_commit t request applied kind f rest u v c d xs ys edge ic id ec ed = go ic id
    where
      by : ActionOf (noted_of (next p (Commit t request applied))) t.0
      by = inr (items_of request.writes, refl)

      old : In d (hist_of p) → Edge (Hist (hist_of p)) u v
      old j = old_edge (Commit t request applied) t f.0 by u v edge.0 (d, j, (ys, ed))

      mine : (m : Noted) (y : ℕ) (zs : List ℕ) → m ≡ noted_of (next p (Commit t request applied)) → m.entry ≡ commit y zs → y ≡ t.0
      mine m y zs q is = (let z : commit t.0 (items_of request.writes) ≡ commit y zs = sym (ap (λ m. m.entry) q) ∙ is in cc z)

      go : In c (noted_of (next p (Commit t request applied)) ∷ hist_of p) → In d (noted_of (next p (Commit t request applied)) ∷ hist_of p) → c.at < d.at
      go (inr i) (inr j) = rest u v c d xs ys (old j, (c, i, (xs, ec)), (d, j, (ys, ed))) i j ec ed
      go (inr i) (inl q) = (let b : c.at < length p + 1 = last (Commit t request applied) c i in let a : d.at ≡ length p + 1 = ap (λ m. m.at) q in omega arith)
      go (inl q) (inr j) = absurd (no_out t request applied kind f v (subst (λ z. Edge (Hist (hist_of p)) z v) (mine c u xs q ec) (old j)))
      go (inl q) (inl r) = absurd (edge.0.conf.3 (mine c u xs q ec ∙ sym (mine d v ys r ed)))

  turns : (e : Real) → (kind_of w.kind ≡ lock) ⊎ (kind_of w.kind ≡ valid) → Fact w p e → InTurn (hist_of p) → InTurn (noted_of (next p e) ∷ hist_of p)
  turns (Read t x s) kind f = turns_calm (Read t x s) refl (old_edge (Read t x s) t f.0 (inl (x.0, refl)))
  turns (Commit t request applied) kind f = turns_commit t request applied kind f
  turns other kind f = turns_calm other refl (λ u v edge done. edge_none (Hist (hist_of p)) (M other) (noted_of (next p other)) (grows (hist_of p) (noted_of (next p other))) (λ u x a. act_none other (length p + 1) u x refl a) u v edge)

-- over the whole history, by its last entry
by_steps : (w : Workload) (S : ℕ → ℕ) (P : List Noted → Type 0) → P [] → ((h : List Real) → Legal w h → Agrees S (noted_in h) → (e : Real) → Fact w (noted_in h) e → P (hist_of (noted_in h)) → P (noted_of (next (noted_in h) e) ∷ hist_of (noted_in h))) →
    (h : List Real) → Legal w h → Agrees S (noted_in h) → P (hist_of (noted_in h))
by_steps w S P start step = by_last (λ h. Legal w h → Agrees S (noted_in h) → P (hist_of (noted_in h))) (λ l a. start) more
  where
    more : (h : List Real) (e : Real) → (Legal w h → Agrees S (noted_in h) → P (hist_of (noted_in h))) → Legal w (h ++ e ∷ []) → Agrees S (noted_in (h ++ e ∷ [])) → P (hist_of (noted_in (h ++ e ∷ [])))
    more h e rest l a =
        let q = (legal_push w h e).0 l in
        let f : Fact w (noted_in h) e = fact w (noted_in h) e q.1 in
        let now : Agrees S (add (noted_in h) e) = subst (Agrees S) (noted_push h e) a in
        let before : Agrees S (noted_in h) = agrees_back S w (noted_in h) e f now in
        subst (λ p. P (hist_of p)) (sym (noted_push h e)) (subst P (sym (hist_push (noted_in h) (next (noted_in h) e))) (step h q.0 before e f (rest q.0 before)))

-- the stamps of a history
abbrev stamps : List RNoted → ℕ → ℕ
stamps p k = stamp_in p (txn k)

-- under timestamps each edge goes to the larger stamp
pub stamps_rise : (w : Workload) (h : List Real) → Legal w h → w.switches ≡ [] → w.kind ≡ Stamp → (t u : Txn) → REdge (noted_in h) t u → stamp_in (noted_in h) t < stamp_in (noted_in h) u
stamps_rise w h l none kind t u edge =
    by_steps w (stamps (noted_in h)) (λ hist. (u v : ℕ) → Edge (Hist hist) u v → stamps (noted_in h) u < stamps (noted_in h) v) (λ u v e. absurd e.in_first) (λ g m a e f. rises w none (stamps (noted_in h)) g m a e (ap kind_of kind) f) h l (λ t b. refl)
    t.0 u.0 (edge_model (Hist (hist_of (noted_in h))) (noted_in h) (rep_hist (noted_in h)) t u edge)

-- the number of the last that passes, where one does
number_none : (test : Real → Bool) (p : List RNoted) (k : ℕ) → list_any (λ n. test n.entry) p ≡ false → fold (λ k n. if test n.entry then n.at else k) k p ≡ k
number_none test [] k q = refl
number_none test (m ∷ ms) k q = number_none test ms (if test m.entry then m.at else k) (or_off (test m.entry) _ q).1 ∙ ap (λ b. if b then m.at else k) (or_off (test m.entry) _ q).0
  where
    or_off : (b c : Bool) → (b || c) ≡ false → (b ≡ false) × (c ≡ false)
    or_off true c q = absurd (true≢false q)
    or_off false c q = (refl, q)

number_has : (test : Real → Bool) (p : List RNoted) (k : ℕ) → list_any (λ n. test n.entry) p ≡ true → (n : RNoted) × Has n p × (test n.entry ≡ true) × (fold (λ k n. if test n.entry then n.at else k) k p ≡ n.at)
number_has test [] k q = absurd (true≢false (sym q))
number_has test (m ∷ ms) k q = elim (cases_true (list_any (λ n. test n.entry) ms)) [
  | inl later ↦ (let r = number_has test ms (if test m.entry then m.at else k) later in (r.0, inr r.1, r.2, r.3))
  | inr none ↦ (let pass : test m.entry ≡ true = grind (arith, common_steps, q, none) in (m, inl refl, pass, number_none test ms (if test m.entry then m.at else k) none ∙ ap (λ b. if b then m.at else k) pass))
]

-- under locking and validation each edge between committed transactions goes to the later Commit
pub commits_in_turn : (w : Workload) (h : List Real) → Legal w h → w.switches ≡ [] → (w.kind ≡ Lock) ⊎ (w.kind ≡ Valid) → (t u : Txn) → CommittedEdge (noted_in h) t u → commit_number (noted_in h) t < commit_number (noted_in h) u
commits_in_turn w h l none kind t u edge =
    let c = number_has (is_commit_of t) (noted_in h) 0 edge.1 in
    let d = number_has (is_commit_of u) (noted_in h) 0 edge.2 in
    let first = commit_from (c.0).entry t.0 c.2 in
    let second = commit_from (d.0).entry u.0 d.2 in
    let less : (c.0).at < (d.0).at = by_steps w (stamps (noted_in h)) (λ hist. (u v : ℕ) (c d : Noted) (xs ys : List ℕ) → CEdge hist u v → In c hist → In d hist → c.entry ≡ commit u xs → d.entry ≡ commit v ys → c.at < d.at) (λ u v c d xs ys e i j ec ed. absurd i) (λ g m a e f. turns w none (stamps (noted_in h)) g m a e kinds f) h l (λ t b. refl)
    t.0 u.0 (noted_of c.0) (noted_of d.0) first.0 second.0 (edge_model (Hist (hist_of (noted_in h))) (noted_in h) (rep_hist (noted_in h)) t u edge.0, com_model (Hist (hist_of (noted_in h))) (noted_in h) (rep_hist (noted_in h)) t.0 edge.1, com_model (Hist (hist_of (noted_in h))) (noted_in h) (rep_hist (noted_in h)) u.0 edge.2) ((rep_hist (noted_in h)).into c.0 c.1) ((rep_hist (noted_in h)).into d.0 d.1) first.1 second.1 in
    let a : commit_number (noted_in h) t ≡ (c.0).at = c.3 in
    let b : commit_number (noted_in h) u ≡ (d.0).at = d.3 in
    omega arith
  where
    kinds : (kind_of w.kind ≡ lock) ⊎ (kind_of w.kind ≡ valid)
    kinds = elim kind [ inl k ↦ inl (ap kind_of k) | inr k ↦ inr (ap kind_of k) ]
