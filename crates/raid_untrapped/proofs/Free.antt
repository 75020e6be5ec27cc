-- Where nobody is to be answered, whoever waits waits, at the end, for one that doesn't.
use Rattle.std.proofs.Common.{◌≡◌, ◌⊎◌, inl, inr, Bool, true, false, not, ◌&&◌, ◌||◌, List, [], ◌∷◌, map, Option, Some, None, sym, ◌∙◌, ap, subst, refl}
use Rattle.std.specs.Prelude.{filter, filter_map, slice_get}
use Rattle.std.specs.List.{list_any, cons_option}
use Rattle.std.proofs.lemmas.Bool.{true≢false, and_parts, and_from, or_left}
use Rattle.raid_base.specs.declared.names.Txn.{Txn}
use Rattle.raid_base.specs.declared.request.Request.{Request}
use Rattle.raid_base.specs.declared.entry.Entry.{Entry}
use Rattle.raid_base.specs.declared.entry.Cause.{Cause}
use Rattle.raid_base.specs.declared.entry.Noted.{Noted}
use Rattle.raid_base.specs.declared.verdict.Verdict.{Verdict}
use Rattle.raid_base.specs.declared.verdict.Verdict.TheVariants as verdicts
use Rattle.raid_base.specs.Names.{is_txn, has_txn}
use Rattle.raid_workload.specs.declared.workload.Workload.{Workload}
use Rattle.raid_rules.specs.History.{noted, stamp, is_running, is_waiting, waiting}
use Rattle.raid_rules.specs.Conflict.{Path, one, leads}
use Rattle.raid_rules.specs.Verdicts.{writing}
use Rattle.raid_rules.proofs.Push.{same_txn}
use Rattle.raid_rules.proofs.Paths.{join}
use Rattle.raid_rules.proofs.Edges.{path_map}
use Rattle.raid_rules.proofs.Reach.{IsPair, leads_path, path_leads}
use Rattle.raid_rules.proofs.Txns.{eq_self, or_right}
use Rattle.raid_legal.specs.Seen.{running}
use Rattle.raid_legal.specs.InForce.{in_force, verdict}
use Rattle.raid_legal.specs.Answers.{blocks, wait_edges, answer_commit, answered, decided, site_refusal}
use Rattle.raid_legal.specs.Forced.{forced, home_down, switch_off, switch_end, switch_on, woken, earliest}
use Rattle.raid_serial.proofs.Facts.{none_is, not_off}
use Rattle.raid_serial.proofs.Translate.{cases_true, not_true}
use Rattle.raid_placed.specs.Placed.{Placed}
use Rattle.raid_placed.proofs.Orderly.{placed_running}
use Rattle.raid_untrapped.specs.Trap.{is_trap, waits_for, waits_on_reads, wait_cut, WaitsFor, EndsFree}
use Rattle.raid_untrapped.proofs.Members.{In, in_any, any_in, all_in, kept_any, joined_any}
use Rattle.raid_untrapped.proofs.Waits.{Rel, by_reads, wait_holds, held_blocks, blocks_rel}
use Rattle.raid_untrapped.proofs.Steps.{NoTrap, placed_trapless, wait_pair}

same_self : (t : Txn) → is_txn t t ≡ true
same_self t = eq_self t.0 t.0 refl

-- a list of transactions that is a trap is empty, where there is none
list_none : (test : Txn → Txn → Bool) (R : Txn → Txn → Type 0) → NoTrap R → ((t u : Txn) → test t u ≡ true → R t u) → (ts : List Txn) → is_trap test ts ≡ true → ts ≡ []
list_none test R none up [] q = refl
list_none test R none up (x ∷ xs) q = absurd (none (has_txn ts) inner x (or_left (is_txn x x) (has_txn xs x) (same_self x)))
  where
    ts : List Txn
    ts = x ∷ xs

    inner : (t : Txn) → has_txn ts t ≡ true → (u : Txn) × (has_txn ts u ≡ true) × R t u
    inner t i =
        let a = any_in (is_txn t) ts i in
        let b = any_in (test a.0) ts (all_in (λ t. list_any (test t) ts) ts a.0 q a.1) in
        (b.0, in_any (is_txn b.0) ts b.0 b.1 (same_self b.0), up t b.0 (subst (λ z. test z b.0 ≡ true) (same_txn a.0 t a.2) b.2))

pub reads_trapless : (w : Workload) (h : List Entry) → Placed w h → (ts : List Txn) → is_trap (waits_on_reads w (noted h)) ts ≡ true → ts ≡ []
reads_trapless w h l = list_none (waits_on_reads w (noted h)) (Rel (wait_cut w (noted h)) (noted h)) (placed_trapless w h l) (by_reads w (noted h))

-- who waits for whom, by its request
asked_for : (w : Workload) (p : List Noted) (t u : Txn) → waits_for w p t u ≡ true → (request : Request) × In (t, request) (waiting p) × (blocks w p u t request.writes ≡ true)
asked_for w p t u q =
    let r = any_in (λ r. is_txn t r.0 && blocks w p u t r.1.writes) (waiting p) q in
    let a = and_parts (is_txn t (r.0).0) (blocks w p u t (r.0).1.writes) r.2 in
    ((r.0).1, subst (λ z. In (z, (r.0).1) (waiting p)) (same_txn (r.0).0 t a.0) r.1, a.1)

for_asked : (w : Workload) (p : List Noted) (t u : Txn) (request : Request) → In (t, request) (waiting p) → blocks w p u t request.writes ≡ true → waits_for w p t u ≡ true
for_asked w p t u request i b = in_any (λ r. is_txn t r.0 && blocks w p u t r.1.writes) (waiting p) (t, request) i (and_from _ _ (same_self t) b)

for_rel : (w : Workload) (h : List Entry) → Placed w h → (t u : Txn) → waits_for w (noted h) t u ≡ true → Rel (wait_cut w (noted h)) (noted h) t u
for_rel w h l t u q = let a = asked_for w (noted h) t u q in blocks_rel w h l t u a.0 a.1 a.2

pub waits_trapless : (w : Workload) (h : List Entry) → Placed w h → (ts : List Txn) → is_trap (waits_for w (noted h)) ts ≡ true → ts ≡ []
waits_trapless w h l = list_none (waits_for w (noted h)) (Rel (wait_cut w (noted h)) (noted h)) (placed_trapless w h l) (for_rel w h l)

-- where nothing is forced, each waiting request has to wait
fifth_none : (a b c d g : Option Entry) → earliest (a ∷ b ∷ c ∷ d ∷ g ∷ []) ≡ None → g ≡ None
fifth_none None None None None None q = refl
fifth_none None None None None (Some e) q = absurd (cc q)
fifth_none None None None (Some e) g q = absurd (cc q)
fifth_none None None (Some e) d g q = absurd (cc q)
fifth_none None (Some e) c d g q = absurd (cc q)
fifth_none (Some e) b c d g q = absurd (cc q)

mapped_step : {X Y : Type 0} (f : X → Option Y) (y x : X) (ys : List X) (o : Option Y) → f y ≡ o → (slice_get (filter_map f ys) 0 ≡ None → In x ys → f x ≡ None) → slice_get (cons_option o (filter_map f ys)) 0 ≡ None → (x ≡ y) ⊎ In x ys → f x ≡ None
mapped_step f y x ys (Some v) e rest q i = absurd (none_is v (sym q))
mapped_step f y x ys None e rest q (inl s) = ap f s ∙ e
mapped_step f y x ys None e rest q (inr j) = rest q j

none_mapped : {X Y : Type 0} (f : X → Option Y) (xs : List X) (x : X) → slice_get (filter_map f xs) 0 ≡ None → In x xs → f x ≡ None
none_mapped f [] x q i = absurd i
none_mapped f (y ∷ ys) x q i = mapped_step f y x ys (f y) refl (none_mapped f ys x) q i

module _ (w : Workload) (p : List Noted) (t : Txn) (request : Request) where
  decided_none : (v : Verdict) → decided w p t request v ≡ None → v ≡ verdicts.Wait
  decided_none (verdicts.Reject why) q = absurd (none_is _ (sym q))
  decided_none verdicts.Grant q = absurd (none_is _ (sym q))
  decided_none verdicts.Wait q = refl

  answered_none : (o : Option Cause) → answered w p t request o ≡ None → verdict w p (writing t (stamp p t) request.writes) ≡ verdicts.Wait
  answered_none (Some why) q = absurd (none_is _ (sym q))
  answered_none None q = decided_none (verdict w p (writing t (stamp p t) request.writes)) q

  -- so somebody keeps it waiting
  pub is_blocked : forced w p ≡ None → In (t, request) (waiting p) → (u : Txn) × (blocks w p u t request.writes ≡ true)
  is_blocked q i =
      let none : woken w p ≡ None = fifth_none (home_down w p) (switch_off p (in_force w p)) (switch_end w p (in_force w p)) (switch_on w p (in_force w p)) (woken w p) q in
      let mine : answer_commit w p t request ≡ None = none_mapped (λ (r : Txn × Request). answer_commit w p r.0 r.1) (waiting p) (t, request) none i in
      held_blocks w p t request.writes (wait_holds w p t (stamp p t) request.writes (answered_none (site_refusal w p request) mine))

-- a computed edge is one of waiting
pair_for : (w : Workload) (p : List Noted) (t u : Txn) → IsPair (wait_edges w p (waiting p)) t u → waits_for w p t u ≡ true
pair_for w p t u q =
    let a = joined_any (λ (r : Txn × Request). map (λ (q : Txn × Request). (r.0, q.0)) (filter (λ (q : Txn × Request). blocks w p q.0 r.0 r.1.writes) (waiting p))) (λ (e : Txn × Txn). is_txn t e.0 && is_txn u e.1) (waiting p) q in
    let b = kept_any (λ (q : Txn × Request). blocks w p q.0 (a.0).0 (a.0).1.writes) (λ (q : Txn × Request). ((a.0).0, q.0)) (λ (e : Txn × Txn). is_txn t e.0 && is_txn u e.1) (waiting p) a.2 in
    let c = and_parts (is_txn t (a.0).0) (is_txn u (b.0).0) b.3 in
    let s : (a.0).0 ≡ t = same_txn (a.0).0 t c.0 in
    let r : (b.0).0 ≡ u = same_txn (b.0).0 u c.1 in
    for_asked w p t u (a.0).1 (subst (λ z. In (z, (a.0).1) (waiting p)) s a.1)
    (subst (λ z. blocks w p z t (a.0).1.writes ≡ true) r (subst (λ z. blocks w p (b.0).0 z (a.0).1.writes ≡ true) s b.2))

module _ (w : Workload) (h : List Entry) (l : Placed w h) (quiet : forced w (noted h) ≡ None) where
  abbrev p : List Noted
  p = noted h

  abbrev pairs : List (Txn × Txn)
  pairs = wait_edges w p (waiting p)

  waiter : (t : Txn) → is_waiting p t ≡ true → (request : Request) × In (t, request) (waiting p)
  waiter t q = let r = any_in (λ r. is_txn t r.0) (waiting p) q in ((r.0).1, subst (λ z. In (z, (r.0).1) (waiting p)) (same_txn (r.0).0 t r.2) r.1)

  -- an edge between two that wait
  joins : (v u : Txn) → waits_for w p v u ≡ true → is_waiting p u ≡ true → IsPair pairs v u
  joins v u q i = let a = asked_for w p v u q in let b = waiter u i in wait_pair w p (waiting p) v u a.0 b.0 a.1 b.1 a.2

  module _ (t : Txn) (here : is_waiting p t ≡ true) where
    -- those that t reaches among the waiting ones, with it
    abbrev near : Txn → Bool
    near v = is_waiting p v && (is_txn t v || leads pairs t v)

    near_path : (v u : Txn) → near v ≡ true → waits_for w p v u ≡ true → Path (WaitsFor w p) t u
    near_path v u n q = go (cases_true (is_txn t v)) (and_parts (is_waiting p v) (is_txn t v || leads pairs t v) n).1
      where
        go : (is_txn t v ≡ true) ⊎ (is_txn t v ≡ false) → (is_txn t v || leads pairs t v) ≡ true → Path (WaitsFor w p) t u
        go (inl s) e = one (subst (λ z. waits_for w p z u ≡ true) (same_txn v t s) q)
        go (inr s) e = join (WaitsFor w p) (path_map (pair_for w p) (leads_path pairs t v (sym (ap (λ b. b || leads pairs t v) s) ∙ e))) (one q)

    near_next : (v u : Txn) → near v ≡ true → waits_for w p v u ≡ true → is_waiting p u ≡ true → near u ≡ true
    near_next v u n q i = and_from (is_waiting p u) (is_txn t u || leads pairs t u) i (or_right (is_txn t u) (leads pairs t u) (go (cases_true (is_txn t v)) (and_parts (is_waiting p v) (is_txn t v || leads pairs t v) n).1))
      where
        go : (is_txn t v ≡ true) ⊎ (is_txn t v ≡ false) → (is_txn t v || leads pairs t v) ≡ true → leads pairs t u ≡ true
        go (inl s) e = path_leads pairs t u (one (subst (λ z. IsPair pairs z u) (same_txn v t s) (joins v u q i)))
        go (inr s) e = path_leads pairs t u (join (IsPair pairs) (leads_path pairs t v (sym (ap (λ b. b || leads pairs t v) s) ∙ e)) (one (joins v u q i)))

    -- one of them that waits for none that waits
    abbrev is_last : Txn × Request → Bool
    is_last r = near r.0 && not (list_any (λ q. waits_for w p r.0 q.0) (waiting p))

    found : list_any is_last (waiting p) ≡ true → EndsFree w p t
    found q =
        let r = any_in is_last (waiting p) q in
        let a = and_parts (near (r.0).0) (not (list_any (λ q. waits_for w p (r.0).0 q.0) (waiting p))) r.2 in
        let b = is_blocked w p (r.0).0 (r.0).1 quiet r.1 in
        let c : waits_for w p (r.0).0 b.0 ≡ true = for_asked w p (r.0).0 b.0 (r.0).1 r.1 b.1 in
        record {
          last = b.0;
          reached = near_path (r.0).0 b.0 a.0 c;
          runs = (for_rel w h l (r.0).0 b.0 c).runs;
          free = not_true (is_waiting p b.0) (λ i. (let s = any_in (λ s. is_txn b.0 s.0) (waiting p) i in
              true≢false (sym (in_any (λ q. waits_for w p (r.0).0 q.0) (waiting p) s.0 s.1 (subst (λ z. waits_for w p (r.0).0 z ≡ true) (sym (same_txn (s.0).0 b.0 s.2)) c)) ∙ not_off _ a.1)));
        }

    absent : list_any is_last (waiting p) ≡ false → ⊥
    absent q = placed_trapless w h l near inner t (and_from (is_waiting p t) (is_txn t t || leads pairs t t) here (or_left (is_txn t t) (leads pairs t t) (same_self t)))
      where
        inner : (v : Txn) → near v ≡ true → (u : Txn) × (near u ≡ true) × Rel (wait_cut w p) p v u
        inner v n =
            let r = waiter v (and_parts (is_waiting p v) (is_txn t v || leads pairs t v) n).0 in
            let some : list_any (λ q. waits_for w p v q.0) (waiting p) ≡ true = elim (cases_true (list_any (λ q. waits_for w p v q.0) (waiting p))) [
              | inl e ↦ e
              | inr e ↦ absurd (true≢false (sym (in_any is_last (waiting p) (v, r.0) r.1 (and_from (near v) (not (list_any (λ q. waits_for w p v q.0) (waiting p))) n (ap not e))) ∙ q))
            ] in
            let s = any_in (λ q. waits_for w p v q.0) (waiting p) some in
            let u : Txn = (s.0).0 in
            let i : is_waiting p u ≡ true = in_any (λ r. is_txn u r.0) (waiting p) s.0 s.1 (same_self u) in
            (u, near_next v u n s.2 i, for_rel w h l v u s.2)

    ends_free : EndsFree w p t
    ends_free = elim (cases_true (list_any is_last (waiting p))) [ inl q ↦ found q | inr q ↦ absurd (absent q) ]

pub placed_ends_free : (w : Workload) (h : List Entry) → Placed w h → forced w (noted h) ≡ None → (t : Txn) → is_waiting (noted h) t ≡ true → EndsFree w (noted h) t
placed_ends_free w h l q t i = ends_free w h l q t i

-- where each that runs waits, none runs
pub all_wait_none : (w : Workload) (h : List Entry) → Placed w h → forced w (noted h) ≡ None → ((t : Txn) → is_running (noted h) t ≡ true → is_waiting (noted h) t ≡ true) → running w (noted h) ≡ []
all_wait_none w h l q every = empty (running w (noted h)) (λ t i. nobody t (sym (placed_running w h l t) ∙ i))
  where
    nobody : (t : Txn) → is_running (noted h) t ≡ true → ⊥
    nobody t run = let e = ends_free w h l q t (every t run) in true≢false (sym (every e.last e.runs) ∙ e.free)

    empty : (ts : List Txn) → ((t : Txn) → has_txn ts t ≡ true → ⊥) → ts ≡ []
    empty [] no_one = refl
    empty (x ∷ xs) no_one = absurd (no_one x (or_left (is_txn x x) (has_txn xs x) (same_self x)))
