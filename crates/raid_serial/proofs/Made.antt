-- A committed request is what the program makes of what its transaction has seen.
use Rattle.std.proofs.Common.{◌≡◌, inl, inr, Bool, true, false, not, ◌&&◌, cond, if◌then◌else◌, List, [], ◌∷◌, ◌++◌, sym, ◌∙◌, ap, subst, refl, Option, Some, None, arith}
use Rattle.std.specs.Prelude.{filter_map, slice_get, find, option_and_then, nat_le, ◌+◌}
use Rattle.std.specs.List.{list_any, filter, cons_option}
use Rattle.std.proofs.lemmas.Bool.{true≢false, and_parts, and_from, or_left}
use Rattle.std.proofs.lemmas.Grind.{common_steps}
use Rattle.std.proofs.lemmas.List.Folds.{list_any-append}
use Rattle.raid_base.specs.declared.names.Txn.{Txn}
use Rattle.raid_base.specs.declared.names.Item.{Item}
use Rattle.raid_base.specs.declared.names.Site.{Site}
use Rattle.raid_base.specs.declared.request.Request.{Request}
use Rattle.raid_base.specs.declared.entry.Entry.{Entry as Real}
use Rattle.raid_base.specs.declared.entry.Entry.TheVariants.{Begin, Read, Wait, Commit, Abort, Ack, SwitchOn, SwitchEnd, Down, Up, Clear}
use Rattle.raid_base.specs.declared.entry.Act.{Act}
use Rattle.raid_base.specs.declared.entry.Cause.{Cause}
use Rattle.raid_base.specs.declared.entry.Noted.{Noted as RNoted}
use Rattle.raid_base.specs.declared.verdict.Verdict.{Verdict}
use Rattle.raid_base.specs.declared.verdict.Verdict.TheVariants as verdicts
use Rattle.raid_base.specs.Names.{is_txn, is_item}
use Rattle.raid_workload.specs.declared.workload.Workload.{Workload}
use Rattle.raid_workload.specs.declared.workload.Switch.{Switch}
use Rattle.raid_workload.specs.Parts.{home, program}
use Rattle.raid_program.specs.declared.program.Outcome.{Outcome}
use Rattle.raid_program.specs.Run.{Answers, outcome_of}
use Rattle.raid_rules.specs.Entries.{wait_of, is_end_of, reads_item}
use Rattle.raid_rules.specs.History.{noted as noted_in, add, next, stamp, is_running, is_waiting, has_begun, has_ended, ends}
use Rattle.raid_rules.specs.Verdicts.{writing}
use Rattle.raid_rules.proofs.Push.{fold_seeing_push, has_begun_push, noted_push, same_txn}
use Rattle.raid_legal.specs.Seen.{seen, value_of, outcome, running, is_up}
use Rattle.raid_legal.specs.InForce.{in_force, verdict, is_joint, end_due}
use Rattle.raid_legal.specs.Answers.{answer_commit, answered, decided, closes_waits, site_refusal}
use Rattle.raid_legal.specs.Forced.{home_down, switch_off, switch_end, switch_on, woken}
use Rattle.raid_legal.specs.Legal.{Legal, Free, Allowed, Makes, is_free}
use Rattle.raid_legal.proofs.Push.{legal_push}
use Rattle.raid_serial.proofs.Translate.{Has, not_true}
use Rattle.raid_serial.proofs.Grants.{has_split}
use Rattle.raid_rules.proofs.Places.{by_last}
use Rattle.raid_serial.proofs.Facts.{sort, not_off, some_is, none_is, map_some, if_some}

-- what an allowed entry says of programs
abbrev pub Made : Workload → List RNoted → Real → Type 0
Made w p (Begin t site) = Unit {0}
Made w p (Read t x site) = is_waiting p t ≡ false
Made w p (Wait t request) = (is_running p t ≡ true) × Makes w p t request
Made w p (Commit t request applied) = Makes w p t request
Made w p (Abort t cause act) = Unit {0}
Made w p (Ack t site) = Unit {0}
Made w p (SwitchOn k kind method) = Unit {0}
Made w p (SwitchEnd k) = Unit {0}
Made w p (Down site) = Unit {0}
Made w p (Up site session) = Unit {0}
Made w p (Clear site x version) = Unit {0}

-- each waiting request is what the program makes
pub record Waits (w : Workload) (p : List RNoted) : Type 0 where
  pub begun : (n : RNoted) (r : Txn × Request) → Has n p → wait_of n.entry ≡ Some r → has_begun p r.0 ≡ true
  pub made : (n : RNoted) (r : Txn × Request) → Has n p → wait_of n.entry ≡ Some r → has_ended p r.0 ≡ false → Makes w p r.0 r.1

-- where the first mapped one of the waiting ones stands
abbrev Source : (Txn × Request → Option Real) → (Txn × Request → Bool) → Real → List RNoted → Type 0
Source h g y p = (n : RNoted) × (r : Txn × Request) × Has n p × (wait_of n.entry ≡ Some r) × (g r ≡ true) × (h r ≡ Some y)

later : (h : Txn × Request → Option Real) (g : Txn × Request → Bool) (y : Real) (m : RNoted) (ms : List RNoted) → Source h g y ms → Source h g y (m ∷ ms)
later h g y m ms s = (s.0, s.1, inr s.2, s.3, s.4, s.5)

source_step : (h : Txn × Request → Option Real) (g : Txn × Request → Bool) (y : Real) (m : RNoted) (ms : List RNoted) (o : Option (Txn × Request)) (xs : List (Txn × Request)) → wait_of m.entry ≡ o →
    (slice_get (filter_map h (filter g xs)) 0 ≡ Some y → Source h g y ms) → slice_get (filter_map h (filter g (cons_option o xs))) 0 ≡ Some y → Source h g y (m ∷ ms)
source_step h g y m ms None xs e k q = later h g y m ms (k q)
source_step h g y m ms (Some r) xs e k q = go (g r) (h r) refl refl q
  where
    go : (b : Bool) (o : Option Real) → g r ≡ b → h r ≡ o → slice_get (filter_map h (cond b (r ∷ filter g xs) (filter g xs))) 0 ≡ Some y → Source h g y (m ∷ ms)
    go false o d f q = later h g y m ms (k q)
    go true None d f q = later h g y m ms (k (sym (ap (λ o. slice_get (cons_option o (filter_map h (filter g xs))) 0) f) ∙ q))
    go true (Some v) d f q = (m, r, inl refl, e, d, f ∙ (sym (ap (λ o. slice_get (cons_option o (filter_map h (filter g xs))) 0) f) ∙ q))

source : (h : Txn × Request → Option Real) (g : Txn × Request → Bool) (y : Real) (p : List RNoted) → slice_get (filter_map h (filter g (filter_map (λ n. wait_of n.entry) p))) 0 ≡ Some y → Source h g y p
source h g y [] e = absurd (none_is y e)
source h g y (m ∷ ms) e = source_step h g y m ms (wait_of m.entry) (filter_map (λ n. wait_of n.entry) ms) refl (source h g y ms) e

-- a Wait of a running transaction makes it wait
wait_any : (g : Txn × Request → Bool) (f : Txn × Request → Bool) (p : List RNoted) (n : RNoted) (r : Txn × Request) → Has n p → wait_of n.entry ≡ Some r → g r ≡ true → f r ≡ true → list_any f (filter g (filter_map (λ n. wait_of n.entry) p)) ≡ true
wait_any g f [] n r i e a b = absurd i
wait_any g f (m ∷ ms) n r (inl q) e a b = here (wait_of m.entry) (ap (λ z. wait_of z.entry) (sym q) ∙ e)
  where
    kept : (c : Bool) (r : Txn × Request) → g r ≡ c → g r ≡ true → f r ≡ true → list_any f (cond c (r ∷ filter g (filter_map (λ n. wait_of n.entry) ms)) (filter g (filter_map (λ n. wait_of n.entry) ms))) ≡ true
    kept true r e a b = or_left _ _ b
    kept false r e a b = absurd (true≢false (sym a ∙ e))

    here : (o : Option (Txn × Request)) → o ≡ Some r → list_any f (filter g (cons_option o (filter_map (λ n. wait_of n.entry) ms))) ≡ true
    here None e = absurd (none_is r e)
    here (Some s) e = let q : s ≡ r = some_is s r e in kept (g s) s refl (subst (λ z. g z ≡ true) (sym q) a) (subst (λ z. f z ≡ true) (sym q) b)
wait_any g f (m ∷ ms) n r (inr i) e a b = past (wait_of m.entry) (wait_any g f ms n r i e a b)
  where
    kept : (c : Bool) (s : Txn × Request) → list_any f (filter g (filter_map (λ n. wait_of n.entry) ms)) ≡ true → list_any f (cond c (s ∷ filter g (filter_map (λ n. wait_of n.entry) ms)) (filter g (filter_map (λ n. wait_of n.entry) ms))) ≡ true
    kept true s h = grind (arith, common_steps, h)
    kept false s h = h

    past : (o : Option (Txn × Request)) → list_any f (filter g (filter_map (λ n. wait_of n.entry) ms)) ≡ true → list_any f (filter g (cons_option o (filter_map (λ n. wait_of n.entry) ms))) ≡ true
    past None h = h
    past (Some s) h = kept (g s) s h

module _ (w : Workload) (p : List RNoted) where
  waits_made : (a b : Bool) (t : Txn) (cause : Cause) (act : Act) (request : Request) (e : Real) → is_running p t ≡ true → Makes w p t request →
      (if a then None else if b then Some (Abort t cause act) else Some (Wait t request)) ≡ Some e → Made w p e
  waits_made true b t cause act request e run m q = absurd (none_is e q)
  waits_made false true t cause act request e run m q = subst (Made w p) (some_is _ _ q) tt
  waits_made false false t cause act request e run m q = subst (Made w p) (some_is _ _ q) (run, m)

  decided_made : (t : Txn) (request : Request) (v : Verdict) (e : Real) → is_running p t ≡ true → Makes w p t request → decided w p t request v ≡ Some e → Made w p e
  decided_made t request (verdicts.Reject why) e run m q = subst (Made w p) (some_is _ _ q) tt
  decided_made t request verdicts.Grant e run m q = subst (Made w p) (some_is _ _ q) m
  decided_made t request verdicts.Wait e run m q = waits_made (is_waiting p t) (closes_waits w p t request) t _ _ request e run m q

  answered_made : (t : Txn) (request : Request) (o : Option Cause) (e : Real) → is_running p t ≡ true → Makes w p t request → answered w p t request o ≡ Some e → Made w p e
  answered_made t request (Some why) e run m q = subst (Made w p) (some_is _ _ q) tt
  answered_made t request None e run m q = decided_made t request (verdict w p (writing t (stamp p t) request.writes)) e run m q

  answer_made : (t : Txn) (request : Request) (e : Real) → is_running p t ≡ true → Makes w p t request → answer_commit w p t request ≡ Some e → Made w p e
  answer_made t request e run m q = answered_made t request (site_refusal w p request) e run m q

  free_parts : (t : Txn) → is_free p t ≡ true → (is_running p t ≡ true) × (is_waiting p t ≡ false)
  free_parts t f = let q = and_parts (is_running p t) (not (is_waiting p t)) f in (q.0, not_off (is_waiting p t) q.1)

  free_made : (e : Real) → Free w p e → Made w p e
  free_made (Begin t s) f = tt
  free_made (Read t x s) f = (free_parts t f.0).1
  free_made (Wait t request) f = answer_made t request (Wait t request) (free_parts t f.0).0 f.2 f.1
  free_made (Commit t request applied) f = answer_made t request (Commit t request applied) (free_parts t f.0).0 f.2 f.1
  free_made (Abort t cause act) f = tt
  free_made (Ack t s) f = tt
  free_made (SwitchOn k kind method) f = tt
  free_made (SwitchEnd k) f = tt
  free_made (Down s) f = tt
  free_made (Up s session) f = tt
  free_made (Clear s x v) f = tt

  woken_made : Waits w p → (e : Real) → woken w p ≡ Some e → Made w p e
  woken_made ws e q =
      let s = source (λ (r : Txn × Request). answer_commit w p r.0 r.1) (λ r. is_running p r.0) e p q in
      let r : Txn × Request = s.1 in
      let run : is_running p r.0 ≡ true = s.4 in
      answer_made r.0 r.1 e run (ws.made s.0 r s.2 s.3 (not_off (has_ended p r.0) (and_parts (has_begun p r.0) (not (has_ended p r.0)) run).1)) s.5

-- what a transaction has seen changes only by its Reads
seen_push : (w : Workload) (p : List RNoted) (e : Real) (t : Txn) (x : Item) → reads_item t x e ≡ false → seen w (add p e) t x ≡ seen w p t x
seen_push w p e t x f =
    fold_seeing_push (λ before v n. if reads_item t x n.entry then Some (value_of w before x) else v) None p (next p e)
    ∙ ap (λ b. if b then Some (value_of w p x) else seen w p t x) f

outcome_push : (w : Workload) (p : List RNoted) (e : Real) (t : Txn) → ((x : Item) → reads_item t x e ≡ false) → outcome w (add p e) t ≡ outcome w p t
outcome_push w p e t h =
    let q : seen w (add p e) t ≡ seen w p t = λ i x. seen_push w p e t x (h x) i in
    ap (λ (s : Answers). outcome_of (program w t) s) q

makes_push : (w : Workload) (p : List RNoted) (e : Real) (t : Txn) (request : Request) → ((x : Item) → reads_item t x e ≡ false) → Makes w p t request → Makes w (add p e) t request
makes_push w p e t request h m =
    let q = outcome_push w p e t h in
    record { done = ap (λ (o : Outcome). o.end) q ∙ m.done; reads = ap (λ (o : Outcome). o.reads) q ∙ m.reads; writes = ap (λ (o : Outcome). o.writes) q ∙ m.writes; sites = m.sites }

no_read : (w : Workload) (p : List RNoted) (e : Real) (t : Txn) → Made w p e → is_waiting p t ≡ true → (x : Item) → reads_item t x e ≡ false
no_read w p (Read u y site) t m wait x = not_true (is_txn t u && is_item x y) (λ b. true≢false (sym wait ∙ ap (is_waiting p) (sym (same_txn u t (and_parts (is_txn t u) (is_item x y) b).0)) ∙ m))
no_read w p other t m wait x = refl

wait_reads : (e : Real) (r : Txn × Request) (t : Txn) (x : Item) → wait_of e ≡ Some r → reads_item t x e ≡ false
wait_reads (Wait u request) r t x q = refl
wait_reads (Read u y site) r t x q = absurd (none_is r q)
wait_reads other r t x q = refl

new_wait : (w : Workload) (p : List RNoted) (e : Real) (r : Txn × Request) → Made w p e → wait_of e ≡ Some r → (is_running p r.0 ≡ true) × Makes w p r.0 r.1
new_wait w p (Wait u request) r m q = subst (λ (z : Txn × Request). (is_running p z.0 ≡ true) × Makes w p z.0 z.1) (some_is _ r q) m
new_wait w p other r m q = absurd (none_is r q)

pub waits_add : (w : Workload) (p : List RNoted) (e : Real) → Waits w p → Made w p e → Waits w (add p e)
waits_add w p e ws m = record { begun = begun; made = made }
  where
    begun : (n : RNoted) (r : Txn × Request) → Has n (add p e) → wait_of n.entry ≡ Some r → has_begun (add p e) r.0 ≡ true
    begun n r i q = elim (has_split p n (next p e) i) [
      | inl j ↦ has_begun_push p (next p e) r.0 ∙ or_left _ _ (ws.begun n r j q)
      | inr s ↦ has_begun_push p (next p e) r.0 ∙ or_left _ _ (and_parts (has_begun p r.0) (not (has_ended p r.0)) (new_wait w p e r m (sym (ap (λ z. wait_of z.entry) s) ∙ q)).0).0
    ]

    going : (t : Txn) → has_ended (add p e) t ≡ false → has_ended p t ≡ false
    going t h = grind (arith, common_steps, h, list_any-append (λ n. is_end_of t n.entry) p (next p e ∷ []))

    waiting_is : (n : RNoted) (r : Txn × Request) → Has n p → wait_of n.entry ≡ Some r → has_ended p r.0 ≡ false → is_waiting p r.0 ≡ true
    waiting_is n r j q g = wait_any (λ r. is_running p r.0) (λ z. is_txn r.0 z.0) p n r j q (and_from _ _ (ws.begun n r j q) (ap not g)) (grind (arith, common_steps))

    made : (n : RNoted) (r : Txn × Request) → Has n (add p e) → wait_of n.entry ≡ Some r → has_ended (add p e) r.0 ≡ false → Makes w (add p e) r.0 r.1
    made n r i q g = elim (has_split p n (next p e) i) [
      | inl j ↦ makes_push w p e r.0 r.1 (no_read w p e r.0 m (waiting_is n r j q (going r.0 g))) (ws.made n r j q (going r.0 g))
      | inr s ↦ makes_push w p e r.0 r.1 (λ x. wait_reads e r r.0 x (sym (ap (λ z. wait_of z.entry) s) ∙ q)) (new_wait w p e r m (sym (ap (λ z. wait_of z.entry) s) ∙ q)).1
    ]

on_made : (w : Workload) (p : List RNoted) (o : Option Switch) (e : Real) → option_and_then
    (λ (s : Switch). if nat_le s.trigger (ends p) && not (is_joint (in_force w p)) then Some (SwitchOn ((in_force w p).switches + 1) s.kind s.method) else None) o ≡ Some e → Made w p e
on_made w p None e q = absurd (none_is e q)
on_made w p (Some s) e q = subst (Made w p) (if_some (nat_le s.trigger (ends p) && not (is_joint (in_force w p))) _ e q).1 tt

pub allowed_made : (w : Workload) (p : List RNoted) (e : Real) → Waits w p → Allowed w p e → Made w p e
allowed_made w p e ws h = elim (sort w p (home_down w p) (switch_off p (in_force w p)) (switch_end w p (in_force w p)) (switch_on w p (in_force w p)) (woken w p) e h) [
  | inl q ↦ subst (Made w p) (map_some _ (find (λ t. not (is_up w p (home w t))) (running w p)) e q).2 tt
  | inr (inl q) ↦ subst (Made w p) (map_some _ (find (is_running p) (in_force w p).off) e q).2 tt
  | inr (inr (n, inl q)) ↦ subst (Made w p) (if_some (end_due w p) _ e q).1 tt
  | inr (inr (n, inr (inl q))) ↦ on_made w p (slice_get w.switches (in_force w p).switches) e q
  | inr (inr (n, inr (inr (inl q)))) ↦ woken_made w p ws e q
  | inr (inr (n, inr (inr (inr q)))) ↦ free_made w p e q
]

pub legal_waits : (w : Workload) (h : List Real) → Legal w h → Waits w (noted_in h)
legal_waits w = by_last (λ h. Legal w h → Waits w (noted_in h)) (λ l. record { begun = λ n r i q. absurd i; made = λ n r i q. absurd i }) more
  where
    more : (h : List Real) (e : Real) → (Legal w h → Waits w (noted_in h)) → Legal w (h ++ e ∷ []) → Waits w (noted_in (h ++ e ∷ []))
    more h e rest l =
        let q = (legal_push w h e).0 l in
        let ws : Waits w (noted_in h) = rest q.0 in
        subst (Waits w) (sym (noted_push h e)) (waits_add w (noted_in h) e ws (allowed_made w (noted_in h) e ws q.1))

-- so each Commit is made
pub commits_are_made : (w : Workload) (h : List Real) (t : Txn) (request : Request) (applied : List Site) → Legal w (h ++ Commit t request applied ∷ []) → Makes w (noted_in h) t request
commits_are_made w h t request applied l = let q = (legal_push w h (Commit t request applied)).0 l in allowed_made w (noted_in h) (Commit t request applied) (legal_waits w h q.0) q.1
