-- The switch that comes next in a placed history is to another kind than the newest one in force, by a method for the workload's structure.
use Rattle.std.proofs.Common.{◌≡◌, ℕ, zero, suc, ◌+◌, Bool, true, false, not, ◌&&◌, nat_le, List, [], ◌∷◌, ◌++◌, length, Option, Some, None, if◌then◌else◌, refl, sym, ap, subst, ◌∙◌, add-one, inl, inr}
use Rattle.std.specs.Prelude.{slice_get, option_and_then, is_some, find}
use Rattle.std.specs.List.{list_all}
use Rattle.std.specs.Option.{option_map_or}
use Rattle.std.proofs.lemmas.Bool.{true≢false, and_parts}
use Rattle.raid_base.specs.declared.names.Txn.{Txn}
use Rattle.raid_base.specs.declared.request.Request.{Request}
use Rattle.raid_base.specs.declared.entry.Cause.{Cause}
use Rattle.raid_base.specs.declared.entry.Act.{Act}
use Rattle.raid_base.specs.declared.entry.Entry.{Entry}
use Rattle.raid_base.specs.declared.entry.Entry.TheVariants.{Abort, Wait, SwitchOn, SwitchEnd}
use Rattle.raid_base.specs.declared.entry.Noted.{Noted}
use Rattle.raid_base.specs.declared.verdict.Kind.{Kind}
use Rattle.raid_base.specs.declared.verdict.Method.{Method}
use Rattle.raid_base.specs.declared.verdict.Method.TheVariants.{Generic, Convert, Suffix}
use Rattle.raid_base.specs.declared.verdict.Structure.{Structure}
use Rattle.raid_base.specs.declared.verdict.Verdict.{Verdict}
use Rattle.raid_base.specs.declared.verdict.Verdict.TheVariants as verdicts
use Rattle.raid_workload.specs.declared.workload.Workload.{Workload}
use Rattle.raid_workload.specs.declared.workload.Switch.{Switch}
use Rattle.raid_workload.specs.Parts.{home}
use Rattle.raid_workload.specs.Rules.{is_kind, is_method_for, is_within, are_switches, are_restarts, are_items, are_events, is_homed}
use Rattle.raid_rules.specs.History.{noted, stamp, ends, is_running, is_waiting}
use Rattle.raid_rules.specs.Verdicts.{writing}
use Rattle.raid_rules.proofs.Places.{by_last}
use Rattle.raid_rules.proofs.Push.{noted_push}
use Rattle.raid_legal.specs.Seen.{running, is_up}
use Rattle.raid_legal.specs.Answers.{answer_commit, answered, decided, closes_waits, site_refusal}
use Rattle.raid_legal.specs.InForce.{InForce, in_force, is_joint, turn, turn_end, end_due, verdict}
use Rattle.raid_legal.specs.Forced.{forced, home_down, switch_off, switch_end, switch_on, woken}
use Rattle.raid_legal.specs.Legal.{Comes}
use Rattle.raid_serial.proofs.Facts.{some_is, none_is, map_some, if_some, first_mapped, sort}
use Rattle.raid_serial.proofs.Force.{in_force_push}
use Rattle.raid_placed.specs.Placed.{Goes, Placeable, Placed}
use Rattle.raid_placed.proofs.Sent.{placed_push, placed_fact}

-- a switch that may be placed is forced
pub placeable_on : (w : Workload) (p : List Noted) (k : ℕ) (to : Kind) (method : Method) → Placeable w p (SwitchOn k to method) → forced w p ≡ Some (SwitchOn k to method)
placeable_on w p k to method g = go (forced w p) refl g
  where
    go : (o : Option Entry) → forced w p ≡ o → Goes w p (SwitchOn k to method) o → forced w p ≡ Some (SwitchOn k to method)
    go None q x = absurd x
    go (Some must) q x = q ∙ ap Some (sym x)

pub placeable_end : (w : Workload) (p : List Noted) (k : ℕ) → Placeable w p (SwitchEnd k) → forced w p ≡ Some (SwitchEnd k)
placeable_end w p k g = go (forced w p) refl g
  where
    go : (o : Option Entry) → forced w p ≡ o → Goes w p (SwitchEnd k) o → forced w p ≡ Some (SwitchEnd k)
    go None q x = absurd x
    go (Some must) q x = q ∙ ap Some (sym x)

-- a SwitchOn is of the next switch
pub record Next (w : Workload) (f : InForce) (k : ℕ) (to : Kind) (method : Method) : Type 0 where
  pub switch : Switch
  pub at : slice_get w.switches f.switches ≡ Some switch
  pub number : k ≡ f.switches + 1
  pub kind : to ≡ switch.kind
  pub by : method ≡ switch.method

abbrev Nexts : Workload → List Noted → Entry → Type 0
Nexts w p (SwitchOn k to method) = Next w (in_force w p) k to method
Nexts w p other = Unit {0}

module _ (w : Workload) (p : List Noted) where
  waits_next : (a b : Bool) (t : Txn) (cause : Cause) (act : Act) (request : Request) (e : Entry) →
      (if a then None else if b then Some (Abort t cause act) else Some (Wait t request)) ≡ Some e → Nexts w p e
  waits_next true b t cause act request e q = absurd (none_is e q)
  waits_next false true t cause act request e q = subst (Nexts w p) (some_is _ _ q) tt
  waits_next false false t cause act request e q = subst (Nexts w p) (some_is _ _ q) tt

  decided_next : (t : Txn) (request : Request) (v : Verdict) (e : Entry) → decided w p t request v ≡ Some e → Nexts w p e
  decided_next t request (verdicts.Reject why) e q = subst (Nexts w p) (some_is _ _ q) tt
  decided_next t request verdicts.Grant e q = subst (Nexts w p) (some_is _ _ q) tt
  decided_next t request verdicts.Wait e q = waits_next (is_waiting p t) (closes_waits w p t request) t _ _ request e q

  answered_next : (t : Txn) (request : Request) (o : Option Cause) (e : Entry) → answered w p t request o ≡ Some e → Nexts w p e
  answered_next t request (Some why) e q = subst (Nexts w p) (some_is _ _ q) tt
  answered_next t request None e q = decided_next t request (verdict w p (writing t (stamp p t) request.writes)) e q

  on_next : (o : Option Switch) (e : Entry) → slice_get w.switches (in_force w p).switches ≡ o → option_and_then
      (λ (s : Switch). if nat_le s.trigger (ends p) && not (is_joint (in_force w p)) then Some (SwitchOn ((in_force w p).switches + 1) s.kind s.method) else None) o ≡ Some e → Nexts w p e
  on_next None e f q = absurd (none_is e q)
  on_next (Some s) e f q = subst (Nexts w p) (if_some (nat_le s.trigger (ends p) && not (is_joint (in_force w p))) _ e q).1 (record { switch = s; at = f; number = refl; kind = refl; by = refl })

  pub next_switch : (k : ℕ) (to : Kind) (method : Method) → forced w p ≡ Some (SwitchOn k to method) → Next w (in_force w p) k to method
  next_switch k to method forced_so = elim (sort w p (home_down w p) (switch_off p (in_force w p)) (switch_end w p (in_force w p)) (switch_on w p (in_force w p)) (woken w p) (SwitchOn k to method) (subst (Comes w p (SwitchOn k to method)) (sym forced_so) refl)) [
    | inl q ↦ (let m = map_some _ (find (λ t. not (is_up w p (home w t))) (running w p)) (SwitchOn k to method) q in subst (Nexts w p) m.2 tt)
    | inr (inl q) ↦ (let m = map_some _ (find (is_running p) (in_force w p).off) (SwitchOn k to method) q in subst (Nexts w p) m.2 tt)
    | inr (inr (n, inl q)) ↦ (let m = if_some (end_due w p) _ (SwitchOn k to method) q in subst (Nexts w p) m.1 tt)
    | inr (inr (n, inr (inl q))) ↦ on_next (slice_get w.switches (in_force w p).switches) (SwitchOn k to method) refl q
    | inr (inr (n, inr (inr (inl q)))) ↦ (let m = first_mapped (λ (r : Txn × Request). answer_commit w p r.0 r.1) (λ r. is_running p r.0) _ (SwitchOn k to method) q in answered_next (m.0).0 (m.0).1 (site_refusal w p (m.0).1) (SwitchOn k to method) m.2)
    | inr (inr (n, inr (inr (inr q)))) ↦ absurd q
  ]

-- the kind that a workload has after so many switches
abbrev after : ℕ → Kind → List Switch → Kind
after zero kind ss = kind
after (suc k) kind [] = kind
after (suc k) kind (s ∷ ss) = after k s.kind ss

after_next : (k : ℕ) (kind : Kind) (ss : List Switch) (s : Switch) → slice_get ss k ≡ Some s → after (suc k) kind ss ≡ s.kind
after_next k kind [] s e = absurd (none_is s e)
after_next zero kind (x ∷ ss) s e = ap (λ (z : Switch). z.kind) (some_is x s e)
after_next (suc k) kind (x ∷ ss) s e = after_next k x.kind ss s e

-- each switch of a workload is to another kind, by a method for its structure
pub record Fit (structure : Structure) (kind : Kind) (s : Switch) : Type 0 where
  pub other : is_kind kind s.kind ≡ false
  pub method : is_method_for structure s.method ≡ true

fit_at : (structure : Structure) (kind : Kind) (least : ℕ) (ss : List Switch) (k : ℕ) (s : Switch) → are_switches structure kind least ss ≡ true → slice_get ss k ≡ Some s → Fit structure (after k kind ss) s
fit_at structure kind least [] k s all e = absurd (none_is s e)
fit_at structure kind least (x ∷ ss) k s all e =
    let a = and_parts (not (is_kind kind x.kind) && is_method_for structure x.method && is_within least 2000 x.trigger) (are_switches structure x.kind x.trigger ss) all in
    let b = and_parts (not (is_kind kind x.kind) && is_method_for structure x.method) (is_within least 2000 x.trigger) a.0 in
    let c = and_parts (not (is_kind kind x.kind)) (is_method_for structure x.method) b.0 in
    go k e (λ j f. fit_at structure x.kind x.trigger ss j s a.1 f) (no (is_kind kind x.kind) c.0) c.1
  where
    no : (b : Bool) → not b ≡ true → b ≡ false
    no false q = refl
    no true q = absurd (true≢false (sym q))

    go : (k : ℕ) → slice_get (x ∷ ss) k ≡ Some s → ((j : ℕ) → slice_get ss j ≡ Some s → Fit structure (after j x.kind ss) s) → is_kind kind x.kind ≡ false → is_method_for structure x.method ≡ true → Fit structure (after k kind (x ∷ ss)) s
    go zero f rest o m = subst (Fit structure kind) (some_is x s f) (record { other = o; method = m })
    go (suc j) f rest o m = rest j f

switches_kept : (a b c d e f g h i j k : Bool) → (a && b && c && d && e && f && g && h && i && j && k) ≡ true → g ≡ true
switches_kept a b c d e f g h i j k all =
    let to-k = and_parts (a && b && c && d && e && f && g && h && i && j) k all in
    let to-j = and_parts (a && b && c && d && e && f && g && h && i) j to-k.0 in
    let to-i = and_parts (a && b && c && d && e && f && g && h) i to-j.0 in
    let to-h = and_parts (a && b && c && d && e && f && g) h to-i.0 in
    (and_parts (a && b && c && d && e && f) g to-h.0).1

fit_of : (w : Workload) (k : ℕ) (s : Switch) → slice_get w.switches k ≡ Some s → Fit w.structure (after k w.kind w.switches) s
fit_of w k s e = fit_at w.structure w.kind 1 w.switches k s
    (switches_kept (are_restarts w.version w.restarts) (is_within 1 8 w.sites) (is_within 1 16 w.together) (nat_le (length w.items) 1024) (are_items w.sites w.items)
    (nat_le (length w.switches) 64) (are_switches w.structure w.kind 1 w.switches) (nat_le (length w.events) 64) (are_events w.sites [] 1 w.events)
    (nat_le (length w.programs) 2000) (list_all (is_homed w.sites (length w.items)) w.programs) w.kept) e

-- the newest kind in force is that after so many switches
abbrev newest : InForce → Kind
newest f = option_map_or (λ c. c.0) f.next f.kind

abbrev Dated : Workload → InForce → Type 0
Dated w f = newest f ≡ after f.switches w.kind w.switches

ended_dated : (w : Workload) (f : InForce) (o : Option (Kind × ℕ)) → f.next ≡ o → Dated w f → Dated w (turn_end f o)
ended_dated w f None q d = d
ended_dated w f (Some c) q d = sym (ap (λ o. option_map_or (λ c. c.0) o f.kind) q) ∙ d

none_next : (o : Option (Kind × ℕ)) → is_some o ≡ false → o ≡ None
none_next None q = refl
none_next (Some c) q = absurd (true≢false q)

on_dated : (w : Workload) (p : List Noted) (f : InForce) (at k : ℕ) (to : Kind) (method : Method) → is_joint f ≡ false → Next w f k to method → Dated w (turn w p f at (SwitchOn k to method))
on_dated w p f at k to Generic alone n = ap (λ o. option_map_or (λ c. c.0) o to) (none_next f.next alone) ∙ n.kind ∙ sym (ap (λ m. after m w.kind w.switches) (add-one f.switches) ∙ after_next f.switches w.kind w.switches n.switch n.at)
on_dated w p f at k to Convert alone n = ap (λ o. option_map_or (λ c. c.0) o to) (none_next f.next alone) ∙ n.kind ∙ sym (ap (λ m. after m w.kind w.switches) (add-one f.switches) ∙ after_next f.switches w.kind w.switches n.switch n.at)
on_dated w p f at k to Suffix alone n = n.kind ∙ sym (ap (λ m. after m w.kind w.switches) (add-one f.switches) ∙ after_next f.switches w.kind w.switches n.switch n.at)

turn_dated : (w : Workload) (p : List Noted) (at : ℕ) (e : Entry) → Placeable w p e → Dated w (in_force w p) → Dated w (turn w p (in_force w p) at e)
turn_dated w p at (SwitchOn k to method) g d = on_dated w p (in_force w p) at k to method (placed_fact w p (SwitchOn k to method) g).1 (next_switch w p k to method (placeable_on w p k to method g))
turn_dated w p at (SwitchEnd k) g d = ended_dated w (in_force w p) (in_force w p).next refl d
turn_dated w p at other g d = d

placed_dated : (w : Workload) (h : List Entry) → Placed w h → Dated w (in_force w (noted h))
placed_dated w = by_last (λ h. Placed w h → Dated w (in_force w (noted h))) (λ l. refl) step
  where
    step : (h : List Entry) (e : Entry) → (Placed w h → Dated w (in_force w (noted h))) → Placed w (h ++ e ∷ []) → Dated w (in_force w (noted (h ++ e ∷ [])))
    step h e rest l =
        let q = (placed_push w h e).0 l in
        subst (λ p. Dated w (in_force w p)) (sym (noted_push h e))
        (subst (Dated w) (sym (in_force_push w (noted h) e)) (turn_dated w (noted h) (length (noted h) + 1) e q.1 (rest q.0)))

-- so a forced SwitchOn is to another kind than that in force, by a method for the structure
pub record Comes_on (w : Workload) (f : InForce) (k : ℕ) (to : Kind) (method : Method) : Type 0 where
  pub number : k ≡ f.switches + 1
  pub other : is_kind f.kind to ≡ false
  pub method_for : is_method_for w.structure method ≡ true

pub comes_on : (w : Workload) (h : List Entry) (k : ℕ) (to : Kind) (method : Method) → Placed w h → Placeable w (noted h) (SwitchOn k to method) → Comes_on w (in_force w (noted h)) k to method
comes_on w h k to method l g =
    let f : InForce = in_force w (noted h) in
    let n : Next w f k to method = next_switch w (noted h) k to method (placeable_on w (noted h) k to method g) in
    let alone : is_joint f ≡ false = (placed_fact w (noted h) (SwitchOn k to method) g).1 in
    let dated : newest f ≡ after f.switches w.kind w.switches = placed_dated w h l in
    let fit : Fit w.structure (after f.switches w.kind w.switches) n.switch = fit_of w f.switches n.switch n.at in
    let same : f.kind ≡ after f.switches w.kind w.switches = sym (ap (λ o. option_map_or (λ c. c.0) o f.kind) (none_next f.next alone)) ∙ dated in
    record {
      number = n.number;
      other = ap (λ a. is_kind a to) same ∙ ap (λ b. is_kind (after f.switches w.kind w.switches) b) n.kind ∙ fit.other;
      method_for = ap (is_method_for w.structure) n.by ∙ fit.method;
    }
