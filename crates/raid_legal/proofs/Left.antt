-- How many entries can still be forced one after the other: each forced entry leaves fewer.
use Rattle.std.proofs.Common.{◌≡◌, ℕ, ◌+◌, ◌-◌, ◌*◌, ◌<◌, ◌≤◌, nat_le, Bool, true, false, not, ◌&&◌, ◌||◌, List, [], ◌∷◌, ◌++◌, length, Option, Some, None, if◌then◌else◌, arith, sym, subst, ap, ◌∙◌, refl, append-nil, append_assoc}
use Rattle.std.specs.Prelude.{filter, filter_map, find, slice_get, option_map, option_and_then, is_some}
use Rattle.std.specs.List.{list_any, cons_option}
use Rattle.std.specs.Option.{option_map_or}
use Rattle.std.proofs.lemmas.Option.{slice_get_within}
use Rattle.std.proofs.lemmas.Bool.{true≢false, or_left, or_right}
use Rattle.std.proofs.lemmas.Grind.{common_steps}
use Rattle.raid_base.specs.declared.names.Txn.{Txn}
use Rattle.raid_base.specs.declared.request.Request.{Request}
use Rattle.raid_base.specs.declared.entry.Cause.{Cause}
use Rattle.raid_base.specs.declared.entry.Entry.{Entry}
use Rattle.raid_base.specs.declared.entry.Entry.TheVariants.{Begin, Commit, Abort, SwitchOn, SwitchEnd, Wait}
use Rattle.raid_base.specs.declared.entry.Noted.{Noted}
use Rattle.raid_base.specs.declared.verdict.Kind.{Kind}
use Rattle.raid_base.specs.declared.verdict.Method.{Method}
use Rattle.raid_base.specs.declared.verdict.Verdict.{Verdict}
use Rattle.raid_base.specs.declared.verdict.Verdict.TheVariants as verdicts
use Rattle.raid_base.specs.declared.entry.Cause.TheVariants as causes
use Rattle.raid_base.specs.declared.entry.Act.TheVariants as acts
use Rattle.raid_rules.specs.Verdicts.{writing}
use Rattle.raid_base.specs.Names.{has_txn, is_txn}
use Rattle.raid_workload.specs.declared.workload.Workload.{Workload}
use Rattle.raid_workload.specs.declared.workload.Switch.{Switch}
use Rattle.raid_workload.specs.Parts.{txns, home}
use Rattle.raid_rules.specs.Entries.{is_begin_of, is_end_of, wait_of}
use Rattle.raid_rules.specs.History.{noted, add, next, fold_seeing, is_running, has_begun, has_ended, stamp, ends, waiting, is_waiting}
use Rattle.raid_rules.proofs.Push.{fold_seeing_push, has_begun_push, same_txn}
use Rattle.raid_legal.specs.Seen.{running, is_up, next_of, again}
use Rattle.raid_base.specs.declared.verdict.Method.TheVariants.{Generic, Convert, Suffix}
use Rattle.raid_legal.specs.Answers.{answer_commit, answered, decided, closes_waits, site_refusal}
use Rattle.raid_legal.specs.InForce.{InForce, in_force, is_joint, is_over, end_due, verdict, turn, turn_on, turn_end, opening}
use Rattle.raid_legal.specs.Legal.{Legal, Allowed, Comes, EachSeeing}
use Rattle.raid_legal.specs.Forced.{forced, home_down, switch_off, switch_end, switch_on, woken, earliest}

-- what a forced entry is: it ends a running transaction, or it is the next switch's, or the end of the switch that is on
abbrev pub Compels : Workload → List Noted → Entry → Type 0
Compels w p (Abort t cause act) = is_running p t ≡ true
Compels w p (Commit t request applied) = is_running p t ≡ true
Compels w p (SwitchOn k kind method) = ((in_force w p).switches < length w.switches) × (is_joint (in_force w p) ≡ false)
Compels w p (SwitchEnd k) = is_joint (in_force w p) ≡ true
Compels w p other = ⊥

-- how many entries can still be forced: an end for each that runs, two entries for each switch to come, one for the switch that is on
abbrev pub left : Workload → List Noted → ℕ
left w p = length (running w p) + (2 * (length w.switches - (in_force w p).switches) + (if is_joint (in_force w p) then 1 else 0))

-- a stricter test leaves no more
filter_fewer : (f g : Txn → Bool) (ts : List Txn) → ((u : Txn) → g u ≡ true → f u ≡ true) → length (filter g ts) ≤ length (filter f ts)
filter_fewer f g [] h = grind arith
filter_fewer f g (x ∷ ts) h = grind (arith, common_steps, filter_fewer f g ts h, h x)

-- and fewer where one of them fails it
filter_falls : (f g : Txn → Bool) (ts : List Txn) (t : Txn) → ((u : Txn) → g u ≡ true → f u ≡ true) → has_txn ts t ≡ true → f t ≡ true → g t ≡ false →
    length (filter g ts) < length (filter f ts)
filter_falls f g [] t h here passes fails = absurd (true≢false (sym here))
filter_falls f g (x ∷ ts) t h here passes fails = falls_step (λ there. filter_falls f g ts t h there passes fails) (is_txn t x) refl where
  falls_step : (has_txn ts t ≡ true → length (filter g ts) < length (filter f ts)) → (b : Bool) → is_txn t x ≡ b →
      length (filter g (x ∷ ts)) < length (filter f (x ∷ ts))
  falls_step rest true q =
      let same = sym (same_txn x t q) in
      grind (arith, common_steps, filter_fewer f g ts h, subst (λ u. f u ≡ true) same passes, subst (λ u. g u ≡ false) same fails)
  falls_step rest false q = grind (arith, common_steps, q, here, rest, h x)

-- an entry that ends t leaves running those that ran, but for t
runs_before : (p : List Noted) (n : Noted) (u : Txn) → is_begin_of u n.entry ≡ false → is_running (p ++ n ∷ []) u ≡ true → is_running p u ≡ true
runs_before p n u none runs = grind (arith, common_steps, none, runs)

ended_now : (p : List Noted) (n : Noted) (t : Txn) → is_end_of t n.entry ≡ true → is_running (p ++ n ∷ []) t ≡ false
ended_now p n t e = grind (arith, common_steps, e)

same_self : (t : Txn) → is_txn t t ≡ true
same_self t = grind (arith, common_steps)

ended_by_commit : (t : Txn) → (is_txn t t || false) ≡ true
ended_by_commit t = grind (arith, common_steps, same_self t)

-- what is in force after one more entry
in_force_push : (w : Workload) (p : List Noted) (e : Entry) → in_force w (add p e) ≡ turn w p (in_force w p) (next p e).at e
in_force_push w p e = fold_seeing_push (λ before f n. turn w before f n.at n.entry) (opening w) p (next p e)

-- running ones are of the workload
abbrev pub Known : Workload → List Noted → Type 0
Known w p = (t : Txn) → is_running p t ≡ true → has_txn (txns w) t ≡ true

-- so fewer can be forced after a forced entry
end_falls : (w : Workload) (p : List Noted) (t : Txn) (e : Entry) → Known w p → is_running p t ≡ true → is_end_of t e ≡ true → ((u : Txn) → is_begin_of u e ≡ false) →
    turn w p (in_force w p) (next p e).at e ≡ in_force w p → left w (add p e) < left w p
end_falls w p t e known runs ends none still =
    let fewer = filter_falls (is_running p) (is_running (add p e)) (txns w) t (λ u. runs_before p (next p e) u (none u)) (known t runs) runs (ended_now p (next p e) t ends) in
    let same = in_force_push w p e ∙ still in
    omega (arith, fewer, ap (λ (f : InForce). 2 * (length w.switches - f.switches) + (if is_joint f then 1 else 0)) same)

still_fewer : (w : Workload) (p : List Noted) (e : Entry) → ((u : Txn) → is_begin_of u e ≡ false) → length (running w (add p e)) ≤ length (running w p)
still_fewer w p e none = filter_fewer (is_running p) (is_running (add p e)) (txns w) (λ u. runs_before p (next p e) u (none u))

-- the same for a SwitchOn, and for a SwitchEnd
on_falls : (a b s n : ℕ) (joint joint_after : Bool) → a ≤ b → s < n → joint ≡ false →
    a + (2 * (n - (s + 1)) + (if joint_after then 1 else 0)) < b + (2 * (n - s) + (if joint then 1 else 0))
on_falls a b s n joint true le lt q = grind (arith, common_steps, le, lt, q)
on_falls a b s n joint false le lt q = grind (arith, common_steps, le, lt, q)

turned_on : (w : Workload) (p : List Noted) (f : InForce) (at : ℕ) (kind : Kind) (method : Method) → (turn_on w p f at kind method).switches ≡ f.switches + 1
turned_on w p f at kind Generic = refl
turned_on w p f at kind Convert = refl
turned_on w p f at kind Suffix = refl

switch_falls : (w : Workload) (p : List Noted) (k : ℕ) (kind : Kind) (method : Method) → (in_force w p).switches < length w.switches → is_joint (in_force w p) ≡ false →
    left w (add p (SwitchOn k kind method)) < left w p
switch_falls w p k kind method more single =
    let e = SwitchOn k kind method in
    let pushed = in_force_push w p e in
    let raised = ap (λ (f : InForce). f.switches) pushed ∙ turned_on w p (in_force w p) (next p e).at kind method in
    subst
    (λ s. length (running w (add p e)) + (2 * (length w.switches - s) + (if is_joint (in_force w (add p e)) then 1 else 0)) < left w p)
    (sym raised)
    (on_falls _ _ (in_force w p).switches (length w.switches) (is_joint (in_force w p)) (is_joint (in_force w (add p e))) (still_fewer w p e (λ u. refl)) more single)

closed : (w : Workload) (p : List Noted) (f : InForce) (k : ℕ) → is_joint f ≡ true → (is_joint (turn_end f f.next) ≡ false) × ((turn_end f f.next).switches ≡ f.switches)
closed w p f k joint = ended_so f.next refl where
  ended_so : (o : Option (Kind × ℕ)) → f.next ≡ o → (is_joint (turn_end f o) ≡ false) × ((turn_end f o).switches ≡ f.switches)
  ended_so None q = absurd (true≢false (sym joint ∙ ap is_some q))
  ended_so (Some c) q = (refl, refl)

close_falls : (w : Workload) (p : List Noted) (k : ℕ) → is_joint (in_force w p) ≡ true → left w (add p (SwitchEnd k)) < left w p
close_falls w p k joint =
    let e = SwitchEnd k in
    let pushed = in_force_push w p e in
    let c = closed w p (in_force w p) k joint in
    let single = ap is_joint pushed ∙ c.0 in
    let same = ap (λ (f : InForce). f.switches) pushed ∙ c.1 in
    grind (arith, common_steps, still_fewer w p e (λ u. refl), single, same, joint)

-- a forced entry leaves fewer to be forced
pub forced_falls : (w : Workload) (p : List Noted) (e : Entry) → Known w p → Compels w p e → left w (add p e) < left w p
forced_falls w p (Abort t cause act) known runs = end_falls w p t (Abort t cause act) known runs (same_self t) (λ u. refl) refl
forced_falls w p (Commit t request applied) known runs = end_falls w p t (Commit t request applied) known runs (ended_by_commit t) (λ u. refl) refl
forced_falls w p (SwitchOn k kind method) known c = switch_falls w p k kind method c.0 c.1
forced_falls w p (SwitchEnd k) known joint = close_falls w p k joint
forced_falls w p other known c = absurd c

-- what an option holds, and what a search finds
some_is : {X : Type 0} (a b : X) → Some a ≡ Some b → a ≡ b
some_is a b e = cc e

none_is : {X : Type 0} (a : X) → None ≡ Some a → ⊥
none_is a e = cc e

mapped : {X Y : Type 0} (h : X → Y) (o : Option X) (y : Y) → option_map h o ≡ Some y → (x : X) × (o ≡ Some x) × (h x ≡ y)
mapped h None y e = absurd (none_is y e)
mapped h (Some x) y e = (x, refl, some_is _ _ e)

found_passes : {X : Type 0} (f : X → Bool) (xs : List X) (y : X) → find f xs ≡ Some y → f y ≡ true
found_passes f [] y e = absurd (none_is y e)
found_passes f (x ∷ xs) y e = passes_step (found_passes f xs y) (f x) refl e where
  passes_step : (find f xs ≡ Some y → f y ≡ true) → (b : Bool) → f x ≡ b → (if b then Some x else find f xs) ≡ Some y → f y ≡ true
  passes_step rest true q e = subst (λ z. f z ≡ true) (some_is _ _ e) q
  passes_step rest false q e = rest e

kept_passes : {X : Type 0} (f g : X → Bool) (xs : List X) (y : X) → find f (filter g xs) ≡ Some y → g y ≡ true
kept_passes f g [] y e = absurd (none_is y e)
kept_passes f g (x ∷ xs) y e = passes_step (kept_passes f g xs y) (g x) refl e where
  first_step : (find f (filter g xs) ≡ Some y → g y ≡ true) → g x ≡ true → (c : Bool) → (if c then Some x else find f (filter g xs)) ≡ Some y → g y ≡ true
  first_step rest q true e = subst (λ z. g z ≡ true) (some_is _ _ e) q
  first_step rest q false e = rest e

  passes_step : (find f (filter g xs) ≡ Some y → g y ≡ true) → (b : Bool) → g x ≡ b → find f (if b then x ∷ filter g xs else filter g xs) ≡ Some y → g y ≡ true
  passes_step rest true q e = first_step rest q (f x) e
  passes_step rest false q e = rest e

when : {X : Type 0} (b : Bool) (x y : X) → (if b then Some x else None) ≡ Some y → (b ≡ true) × (x ≡ y)
when true x y e = (refl, some_is _ _ e)
when false x y e = absurd (none_is y e)

first_mapped : {X Y : Type 0} (h : X → Option Y) (xs : List X) (y : Y) → slice_get (filter_map h xs) 0 ≡ Some y →
    (x : X) × (h x ≡ Some y) × ((test : X → Bool) → test x ≡ true → list_any test xs ≡ true)
first_mapped h [] y e = absurd (none_is y e)
first_mapped h (x ∷ xs) y e = mapped_step (first_mapped h xs y) (h x) refl e where
  mapped_step : (slice_get (filter_map h xs) 0 ≡ Some y → (z : _) × (h z ≡ Some y) × ((test : _ → Bool) → test z ≡ true → list_any test xs ≡ true)) →
      (o : Option _) → h x ≡ o → slice_get (cons_option o (filter_map h xs)) 0 ≡ Some y →
      (z : _) × (h z ≡ Some y) × ((test : _ → Bool) → test z ≡ true → list_any test (x ∷ xs) ≡ true)
  mapped_step rest None q e = let r = rest e in (r.0, r.1, λ test here. or_right (test x) (list_any test xs) (r.2 test here))
  mapped_step rest (Some v) q e = (x, q ∙ e, λ test here. or_left (test x) (list_any test xs) here)

none_fails : {X : Type 0} (g : X → Bool) (xs : List X) → list_any (λ x. not (g x)) (filter g xs) ≡ false
none_fails g [] = refl
none_fails g (x ∷ xs) = none_step (none_fails g xs) (g x) refl where
  none_step : list_any (λ z. not (g z)) (filter g xs) ≡ false → (b : Bool) → g x ≡ b → list_any (λ z. not (g z)) (if b then x ∷ filter g xs else filter g xs) ≡ false
  none_step rest true q = ap (λ b. not b || list_any (λ z. not (g z)) (filter g xs)) q ∙ rest
  none_step rest false q = rest

over_joint : (w : Workload) (p : List Noted) (o : Option (Kind × ℕ)) → is_over w p o ≡ true → is_some o ≡ true
over_joint w p None q = absurd (true≢false (sym q))
over_joint w p (Some c) q = refl

-- who waits and is answered runs, and the answer is no Wait
waiting_runs : (w : Workload) (p : List Noted) (r : Txn × Request) → ((test : Txn × Request → Bool) → test r ≡ true → list_any test (waiting p) ≡ true) → is_running p r.0 ≡ true
waiting_runs w p r inside = runs_step (is_running p r.0) refl where
  runs_step : (b : Bool) → is_running p r.0 ≡ b → is_running p r.0 ≡ true
  runs_step true q = q
  runs_step false q = absurd (true≢false (sym (inside (λ z. not (is_running p z.0)) (ap not q)) ∙ none_fails (λ (z : Txn × Request). is_running p z.0) (filter_map (λ n. wait_of n.entry) p)))

decided_compels : (w : Workload) (p : List Noted) (t : Txn) (request : Request) (v : Verdict) (e : Entry) → is_running p t ≡ true → is_waiting p t ≡ true →
    decided w p t request v ≡ Some e → Compels w p e
decided_compels w p t request (verdicts.Reject why) e runs waits q = subst (Compels w p) (some_is _ _ q) runs
decided_compels w p t request verdicts.Grant e runs waits q = subst (Compels w p) (some_is _ _ q) runs
decided_compels w p t request verdicts.Wait e runs waits q =
    absurd (none_is e (sym (ap (λ b. if b then None else if closes_waits w p t request then Some (Abort t causes.Deadlock (acts.Commit request)) else Some (Wait t request)) waits) ∙ q))

answered_compels : (w : Workload) (p : List Noted) (t : Txn) (request : Request) (o : Option Cause) (e : Entry) → is_running p t ≡ true → is_waiting p t ≡ true →
    answered w p t request o ≡ Some e → Compels w p e
answered_compels w p t request (Some why) e runs waits q = subst (Compels w p) (some_is _ _ q) runs
answered_compels w p t request None e runs waits q = decided_compels w p t request (verdict w p (writing t (stamp p t) request.writes)) e runs waits q

-- each forced entry is one of these
home_compels : (w : Workload) (p : List Noted) (e : Entry) → home_down w p ≡ Some e → Compels w p e
home_compels w p e q =
    let m = mapped _ (find (λ t. not (is_up w p (home w t))) (running w p)) e q in
    subst (Compels w p) m.2 (kept_passes (λ t. not (is_up w p (home w t))) (is_running p) (txns w) m.0 m.1)

off_compels : (w : Workload) (p : List Noted) (e : Entry) → switch_off p (in_force w p) ≡ Some e → Compels w p e
off_compels w p e q =
    let m = mapped _ (find (is_running p) (in_force w p).off) e q in
    subst (Compels w p) m.2 (found_passes (is_running p) (in_force w p).off m.0 m.1)

end_compels : (w : Workload) (p : List Noted) (e : Entry) → switch_end w p (in_force w p) ≡ Some e → Compels w p e
end_compels w p e q = let m = when (end_due w p) _ e q in subst (Compels w p) m.1 (over_joint w p (in_force w p).next m.0)

both : (a b : Bool) → (a && not b) ≡ true → b ≡ false
both true false q = refl
both true true q = absurd (true≢false (sym q))
both false b q = absurd (true≢false (sym q))

on_compels : (w : Workload) (p : List Noted) (e : Entry) → switch_on w p (in_force w p) ≡ Some e → Compels w p e
on_compels w p e q = on_step (slice_get w.switches (in_force w p).switches) refl q where
  on_step : (o : Option Switch) → slice_get w.switches (in_force w p).switches ≡ o →
      option_and_then (λ (s : Switch). if nat_le s.trigger (ends p) && not (is_joint (in_force w p)) then Some (SwitchOn ((in_force w p).switches + 1) s.kind s.method) else None) o ≡ Some e →
      Compels w p e
  on_step None here q = absurd (none_is e q)
  on_step (Some s) here q =
      let m = when (nat_le s.trigger (ends p) && not (is_joint (in_force w p))) _ e q in
      subst (Compels w p) m.1 (slice_get_within w.switches (in_force w p).switches s here, both (nat_le s.trigger (ends p)) (is_joint (in_force w p)) m.0)

woken_compels : (w : Workload) (p : List Noted) (e : Entry) → woken w p ≡ Some e → Compels w p e
woken_compels w p e q =
    let m = first_mapped (λ (r : Txn × Request). answer_commit w p r.0 r.1) (waiting p) e q in
    answered_compels w p (m.0).0 (m.0).1 (site_refusal w p (m.0).1) e (waiting_runs w p m.0 m.2) (m.2 (λ r. is_txn (m.0).0 r.0) (same_self (m.0).0)) m.1

sorted : {P : Type 0} (a b c d g : Option Entry) (e : Entry) → (a ≡ Some e → P) → (b ≡ Some e → P) → (c ≡ Some e → P) → (d ≡ Some e → P) → (g ≡ Some e → P) →
    earliest (a ∷ b ∷ c ∷ d ∷ g ∷ []) ≡ Some e → P
sorted (Some m) b c d g e in_a in_b in_c in_d in_g q = in_a q
sorted None (Some m) c d g e in_a in_b in_c in_d in_g q = in_b q
sorted None None (Some m) d g e in_a in_b in_c in_d in_g q = in_c q
sorted None None None (Some m) g e in_a in_b in_c in_d in_g q = in_d q
sorted None None None None (Some m) e in_a in_b in_c in_d in_g q = in_g q
sorted None None None None None e in_a in_b in_c in_d in_g q = absurd (none_is e q)

pub forced_compels : (w : Workload) (p : List Noted) (e : Entry) → forced w p ≡ Some e → Compels w p e
forced_compels w p e q =
    sorted (home_down w p) (switch_off p (in_force w p)) (switch_end w p (in_force w p)) (switch_on w p (in_force w p)) (woken w p) e
    (home_compels w p e) (off_compels w p e) (end_compels w p e) (on_compels w p e) (woken_compels w p e) q

-- in a legal history those that run are of the workload
begin_known : (w : Workload) (p : List Noted) (e : Entry) (t : Txn) → Allowed w p e → is_begin_of t e ≡ true → has_txn (txns w) t ≡ true
begin_known w p (Begin u s) t a q = subst (λ v. has_txn (txns w) v ≡ true) (same_txn u t q) (known_step (forced w p) refl a) where
  first_part : (a b c d : Bool) → (a && b && c && d) ≡ true → a ≡ true
  first_part true b c d q = refl
  first_part false b c d q = absurd (true≢false (sym q))

  known_step : (o : Option Entry) → forced w p ≡ o → Comes w p (Begin u s) o → has_txn (txns w) u ≡ true
  known_step None here c = first_part (has_txn (txns w) u) (not (has_begun p u)) (is_up w p (home w u)) (option_map_or (is_txn u) (next_of w p (home w u)) false || again w p u) c.1
  known_step (Some must) here c = absurd (subst (Compels w p) (sym c) (forced_compels w p must here))
begin_known w p other t a q = absurd (true≢false (sym q))

begun_known : (w : Workload) (before ns : List Noted) → EachSeeing (λ p n. Allowed w p n.entry) before ns →
    ((t : Txn) → has_begun before t ≡ true → has_txn (txns w) t ≡ true) → (t : Txn) → has_begun (before ++ ns) t ≡ true → has_txn (txns w) t ≡ true
begun_known w before [] l h t q = h t (subst (λ p. has_begun p t ≡ true) (append-nil before) q)
begun_known w before (n ∷ ns) l h t q =
    begun_known w (before ++ n ∷ []) ns l.1 (λ u here. either u (has_begun before u) (is_begin_of u n.entry) refl refl (sym (has_begun_push before n u) ∙ here)) t
    (subst (λ p. has_begun p t ≡ true) (sym (append_assoc before (n ∷ []) ns)) q) where
      either : (u : Txn) (a b : Bool) → has_begun before u ≡ a → is_begin_of u n.entry ≡ b → (has_begun before u || is_begin_of u n.entry) ≡ true → has_txn (txns w) u ≡ true
      either u true b here begins q = h u here
      either u false true here begins q = begin_known w before n.entry u l.0 begins
      either u false false here begins q = absurd (true≢false (sym q ∙ ap (λ c. c || is_begin_of u n.entry) here ∙ begins))

pub legal_known : (w : Workload) (h : List Entry) → Legal w h → Known w (noted h)
legal_known w h l t runs = begun_known w [] (noted h) l (λ u q. absurd (true≢false (sym q))) t (started (has_begun (noted h) t) (not (has_ended (noted h) t)) runs) where
  started : (a b : Bool) → (a && b) ≡ true → a ≡ true
  started true b q = refl
  started false b q = absurd (true≢false (sym q))

-- there are never more than this
seeing_keeps : {S : Type 0} (I : S → Type 0) (step : List Noted → S → Noted → S) → ((before : List Noted) (s : S) (n : Noted) → I s → I (step before s n)) →
    (before : List Noted) (s : S) (p : List Noted) → I s → I (fold_seeing step before s p)
seeing_keeps I step h before s [] i = i
seeing_keeps I step h before s (n ∷ p) i = seeing_keeps I step h (before ++ n ∷ []) (step before s n) p (h before s n i)

abbrev Counted : InForce → Type 0
Counted f = is_joint f ≡ true → 0 < f.switches

ended_counted : (f : InForce) (o : Option (Kind × ℕ)) → Counted f → Counted (turn_end f o)
ended_counted f None c = c
ended_counted f (Some n) c = λ q. absurd (true≢false (sym q))

turn_counted : (w : Workload) (before : List Noted) (f : InForce) (at : ℕ) (e : Entry) → Counted f → Counted (turn w before f at e)
turn_counted w before f at (SwitchOn k kind method) c = λ q. subst (λ n. 0 < n) (sym (turned_on w before f at kind method)) (omega arith)
turn_counted w before f at (SwitchEnd k) c = ended_counted f f.next c
turn_counted w before f at other c = c

counted : (w : Workload) (p : List Noted) → Counted (in_force w p)
counted w p = seeing_keeps Counted (λ before f n. turn w before f n.at n.entry) (λ before f n c. turn_counted w before f n.at n.entry c) [] (opening w) p (λ q. absurd (true≢false (sym q)))

-- and no more switches come on than the workload has
ended_switches : (f : InForce) (o : Option (Kind × ℕ)) → (turn_end f o).switches ≡ f.switches
ended_switches f None = refl
ended_switches f (Some c) = refl

switch_within : (w : Workload) (p : List Noted) (at : ℕ) (e : Entry) → Allowed w p e → (in_force w p).switches ≤ length w.switches →
    (turn w p (in_force w p) at e).switches ≤ length w.switches
switch_within w p at (SwitchOn k kind method) a le = on_step (forced w p) refl a where
  on_step : (o : Option Entry) → forced w p ≡ o → Comes w p (SwitchOn k kind method) o → (turn_on w p (in_force w p) at kind method).switches ≤ length w.switches
  on_step None here c = absurd c
  on_step (Some must) here c =
      let more = (subst (Compels w p) (sym c) (forced_compels w p must here)).0 in
      subst (λ n. n ≤ length w.switches) (sym (turned_on w p (in_force w p) at kind method)) (omega (arith, more))
switch_within w p at (SwitchEnd k) a le = subst (λ n. n ≤ length w.switches) (sym (ended_switches (in_force w p) (in_force w p).next)) le
switch_within w p at other a le = le

switches_within : (w : Workload) (before ns : List Noted) → EachSeeing (λ p n. Allowed w p n.entry) before ns →
    (in_force w before).switches ≤ length w.switches → (in_force w (before ++ ns)).switches ≤ length w.switches
switches_within w before [] l le = subst (λ p. (in_force w p).switches ≤ length w.switches) (sym (append-nil before)) le
switches_within w before (n ∷ ns) l le =
    let pushed = fold_seeing_push (λ p f m. turn w p f m.at m.entry) (opening w) before n in
    subst (λ p. (in_force w p).switches ≤ length w.switches) (append_assoc before (n ∷ []) ns)
    (switches_within w (before ++ n ∷ []) ns l.1 (subst (λ (f : InForce). f.switches ≤ length w.switches) (sym pushed) (switch_within w before n.at n.entry l.0 le)))

fits_bound : (a b s n : ℕ) (joint : Bool) → a ≤ b → s ≤ n → (joint ≡ true → 0 < s) → a + (2 * (n - s) + (if joint then 1 else 0)) ≤ b + 2 * n
fits_bound a b s n true le within c = omega (arith, le, within, c refl)
fits_bound a b s n false le within c = omega (arith, le)

filter_within : (f : Txn → Bool) (ts : List Txn) → length (filter f ts) ≤ length ts
filter_within f [] = grind arith
filter_within f (x ∷ ts) = grind (arith, common_steps, filter_within f ts)

pub left_bound : (w : Workload) (h : List Entry) → Legal w h → left w (noted h) ≤ length (txns w) + 2 * length w.switches
left_bound w h l =
    let p = noted h in
    fits_bound (length (running w p)) (length (txns w)) (in_force w p).switches (length w.switches) (is_joint (in_force w p)) (filter_within (is_running p) (txns w))
    (switches_within w [] p l (omega arith)) (counted w p)
