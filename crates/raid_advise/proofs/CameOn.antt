-- The switches that came on in a legal history are the workload's first ones, in order.
use Rattle.std.proofs.Common.{◌≡◌, ℕ, zero, suc, ◌+◌, ◌≤◌, Bool, true, false, not, ◌&&◌, nat_le, List, [], ◌∷◌, ◌++◌, length, take, Option, Some, None, if◌then◌else◌, inl, inr, arith, refl, sym, ap, subst, ◌∙◌, add-one}
use Rattle.std.specs.Prelude.{find, slice_get, option_and_then}
use Rattle.std.proofs.lemmas.List.{take_all}
use Rattle.std.proofs.lemmas.List.Sums.{sum_by-append, fold-append}
use Rattle.raid_base.specs.declared.names.Txn.{Txn}
use Rattle.raid_base.specs.declared.request.Request.{Request}
use Rattle.raid_base.specs.declared.entry.Act.{Act}
use Rattle.raid_base.specs.declared.entry.Cause.{Cause}
use Rattle.raid_base.specs.declared.entry.Entry.{Entry}
use Rattle.raid_base.specs.declared.entry.Entry.TheVariants.{Abort, Wait, SwitchOn, SwitchEnd}
use Rattle.raid_base.specs.declared.entry.Noted.{Noted}
use Rattle.raid_base.specs.declared.verdict.Kind.{Kind}
use Rattle.raid_base.specs.declared.verdict.Method.{Method}
use Rattle.raid_base.specs.declared.verdict.Method.TheVariants.{Generic, Convert, Suffix}
use Rattle.raid_base.specs.declared.verdict.Verdict.{Verdict}
use Rattle.raid_base.specs.declared.verdict.Verdict.TheVariants as verdicts
use Rattle.raid_workload.specs.declared.workload.Switch.{Switch}
use Rattle.raid_workload.specs.declared.workload.Workload.{Workload}
use Rattle.raid_workload.specs.Parts.{home}
use Rattle.raid_rules.specs.Entries.{is_switch_on}
use Rattle.raid_rules.specs.History.{noted, stamp, ends, is_running, is_waiting}
use Rattle.raid_rules.specs.Verdicts.{writing}
use Rattle.raid_rules.proofs.Places.{by_last}
use Rattle.raid_rules.proofs.Push.{noted_push}
use Rattle.raid_legal.specs.Seen.{running, is_up}
use Rattle.raid_legal.specs.Answers.{answer_commit, answered, decided, closes_waits, site_refusal}
use Rattle.raid_legal.specs.InForce.{InForce, in_force, is_joint, turn, turn_end, end_due, verdict}
use Rattle.raid_legal.specs.Forced.{home_down, switch_off, switch_end, switch_on, woken}
use Rattle.raid_legal.specs.Legal.{Legal, Allowed}
use Rattle.raid_legal.proofs.Push.{legal_push}
use Rattle.raid_serial.proofs.Facts.{some_is, none_is, map_some, if_some, first_mapped, sort}
use Rattle.raid_serial.proofs.Force.{in_force_push}
use Rattle.raid_advise.specs.Added.{last_kind}
use Rattle.raid_advise.proofs.Kept.{kind_from}
use Rattle.raid_advise.specs.Advice.{came_on, kind_after, latest_kind}

module _ (w : Workload) (p : List Noted) (k : ℕ) (to : Kind) (method : Method) where
  -- no answer to a commit request is a SwitchOn
  waits_else : (a b : Bool) (t : Txn) (cause : Cause) (act : Act) (request : Request) →
      (if a then None else if b then Some (Abort t cause act) else Some (Wait t request)) ≡ Some (SwitchOn k to method) → ⊥
  waits_else true b t cause act request q = cc q
  waits_else false true t cause act request q = cc q
  waits_else false false t cause act request q = cc q

  decided_else : (t : Txn) (request : Request) (v : Verdict) → decided w p t request v ≡ Some (SwitchOn k to method) → ⊥
  decided_else t request (verdicts.Reject why) q = cc q
  decided_else t request verdicts.Grant q = cc q
  decided_else t request verdicts.Wait q = waits_else (is_waiting p t) (closes_waits w p t request) t _ _ request q

  answered_else : (t : Txn) (request : Request) (o : Option Cause) → answered w p t request o ≡ Some (SwitchOn k to method) → ⊥
  answered_else t request (Some why) q = cc q
  answered_else t request None q = decided_else t request (verdict w p (writing t (stamp p t) request.writes)) q

  -- so a SwitchOn that is allowed is forced by the next switch
  forced_on : (f : InForce) → in_force w p ≡ f → Allowed w p (SwitchOn k to method) → switch_on w p f ≡ Some (SwitchOn k to method)
  forced_on f same a = subst (λ g. switch_on w p g ≡ Some (SwitchOn k to method)) same (elim (sort w p (home_down w p) (switch_off p (in_force w p)) (switch_end w p (in_force w p)) (switch_on w p (in_force w p)) (woken w p) (SwitchOn k to method) a) [
    | inl q ↦ absurd (cc (map_some _ (find (λ t. not (is_up w p (home w t))) (running w p)) (SwitchOn k to method) q).2)
    | inr (inl q) ↦ absurd (cc (map_some _ (find (is_running p) (in_force w p).off) (SwitchOn k to method) q).2)
    | inr (inr (n, inl q)) ↦ absurd (cc (if_some (end_due w p) _ (SwitchOn k to method) q).1)
    | inr (inr (n, inr (inl q))) ↦ q
    | inr (inr (n, inr (inr (inl q)))) ↦ (let m = first_mapped (λ (r : Txn × Request). answer_commit w p r.0 r.1) (λ r. is_running p r.0) _ (SwitchOn k to method) q in absurd (answered_else (m.0).0 (m.0).1 (site_refusal w p (m.0).1) m.2))
    | inr (inr (n, inr (inr (inr q)))) ↦ absurd q
  ])

  -- which is to the kind that comes in
  next_kind : (f : InForce) (o : Option Switch) →
      option_and_then (λ (s : Switch). if nat_le s.trigger (ends p) && not (is_joint f) then Some (SwitchOn (f.switches + 1) s.kind s.method) else None) o ≡ Some (SwitchOn k to method) →
      (s : Switch) × (o ≡ Some s) × (s.kind ≡ to)
  next_kind f None q = absurd (none_is _ q)
  next_kind f (Some s) q = (s, refl, cc (if_some (nat_le s.trigger (ends p) && not (is_joint f)) _ (SwitchOn k to method) q).1)

-- a SwitchOn adds one to the switches in force, and a SwitchEnd none
turned_on : (w : Workload) (p : List Noted) (f : InForce) (at k : ℕ) (to : Kind) (method : Method) → (turn w p f at (SwitchOn k to method)).switches ≡ f.switches + 1
turned_on w p f at k to Generic = refl
turned_on w p f at k to Convert = refl
turned_on w p f at k to Suffix = refl

turned_end : (f : InForce) (o : Option (Kind × ℕ)) → (turn_end f o).switches ≡ f.switches
turned_end f None = refl
turned_end f (Some c) = refl

-- one more of a list's first ones
take_next : {A : Type 0} (n : ℕ) (xs : List A) (x : A) → slice_get xs n ≡ Some x → take (suc n) xs ≡ take n xs ++ x ∷ []
take_next n [] x e = absurd (none_is x e)
take_next zero (y ∷ xs) x e = ap (λ z. z ∷ []) (some_is y x e)
take_next (suc n) (y ∷ xs) x e = ap (λ zs. y ∷ zs) (take_next n xs x e)

-- as many switches are in force as came on, and the kind that came in last is that of the workload's switches so far
pub record CameOn (w : Workload) (f : InForce) (many : ℕ) (kind : Kind) : Type 0 where
  pub count : many ≡ f.switches
  pub latest : kind ≡ kind_from w.kind (take f.switches w.switches)

module _ (w : Workload) (p : List Noted) where
  on_step : (f : InForce) (many : ℕ) (kind : Kind) (at k : ℕ) (to : Kind) (method : Method) → switch_on w p f ≡ Some (SwitchOn k to method) → CameOn w f many kind → CameOn w (turn w p f at (SwitchOn k to method)) (many + 1) to
  on_step f many kind at k to method on c =
      let n = next_kind w p k to method f (slice_get w.switches f.switches) on in
      let one = turned_on w p f at k to method in
      record {
        count = ap (λ m. m + 1) c.count ∙ sym one;
        latest = sym n.2
            ∙ sym (fold-append (λ before (s : Switch). s.kind) w.kind (take f.switches w.switches) (n.0 ∷ []))
            ∙ ap (kind_from w.kind) (sym (take_next f.switches w.switches n.0 n.1))
            ∙ ap (λ m. kind_from w.kind (take m w.switches)) (sym (one ∙ add-one f.switches));
      }

  still : (f g : InForce) (many : ℕ) (kind : Kind) → g.switches ≡ f.switches → CameOn w f many kind → CameOn w g (many + 0) kind
  still f g many kind same c = record { count = omega (arith, c.count, same); latest = c.latest ∙ ap (λ m. kind_from w.kind (take m w.switches)) (sym same) }

  step : (many : ℕ) (kind : Kind) (at : ℕ) (e : Entry) → Allowed w p e → CameOn w (in_force w p) many kind → CameOn w (turn w p (in_force w p) at e) (many + came_on (e ∷ [])) (kind_after kind e)
  step many kind at (SwitchOn k to method) a c = on_step (in_force w p) many kind at k to method (forced_on w p k to method (in_force w p) refl a) c
  step many kind at (SwitchEnd k) a c = still (in_force w p) (turn_end (in_force w p) (in_force w p).next) many kind (turned_end (in_force w p) (in_force w p).next) c
  step many kind at other a c = still (in_force w p) (in_force w p) many kind refl c

pub legal_came_on : (w : Workload) (h : List Entry) → Legal w h → CameOn w (in_force w (noted h)) (came_on h) (latest_kind w.kind h)
legal_came_on w = by_last (λ h. Legal w h → CameOn w (in_force w (noted h)) (came_on h) (latest_kind w.kind h)) (λ l. record { count = refl; latest = refl }) more
  where
    more : (h : List Entry) (e : Entry) → (Legal w h → CameOn w (in_force w (noted h)) (came_on h) (latest_kind w.kind h)) → Legal w (h ++ e ∷ []) →
        CameOn w (in_force w (noted (h ++ e ∷ []))) (came_on (h ++ e ∷ [])) (latest_kind w.kind (h ++ e ∷ []))
    more h e rest l =
        let q = (legal_push w h e).0 l in
        let at = length (noted h) + 1 in
        subst (λ p. CameOn w (in_force w p) (came_on (h ++ e ∷ [])) (latest_kind w.kind (h ++ e ∷ []))) (sym (noted_push h e))
        (subst (λ f. CameOn w f (came_on (h ++ e ∷ [])) (latest_kind w.kind (h ++ e ∷ []))) (sym (in_force_push w (noted h) e))
        (subst (λ m. CameOn w (turn w (noted h) (in_force w (noted h)) at e) m (latest_kind w.kind (h ++ e ∷ []))) (sym (sum_by-append (λ n. if is_switch_on (λ k. true) n then 1 else 0) h (e ∷ [])))
        (subst (λ kind. CameOn w (turn w (noted h) (in_force w (noted h)) at e) (came_on h + came_on (e ∷ [])) kind) (sym (fold-append kind_after w.kind h (e ∷ [])))
        (step w (noted h) (came_on h) (latest_kind w.kind h) at e q.1 (rest q.0)))))

-- so where all have come on, the last is to the kind of the workload's last switch
pub all_came_on : (w : Workload) (h : List Entry) → Legal w h → length w.switches ≤ came_on h → latest_kind w.kind h ≡ last_kind w
all_came_on w h l all =
    let c = legal_came_on w h l in
    c.latest ∙ ap (kind_from w.kind) (take_all (in_force w (noted h)).switches w.switches (omega (arith, all, c.count)))
