-- What an allowed entry says of sources, causes and switches.
use Rattle.std.proofs.Common.{◌≡◌, ℕ, ◌+◌, ◌⊎◌, inl, inr, Bool, true, false, not, ◌&&◌, ◌==◌, if◌then◌else◌, nat_le, List, [], ◌∷◌, sym, ◌∙◌, ap, subst, refl, Option, Some, None}
use Rattle.std.specs.Prelude.{find, slice_get, option_and_then}
use Rattle.std.proofs.lemmas.Bool.{or_left}
use Rattle.raid_base.specs.declared.names.Txn.{Txn}
use Rattle.raid_base.specs.declared.names.Item.{Item}
use Rattle.raid_base.specs.declared.names.Site.{Site}
use Rattle.raid_base.specs.declared.request.Request.{Request}
use Rattle.raid_base.specs.declared.entry.Entry.{Entry as Real}
use Rattle.raid_base.specs.declared.entry.Entry.TheVariants.{Begin, Read, Wait, Commit, Abort, Ack, SwitchOn, SwitchEnd, Down, Up, Clear}
use Rattle.raid_base.specs.declared.entry.Act.{Act}
use Rattle.raid_base.specs.declared.entry.Act.TheVariants as acts
use Rattle.raid_base.specs.declared.entry.Cause.{Cause}
use Rattle.raid_base.specs.declared.entry.Cause.TheVariants as causes
use Rattle.raid_base.specs.declared.entry.Noted.{Noted as RNoted}
use Rattle.raid_base.specs.declared.verdict.Refusal.{Refusal}
use Rattle.raid_base.specs.declared.verdict.Refusal.TheVariants.{Late, Invalid, Cycle}
use Rattle.raid_base.specs.declared.verdict.Verdict.{Verdict}
use Rattle.raid_base.specs.declared.verdict.Verdict.TheVariants as verdicts
use Rattle.raid_base.specs.Names.{has_site}
use Rattle.raid_workload.specs.declared.workload.Workload.{Workload}
use Rattle.raid_workload.specs.declared.workload.Switch.{Switch}
use Rattle.raid_workload.specs.Parts.{home}
use Rattle.raid_rules.specs.History.{stamp, is_running, is_waiting, ends}
use Rattle.raid_rules.specs.Verdicts.{reading, writing}
use Rattle.raid_rules.specs.Sessions.{source_for}
use Rattle.raid_legal.specs.Seen.{running, sources, is_up}
use Rattle.raid_legal.specs.InForce.{in_force, is_joint, verdict, end_due}
use Rattle.raid_legal.specs.Answers.{served, cause_of, answer_commit, answered, decided, closes_waits, site_refusal, has_no_holder, is_stale}
use Rattle.raid_legal.specs.Forced.{home_down, switch_off, switch_end, switch_on, woken, earliest}
use Rattle.raid_legal.specs.Legal.{Free, Comes, Allowed, Aborts, EndsSo}
use Rattle.raid_legal.specs.Switched.{switch_of}
use Rattle.raid_serial.proofs.Translate.{eq_self}
use Rattle.raid_serial.proofs.Facts.{sort, some_is, none_is, map_some, if_some, first_mapped}

-- the Abort names no switch, or it is the one that the last switch forces
abbrev pub Caused : Workload → List RNoted → Txn → Cause → Type 0
Caused w p t cause = (switch_of cause ≡ None) ⊎ ((cause ≡ causes.SwitchOff (in_force w p).switches) × (find (is_running p) (in_force w p).off ≡ Some t))

abbrev pub Says : Workload → List RNoted → Real → Type 0
Says w p (Begin t site) = Unit {0}
Says w p (Read t x site) = has_site (sources w p x) site ≡ true
Says w p (Wait t request) = Unit {0}
Says w p (Commit t request applied) = Unit {0}
Says w p (Abort t cause act) = Caused w p t cause
Says w p (Ack t site) = Unit {0}
Says w p (SwitchOn k kind method) = (k ≡ (in_force w p).switches + 1) × ((s : Switch) × (slice_get w.switches (in_force w p).switches ≡ Some s))
Says w p (SwitchEnd k) = Unit {0}
Says w p (Down site) = Unit {0}
Says w p (Up site session) = Unit {0}
Says w p (Clear site x version) = Unit {0}

first_has : (found : List Site) (s : Site) → slice_get found 0 ≡ Some s → has_site found s ≡ true
first_has [] s e = absurd (none_is s e)
first_has (f ∷ fs) s e = or_left _ _ (subst (λ z. (z.0 == s.0) ≡ true) (sym (some_is f s e)) (eq_self s.0 s.0 refl))

source_has : (found : List Site) (h s : Site) (b : Bool) → has_site found h ≡ b → (if b then Some h else slice_get found 0) ≡ Some s → has_site found s ≡ true
source_has found h s true q e = subst (λ z. has_site found z ≡ true) (some_is h s e) q
source_has found h s false q e = first_has found s e

refusal_free : (why : Refusal) → switch_of (cause_of why) ≡ None
refusal_free Late = refl
refusal_free Invalid = refl
refusal_free Cycle = refl

site_free : (a b : Bool) (stale why : Cause) → switch_of stale ≡ None → (if a then Some causes.NoCopy else if b then Some stale else None) ≡ Some why → switch_of why ≡ None
site_free true b stale why f e = ap switch_of (sym (some_is _ why e))
site_free false true stale why f e = ap switch_of (sym (some_is _ why e)) ∙ f
site_free false false stale why f e = absurd (none_is why e)

module _ (w : Workload) (p : List RNoted) where
  served_says : (t : Txn) (x : Item) (o : Option Site) (v : Verdict) → source_for (sources w p x) (home w t) ≡ o → Says w p (served t x o v)
  served_says t x None v e = inl refl
  served_says t x (Some s) (verdicts.Reject why) e = inl (refusal_free why)
  served_says t x (Some s) verdicts.Wait e = source_has (sources w p x) (home w t) s (has_site (sources w p x) (home w t)) refl e
  served_says t x (Some s) verdicts.Grant e = source_has (sources w p x) (home w t) s (has_site (sources w p x) (home w t)) refl e

  waits_says : (a b : Bool) (t : Txn) (request : Request) (e : Real) →
      (if a then None else if b then Some (Abort t causes.Deadlock (acts.Commit request)) else Some (Wait t request)) ≡ Some e → Says w p e
  waits_says true b t request e q = absurd (none_is e q)
  waits_says false true t request e q = subst (Says w p) (some_is _ _ q) (inl refl)
  waits_says false false t request e q = subst (Says w p) (some_is _ _ q) tt

  decided_says : (t : Txn) (request : Request) (v : Verdict) (e : Real) → decided w p t request v ≡ Some e → Says w p e
  decided_says t request (verdicts.Reject why) e q = subst (Says w p) (some_is _ _ q) (inl (refusal_free why))
  decided_says t request verdicts.Grant e q = subst (Says w p) (some_is _ _ q) tt
  decided_says t request verdicts.Wait e q = waits_says (is_waiting p t) (closes_waits w p t request) t request e q

  answered_says : (t : Txn) (request : Request) (o : Option Cause) (e : Real) → site_refusal w p request ≡ o → answered w p t request o ≡ Some e → Says w p e
  answered_says t request (Some why) e r q = subst (Says w p) (some_is _ _ q) (inl (site_free (has_no_holder w p request) (is_stale w p request) _ why refl r))
  answered_says t request None e r q = decided_says t request (verdict w p (writing t (stamp p t) request.writes)) e q

  answer_says : (t : Txn) (request : Request) (e : Real) → answer_commit w p t request ≡ Some e → Says w p e
  answer_says t request e q = answered_says t request (site_refusal w p request) e refl q

  ends_says : (t : Txn) (cause : Cause) (reads : _) → EndsSo w p t cause reads → Caused w p t cause
  ends_says t causes.Own reads a = inl refl
  ends_says t causes.Overflow reads a = inl refl
  ends_says t other reads a = absurd a

  read_says : (t : Txn) (x : Item) → Says w p (served t x (source_for (sources w p x) (home w t)) (verdict w p (reading t (stamp p t) x)))
  read_says t x = served_says t x (source_for (sources w p x) (home w t)) (verdict w p (reading t (stamp p t) x)) refl

  aborts_says : (t : Txn) (cause : Cause) (act : Act) → Aborts w p t cause act → Caused w p t cause
  aborts_says t cause acts.Nothing a = absurd a
  aborts_says t cause (acts.Ended reads) a = ends_says t cause reads a.1
  aborts_says t cause (acts.Read x) a = subst (Says w p) a.1 (read_says t x)
  aborts_says t cause (acts.Commit request) a = answer_says t request (Abort t cause (acts.Commit request)) a.1

  free_says : (e : Real) → Free w p e → Says w p e
  free_says (Begin t s) f = tt
  free_says (Read t x s) f = subst (Says w p) f.1 (read_says t x)
  free_says (Wait t request) f = tt
  free_says (Commit t request applied) f = tt
  free_says (Abort t cause act) f = aborts_says t cause act f
  free_says (Ack t s) f = tt
  free_says (SwitchOn k kind method) f = absurd f
  free_says (SwitchEnd k) f = absurd f
  free_says (Down s) f = tt
  free_says (Up s session) f = tt
  free_says (Clear s x v) f = tt

  on_says : (o : Option Switch) (e : Real) → slice_get w.switches (in_force w p).switches ≡ o → option_and_then
      (λ (s : Switch). if nat_le s.trigger (ends p) && not (is_joint (in_force w p)) then Some (SwitchOn ((in_force w p).switches + 1) s.kind s.method) else None) o ≡ Some e → Says w p e
  on_says None e f q = absurd (none_is e q)
  on_says (Some s) e f q = subst (Says w p) (if_some (nat_le s.trigger (ends p) && not (is_joint (in_force w p))) _ e q).1 (refl, (s, f))

  off_says : (e : Real) → switch_off p (in_force w p) ≡ Some e → Says w p e
  off_says e q = let m = map_some _ (find (is_running p) (in_force w p).off) e q in subst (Says w p) m.2 (inr (refl, m.1))

  pub says : (e : Real) → Allowed w p e → Says w p e
  says e h = elim (sort w p (home_down w p) (switch_off p (in_force w p)) (switch_end w p (in_force w p)) (switch_on w p (in_force w p)) (woken w p) e h) [
    | inl q ↦ subst (Says w p) (map_some _ (find (λ t. not (is_up w p (home w t))) (running w p)) e q).2 (inl refl)
    | inr (inl q) ↦ off_says e q
    | inr (inr (n, inl q)) ↦ subst (Says w p) (if_some (end_due w p) _ e q).1 tt
    | inr (inr (n, inr (inl q))) ↦ on_says (slice_get w.switches (in_force w p).switches) e refl q
    | inr (inr (n, inr (inr (inl q)))) ↦ (let m = first_mapped (λ (r : Txn × Request). answer_commit w p r.0 r.1) (λ r. is_running p r.0) _ e q in answer_says (m.0).0 (m.0).1 e m.2)
    | inr (inr (n, inr (inr (inr q)))) ↦ free_says e q
  ]

  -- a SwitchOn comes only where no home is down
  pub homes_up : (k : ℕ) (kind : _) (method : _) → Allowed w p (SwitchOn k kind method) → home_down w p ≡ None
  homes_up k kind method a = go (home_down w p) refl a
    where
      go : (o : Option Real) → home_down w p ≡ o → Comes w p (SwitchOn k kind method) (earliest (o ∷ switch_off p (in_force w p) ∷ switch_end w p (in_force w p) ∷ switch_on w p (in_force w p) ∷ woken w p ∷ [])) → o ≡ None
      go None e c = refl
      go (Some m) e c = absurd (let f = map_some _ (find (λ t. not (is_up w p (home w t))) (running w p)) m e in cc (f.2, c))

  -- where no home is down, the abort that the last switch forces comes next
  pub off_comes : (e m : Real) → Allowed w p e → home_down w p ≡ None → switch_off p (in_force w p) ≡ Some m → e ≡ m
  off_comes e m a up off = go (home_down w p) (switch_off p (in_force w p)) up off a
    where
      go : (a b : Option Real) → a ≡ None → b ≡ Some m → Comes w p e (earliest (a ∷ b ∷ switch_end w p (in_force w p) ∷ switch_on w p (in_force w p) ∷ woken w p ∷ [])) → e ≡ m
      go (Some n) b u f c = absurd (cc u)
      go None None u f c = absurd (none_is m f)
      go None (Some n) u f c = c ∙ some_is n m f
