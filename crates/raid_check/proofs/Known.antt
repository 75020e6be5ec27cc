-- Entries of legal histories name the workload's sites.
use Rattle.std.proofs.Common.{◌≡◌, ℕ, nat_le, nat_lt, Bool, true, false, not, ◌&&◌, List, [], ◌∷◌, ◌++◌, Option, Some, None, if◌then◌else◌, true≢false, refl, ap, sym, subst, arith, ◌∙◌, inl, inr}
use Rattle.std.specs.Prelude.{◌+◌, count_by, filter_map, find, slice_get, option_and_then}
use Rattle.std.specs.List.{list_all}
use Rattle.std.proofs.lemmas.Bool.{and_parts}
use Rattle.raid_serial.proofs.Translate.{cases_true}
use Rattle.std.proofs.lemmas.Grind.{common_steps}
use Rattle.raid_base.specs.declared.names.Txn.{Txn}
use Rattle.raid_base.specs.declared.names.Item.{Item}
use Rattle.raid_base.specs.declared.names.Site.{Site}
use Rattle.raid_base.specs.declared.request.Request.{Request}
use Rattle.raid_base.specs.declared.entry.Cause.{Cause}
use Rattle.raid_base.specs.declared.entry.Cause.TheVariants as causes
use Rattle.raid_base.specs.declared.entry.Act.TheVariants as acts
use Rattle.raid_base.specs.declared.entry.Entry.{Entry}
use Rattle.raid_base.specs.declared.entry.Entry.TheVariants.{Wait, Commit, Abort, Ack, SwitchOn, SwitchEnd, Down, Up, Clear}
use Rattle.raid_base.specs.declared.entry.Noted.{Noted}
use Rattle.raid_base.specs.declared.verdict.Verdict.{Verdict}
use Rattle.raid_base.specs.declared.verdict.Verdict.TheVariants as verdicts
use Rattle.raid_base.specs.Names.{is_txn, is_site, has_site}
use Rattle.raid_workload.specs.declared.workload.Workload.{Workload}
use Rattle.raid_workload.specs.declared.workload.Event.{Event}
use Rattle.raid_workload.specs.declared.workload.Switch.{Switch}
use Rattle.raid_workload.specs.Parts.{placement, sites, home}
use Rattle.raid_rules.specs.Entries.{wait_of}
use Rattle.raid_rules.specs.History.{noted, next, ends, is_waiting, stamp, is_running}
use Rattle.raid_rules.specs.Sessions.{owes, turn_owed, holders, is_copy_locked}
use Rattle.raid_rules.specs.Verdicts.{writing}
use Rattle.raid_rules.proofs.Push.{noted_push, owes_push}
use Rattle.raid_rules.proofs.Places.{by_last}
use Rattle.raid_legal.specs.Seen.{up_holders, holds_some, is_locked, is_up, running}
use Rattle.raid_legal.specs.InForce.{verdict, in_force, is_joint, end_due}
use Rattle.raid_legal.specs.Answers.{answer_commit, answered, decided, site_refusal, closes_waits}
use Rattle.raid_legal.specs.Forced.{forced, home_down, switch_off, switch_end, switch_on, woken}
use Rattle.raid_legal.specs.Legal.{Legal, Allowed, Comes, Free, due}
use Rattle.raid_legal.proofs.Push.{legal_push}
use Rattle.raid_serial.proofs.Facts.{some_is, map_some, if_some, first_mapped, sort}
use Rattle.raid_steps.specs.Fits.{knows_site}
use Rattle.raid_steps.proofs.Parts.{all_filtered, sites_known, events_known, holders_known}
use Rattle.raid_faillock.specs.Stands.{names_sites}
use Rattle.raid_legal.proofs.Left.{Compels, forced_compels}

-- a site that all of these are is one
all_site : (w : Workload) (ss : List Site) (s : Site) → list_all (knows_site w) ss ≡ true → has_site ss s ≡ true → knows_site w s ≡ true
all_site w [] s all h = absurd (true≢false (sym h))
all_site w (r ∷ rs) s all h = grind (arith, common_steps, all, h, all_site w rs s)

-- no event is of another site than the workload's
none_due : (w : Workload) (stop : Bool) (s : Site) (k : ℕ) (es : List Event) → knows_site w s ≡ false → list_all (λ (e : Event). knows_site w e.site) es ≡ true →
    count_by (λ (e : Event). is_site s e.site && (if e.stop then stop else not stop) && nat_le e.trigger k) es ≡ 0
none_due w stop s k [] other all = refl
none_due w stop s k (e ∷ es) other all = grind (arith, common_steps, other, all, none_due w stop s k es other)

pub due_known : (w : Workload) (p : List Noted) (stop : Bool) (s : Site) (k : ℕ) → nat_lt k (due w p stop s) ≡ true → knows_site w s ≡ true
due_known w p stop s k some = elim (cases_true (knows_site w s)) [
  | inl q ↦ q
  | inr q ↦ absurd (true≢false (sym some ∙ ap (nat_lt k) (none_due w stop s (ends p) w.events q (events_known w)) ∙ (let e : nat_lt k 0 ≡ false = grind arith in e)))
]

pub locked_known : (w : Workload) (p : List Noted) (s : Site) (x : Item) → is_locked w p s x ≡ true → knows_site w s ≡ true
locked_known w p s x h = all_site w (holders (placement w) x) s (holders_known w x) (and_parts (has_site (holders (placement w) x) s) (is_copy_locked p s x) h).0

holders_up : (w : Workload) (p : List Noted) (request : Request) → list_all (knows_site w) (up_holders w p request.writes) ≡ true
holders_up w p request = all_filtered (knows_site w) (λ s. is_up w p s && holds_some w request.writes s) (sites w) (sites_known w)

applied_of : (t u : Txn) (a b : Request) (ss rs : List Site) → Commit t a ss ≡ Commit u b rs → ss ≡ rs
applied_of t u a b ss rs e = cc e

waits_known : (w : Workload) (p : List Noted) (t : Txn) (request : Request) (e : Entry) (a b : Bool) → (if a then None else if b then Some (Abort t causes.Deadlock (acts.Commit request)) else Some (Wait t request)) ≡ Some e →
    (u : Txn) (r : Request) (applied : List Site) → e ≡ Commit u r applied → list_all (knows_site w) applied ≡ true
waits_known w p t request e true b q u r applied is = absurd (cc q)
waits_known w p t request e false true q u r applied is = absurd (cc (q, is))
waits_known w p t request e false false q u r applied is = absurd (cc (q, is))

decided_known : (w : Workload) (p : List Noted) (t : Txn) (request : Request) (v : Verdict) (e : Entry) → decided w p t request v ≡ Some e →
    (u : Txn) (r : Request) (applied : List Site) → e ≡ Commit u r applied → list_all (knows_site w) applied ≡ true
decided_known w p t request (verdicts.Reject why) e q u r applied is = absurd (cc (q, is))
decided_known w p t request verdicts.Grant e q u r applied is =
    let same : Commit t request (up_holders w p request.writes) ≡ e = some_is _ _ q in
    subst (λ ss. list_all (knows_site w) ss ≡ true) (applied_of t u request r (up_holders w p request.writes) applied (same ∙ is)) (holders_up w p request)
decided_known w p t request verdicts.Wait e q u r applied is = waits_known w p t request e (is_waiting p t) (closes_waits w p t request) q u r applied is

answered_known : (w : Workload) (p : List Noted) (t : Txn) (request : Request) (o : Option Cause) (e : Entry) → answered w p t request o ≡ Some e →
    (u : Txn) (r : Request) (applied : List Site) → e ≡ Commit u r applied → list_all (knows_site w) applied ≡ true
answered_known w p t request (Some why) e q u r applied is = absurd (cc (q, is))
answered_known w p t request None e q u r applied is = decided_known w p t request (verdict w p (writing t (stamp p t) request.writes)) e q u r applied is

commit_known : (w : Workload) (p : List Noted) (e : Entry) → Allowed w p e → (u : Txn) (r : Request) (applied : List Site) → e ≡ Commit u r applied → list_all (knows_site w) applied ≡ true
commit_known w p e a u r applied is = elim (sort w p (home_down w p) (switch_off p (in_force w p)) (switch_end w p (in_force w p)) (switch_on w p (in_force w p)) (woken w p) e a) [
  | inl q ↦ (let m = map_some _ (find (λ t. not (is_up w p (home w t))) (running w p)) e q in absurd (cc (m.2, is)))
  | inr (inl q) ↦ (let m = map_some _ (find (is_running p) (in_force w p).off) e q in absurd (cc (m.2, is)))
  | inr (inr (n, inl q)) ↦ (let m = if_some (end_due w p) _ e q in absurd (cc (m.1, is)))
  | inr (inr (n, inr (inl q))) ↦ on (slice_get w.switches (in_force w p).switches) q
  | inr (inr (n, inr (inr (inl q)))) ↦ (let m = first_mapped (λ (z : Txn × Request). answer_commit w p z.0 z.1) (λ z. is_running p z.0) (filter_map (λ n. wait_of n.entry) p) e q in
      answered_known w p (m.0).0 (m.0).1 (site_refusal w p (m.0).1) e m.2 u r applied is)
  | inr (inr (n, inr (inr (inr q)))) ↦ free (subst (Free w p) is q)
]
  where
    on : (o : Option Switch) → option_and_then (λ (s : Switch). if nat_le s.trigger (ends p) && not (is_joint (in_force w p)) then Some (SwitchOn ((in_force w p).switches + 1) s.kind s.method) else None) o ≡ Some e → list_all (knows_site w) applied ≡ true
    on None q = absurd (cc q)
    on (Some s) q = let m = if_some (nat_le s.trigger (ends p) && not (is_joint (in_force w p))) _ e q in absurd (cc (m.1, is))

    free : Free w p (Commit u r applied) → list_all (knows_site w) applied ≡ true
    free f = answered_known w p u r (site_refusal w p r) (Commit u r applied) f.1 u r applied refl

-- so only sites of the workload owe acknowledgements
owed_more : (w : Workload) (s : Site) (t : Txn) (e : Entry) (owed : Bool) → ((u : Txn) (r : Request) (applied : List Site) → e ≡ Commit u r applied → list_all (knows_site w) applied ≡ true) → (owed ≡ true → knows_site w s ≡ true) →
    turn_owed s t owed e ≡ true → knows_site w s ≡ true
owed_more w s t (Commit u r applied) owed known before h = elim (cases_true owed) [
  | inl q ↦ before q
  | inr q ↦ all_site w applied s (known u r applied refl) (and_parts (is_txn t u) (has_site applied s) (grind (arith, common_steps, q, h))).1
]
owed_more w s t (Ack u r) owed known before h = before (and_parts owed (not (is_txn t u && is_site s r)) h).0
owed_more w s t (Down r) owed known before h = before (and_parts owed (not (is_site s r)) h).0
owed_more w s t other owed known before h = before h

pub owes_known : (w : Workload) (s : Site) (t : Txn) (h : List Entry) → Legal w h → owes (noted h) s t ≡ true → knows_site w s ≡ true
owes_known w s t = by_last (λ h. Legal w h → owes (noted h) s t ≡ true → knows_site w s ≡ true) (λ l o. absurd (true≢false (sym o))) more
  where
    more : (h : List Entry) (e : Entry) → (Legal w h → owes (noted h) s t ≡ true → knows_site w s ≡ true) → Legal w (h ++ e ∷ []) → owes (noted (h ++ e ∷ [])) s t ≡ true → knows_site w s ≡ true
    more h e rest l o =
        let q = (legal_push w h e).0 l in
        owed_more w s t e (owes (noted h) s t) (commit_known w (noted h) e q.1) (rest q.0)
        (sym (ap (λ p. owes p s t) (noted_push h e) ∙ owes_push (noted h) (next (noted h) e) s t) ∙ o)

-- a forced entry names no site
compels_names : (w : Workload) (p : List Noted) (e : Entry) → Compels w p e → names_sites w.sites e ≡ true
compels_names w p (Abort t cause act) c = refl
compels_names w p (Commit t request applied) c = refl
compels_names w p (SwitchOn k kind method) c = refl
compels_names w p (SwitchEnd k) c = refl
compels_names w p other c = absurd c

-- and an entry that is allowed names no other
pub allowed_names : (w : Workload) (h : List Entry) (e : Entry) → Legal w h → Allowed w (noted h) e → names_sites w.sites e ≡ true
allowed_names w h e l a = go (forced w (noted h)) refl a
  where
    free : (e : Entry) → Free w (noted h) e → names_sites w.sites e ≡ true
    free (Ack t s) f = owes_known w s t h l f
    free (Down s) f = due_known w (noted h) true s _ (and_parts _ _ f).1
    free (Up s session) f = due_known w (noted h) false s _ (and_parts _ _ f).1
    free (Clear s x v) f = locked_known w (noted h) s x (and_parts _ _ (and_parts _ _ f).0).1
    free other f = refl

    go : (o : Option Entry) → forced w (noted h) ≡ o → Comes w (noted h) e o → names_sites w.sites e ≡ true
    go (Some must) q c = compels_names w (noted h) e (forced_compels w (noted h) e (q ∙ ap Some (sym c)))
    go None q c = free e c
