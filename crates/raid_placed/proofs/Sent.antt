-- A legal history is placed, and what an entry that may be placed says.
use Rattle.std.proofs.Common.{◌≡◌, ◌+◌, ◌↔◌, true, false, not, ◌&&◌, ◌==◌, nat_lt, List, [], ◌∷◌, ◌++◌, sym, subst, refl, Option, Some, None}
use Rattle.std.specs.Prelude.{find}
use Rattle.std.proofs.lemmas.Bool.{and_parts, eqb-true}
use Rattle.raid_base.specs.declared.names.Txn.{Txn}
use Rattle.raid_base.specs.declared.entry.Entry.{Entry}
use Rattle.raid_base.specs.declared.entry.Entry.TheVariants.{Begin, Read, Wait, Commit, Abort, Ack, SwitchOn, SwitchEnd, Down, Up, Clear}
use Rattle.raid_base.specs.declared.entry.Act.{Act}
use Rattle.raid_base.specs.declared.entry.Act.TheVariants as acts
use Rattle.raid_base.specs.declared.entry.Cause.{Cause}
use Rattle.raid_base.specs.declared.entry.Noted.{Noted}
use Rattle.raid_workload.specs.declared.workload.Workload.{Workload}
use Rattle.raid_workload.specs.Parts.{home}
use Rattle.raid_rules.specs.History.{noted, next, add, stamp, is_running, is_waiting, version}
use Rattle.raid_rules.specs.Sessions.{source_for, last_session}
use Rattle.raid_rules.specs.Verdicts.{reading}
use Rattle.raid_rules.proofs.Push.{noted_push}
use Rattle.raid_rules.proofs.Places.{by_last}
use Rattle.raid_legal.specs.Seen.{sources, is_up, is_locked}
use Rattle.raid_legal.specs.InForce.{in_force, verdict}
use Rattle.raid_legal.specs.Forced.{forced, home_down, switch_off, switch_end, switch_on, woken, earliest}
use Rattle.raid_legal.specs.Legal.{Legal, Allowed, Comes, Free, Aborts, EachSeeing, due, ups, is_free}
use Rattle.raid_legal.proofs.Push.{each_push}
use Rattle.raid_serial.proofs.Facts.{Fact, Quiet, fact, served_fact, answer_fact, map_none, not_off}
use Rattle.raid_placed.specs.Placed.{Sent, SentAbort, Goes, Placeable, Placed}

-- what may come may be placed
aborts_sent : (w : Workload) (p : List Noted) (t : Txn) (cause : Cause) (act : Act) → Aborts w p t cause act → SentAbort w p t cause act
aborts_sent w p t cause acts.Nothing a = a
aborts_sent w p t cause (acts.Ended reads) a = a.0
aborts_sent w p t cause (acts.Read x) a = (a.0, a.1)
aborts_sent w p t cause (acts.Commit request) a = (a.0, a.1)

free_sent : (w : Workload) (p : List Noted) (e : Entry) → Free w p e → Sent w p e
free_sent w p (Begin t s) f = f
free_sent w p (Read t x s) f = (f.0, f.1)
free_sent w p (Wait t request) f = (f.0, f.1)
free_sent w p (Commit t request applied) f = (f.0, f.1)
free_sent w p (Abort t cause act) f = aborts_sent w p t cause act f
free_sent w p (Ack t s) f = f
free_sent w p (SwitchOn k kind method) f = f
free_sent w p (SwitchEnd k) f = f
free_sent w p (Down s) f = tt
free_sent w p (Up s session) f = not_off (is_up w p s) (and_parts (not (is_up w p s)) (session == last_session p s + 1) (and_parts (not (is_up w p s) && session == last_session p s + 1) (nat_lt (ups p s) (due w p false s)) f).0).0
free_sent w p (Clear s x v) f =
    let parts = and_parts (is_up w p s && is_locked w p s x) (v == version p x) f in
    ((and_parts (is_up w p s) (is_locked w p s x) parts.0).1, eqb-true v (version p x) parts.1)

comes_goes : (w : Workload) (p : List Noted) (e : Entry) (o : Option Entry) → Comes w p e o → Goes w p e o
comes_goes w p e (Some must) c = c
comes_goes w p e None c = free_sent w p e c

each_placed : (w : Workload) (before ns : List Noted) → EachSeeing (λ p n. Allowed w p n.entry) before ns → EachSeeing (λ p n. Placeable w p n.entry) before ns
each_placed w before [] l = l
each_placed w before (n ∷ ns) l = (comes_goes w before n.entry (forced w before) l.0, each_placed w (before ++ n ∷ []) ns l.1)

pub legal_placed : (w : Workload) (h : List Entry) → Legal w h → Placed w h
legal_placed w h l = each_placed w [] (noted h) l

-- it is placed exactly where it was, and the entry could be placed
pub placed_push : (w : Workload) (h : List Entry) (e : Entry) → Placed w (h ++ e ∷ []) ↔ (Placed w h × Placeable w (noted h) e)
placed_push w h e = subst (λ p. EachSeeing (λ q n. Placeable w q n.entry) [] p ↔ (Placed w h × Placeable w (noted h) e)) (sym (noted_push h e)) (each_push (λ q n. Placeable w q n.entry) (noted h) (next (noted h) e))

-- where nothing is forced, nobody is left to be aborted for a switch
second_none : (a b c d g : Option Entry) → earliest (a ∷ b ∷ c ∷ d ∷ g ∷ []) ≡ None → b ≡ None
second_none None None c d g q = refl
second_none None (Some e) c d g q = absurd (cc q)
second_none (Some e) b c d g q = absurd (cc q)

pub unforced_quiet : (w : Workload) (p : List Noted) → forced w p ≡ None → Quiet w p
unforced_quiet w p q = map_none _ (find (is_running p) (in_force w p).off) (second_none (home_down w p) (switch_off p (in_force w p)) (switch_end w p (in_force w p)) (switch_on w p (in_force w p)) (woken w p) q)

free_runs : (p : List Noted) (t : Txn) → is_free p t ≡ true → is_running p t ≡ true
free_runs p t f = (and_parts (is_running p t) (not (is_waiting p t)) f).0

-- the facts that a step of a legal history is proved by hold of each placed entry
sent_aborts : (w : Workload) (p : List Noted) (t : Txn) (cause : Cause) (act : Act) → SentAbort w p t cause act → is_running p t ≡ true
sent_aborts w p t cause acts.Nothing a = absurd a
sent_aborts w p t cause (acts.Ended reads) a = free_runs p t a
sent_aborts w p t cause (acts.Read x) a = free_runs p t a.0
sent_aborts w p t cause (acts.Commit request) a = free_runs p t a.0

module _ (w : Workload) (p : List Noted) where
  sent_fact : (e : Entry) → forced w p ≡ None → Sent w p e → Fact w p e
  sent_fact (Begin t s) none f = fact w p (Begin t s) (subst (Comes w p (Begin t s)) (sym none) f)
  sent_fact (Read t x s) none f = subst (Fact w p) f.1 (served_fact w p t x (source_for (sources w p x) (home w t)) (verdict w p (reading t (stamp p t) x)) refl (free_runs p t f.0) (unforced_quiet w p none))
  sent_fact (Wait t request) none f = answer_fact w p t request (Wait t request) (free_runs p t f.0) (unforced_quiet w p none) f.1
  sent_fact (Commit t request applied) none f = answer_fact w p t request (Commit t request applied) (free_runs p t f.0) (unforced_quiet w p none) f.1
  sent_fact (Abort t cause act) none f = sent_aborts w p t cause act f
  sent_fact (Ack t s) none f = f
  sent_fact (SwitchOn k kind method) none f = absurd f
  sent_fact (SwitchEnd k) none f = absurd f
  sent_fact (Down s) none f = tt
  sent_fact (Up s session) none f = tt
  sent_fact (Clear s x v) none f = tt

  goes_fact : (e : Entry) (o : Option Entry) → forced w p ≡ o → Goes w p e o → Fact w p e
  goes_fact e None q g = sent_fact e q g
  goes_fact e (Some must) q g = fact w p e (subst (Comes w p e) (sym q) g)

  pub placed_fact : (e : Entry) → Placeable w p e → Fact w p e
  placed_fact e g = goes_fact e (forced w p) refl g

  pub unforced_placeable : (e : Entry) → forced w p ≡ None → Sent w p e → Placeable w p e
  unforced_placeable e q s = subst (Goes w p e) (sym q) s

  pub forced_placeable : (e : Entry) → forced w p ≡ Some e → Placeable w p e
  forced_placeable e q = subst (Goes w p e) (sym q) refl

-- what holds of the empty history, and is kept by each entry with such facts, holds of every placed history
pub by_facts : (w : Workload) (P : List Noted → Type 0) → P [] → ((h : List Entry) (e : Entry) → Placed w h → P (noted h) → Fact w (noted h) e → P (add (noted h) e)) → (h : List Entry) → Placed w h → P (noted h)
by_facts w P none more = by_last (λ h. Placed w h → P (noted h)) (λ l. none) step
  where
    step : (h : List Entry) (e : Entry) → (Placed w h → P (noted h)) → Placed w (h ++ e ∷ []) → P (noted (h ++ e ∷ []))
    step h e rest l =
        let q = (placed_push w h e).0 l in
        subst P (sym (noted_push h e)) (more h e q.0 (rest q.0) (placed_fact w (noted h) e q.1))
