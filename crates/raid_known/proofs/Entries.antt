-- Each entry that the sequencer places names only items and sites of the workload.
use Rattle.std.proofs.Common.{◌≡◌, ℕ, zero, suc, ◌+◌, ◌-◌, ◌<◌, ◌≤◌, nat_le, nat_lt, Bool, true, false, not, ◌&&◌, List, [], ◌∷◌, ◌++◌, length, map, filter, fold, replicate, Option, Some, None, if◌then◌else◌, arith, sym, ap, subst, ◌∙◌, refl}
use Rattle.std.specs.Prelude.{⊤, slice_get, slice_index, option_map, option_and_then}
use Rattle.std.specs.List.{AllByRecursion, cons_option, filter_map}
use Rattle.std.proofs.lemmas.Bool.{and_parts, true≢false}
use Rattle.std.proofs.lemmas.Grind.{common_steps}
use Rattle.raid_base.specs.declared.names.Txn.{Txn}
use Rattle.raid_base.specs.declared.names.Item.{Item}
use Rattle.raid_base.specs.declared.names.Site.{Site}
use Rattle.raid_base.specs.declared.request.Request.{Request}
use Rattle.raid_base.specs.declared.entry.Act.TheVariants as acts
use Rattle.raid_base.specs.declared.entry.Cause.TheVariants as causes
use Rattle.raid_base.specs.declared.entry.Entry.{Entry}
use Rattle.raid_base.specs.declared.entry.Entry.TheVariants.{Begin, Read, Wait, Commit, Abort, Ack, SwitchOn, SwitchEnd, Down, Up, Clear}
use Rattle.raid_base.specs.declared.entry.Noted.{Noted}
use Rattle.raid_base.specs.declared.verdict.Refusal.{Refusal}
use Rattle.raid_base.specs.declared.verdict.Refusal.TheVariants as refusals
use Rattle.raid_base.specs.declared.verdict.Verdict.{Verdict}
use Rattle.raid_base.specs.declared.verdict.Verdict.TheVariants as verdicts
use Rattle.raid_base.specs.Names.{has_site}
use Rattle.raid_base.specs.Sites.{site, session, all_sites}
use Rattle.raid_workload.specs.declared.workload.Workload.{Workload}
use Rattle.raid_workload.specs.declared.workload.Switch.{Switch}
use Rattle.raid_workload.specs.Parts.{sites, home, count_from, placement}
use Rattle.raid_rules.specs.Entries.{wait_of}
use Rattle.raid_rules.specs.History.{noted, ends, is_waiting, waiting, stamp}
use Rattle.raid_rules.specs.Sessions as rules
use Rattle.raid_rules.proofs.Places.{noted_entries}
use Rattle.raid_rules.specs.Verdicts.{reading, writing}
use Rattle.raid_legal.specs.Seen.{vector, is_up, sources}
use Rattle.raid_legal.specs.InForce.{InForce, in_force, is_joint, end_due, verdict}
use Rattle.raid_legal.specs.Answers.{served, answer_read, answer_commit, answered, decided, closes_waits, cause_of, has_no_holder, is_stale}
use Rattle.raid_legal.specs.Forced.{forced, home_down, switch_off, switch_end, switch_on, woken, earliest}
use Rattle.raid_report.specs.Known.{KnowsSite, KnowsItem, KnowsRequest}
use Rattle.raid_known.specs.Rest.{Rest}

pub all_push : {X : Type 0} (P : X → Type 0) (xs : List X) (x : X) → AllByRecursion P xs → P x → AllByRecursion P (xs ++ x ∷ [])
all_push P [] x a h = (h, tt)
all_push P (y ∷ ys) x a h = (a.0, all_push P ys x a.1 h)

pub all_filter : {X : Type 0} (P : X → Type 0) (test : X → Bool) (xs : List X) → AllByRecursion P xs → AllByRecursion P (filter test xs)
all_filter P test [] a = tt
all_filter P test (x ∷ xs) a = go (test x) (all_filter P test xs a.1)
  where
    go : (b : Bool) → AllByRecursion P (filter test xs) → AllByRecursion P (if b then x ∷ filter test xs else filter test xs)
    go true rest = (a.0, rest)
    go false rest = rest

length_turn : (v : List ℕ) (e : Entry) → length (rules.turn_vector v e) ≡ length v
length_turn v (Begin t home) = refl
length_turn v (Read t y site) = refl
length_turn v (Wait t request) = refl
length_turn v (Commit t request applied) = refl
length_turn v (Abort t cause act) = refl
length_turn v (Ack t site) = refl
length_turn v (SwitchOn k kind method) = refl
length_turn v (SwitchEnd k) = refl
length_turn v (Down site) = grind (arith, common_steps)
length_turn v (Up site session) = grind (arith, common_steps)
length_turn v (Clear site y version) = refl

length_after : (v : List ℕ) (p : List Noted) → length (fold (λ v n. rules.turn_vector v n.entry) v p) ≡ length v
length_after v [] = refl
length_after v (n ∷ p) = length_after (rules.turn_vector v n.entry) p ∙ length_turn v n.entry

ones : (n : ℕ) → length {A = ℕ} (replicate n 1) ≡ n
ones zero = refl
ones (suc n) = ap suc (ones n)

module _ (w : Workload) where
  long : (p : List Noted) → length (vector w p) ≡ w.sites
  long p = length_after (replicate w.sites 1) p ∙ ones w.sites

  abbrev pub Opt : Option Entry → Type 0
  Opt None = ⊤
  Opt (Some e) = Rest w e

  -- the sites of the workload
  counted : (a n : ℕ) → 1 ≤ a → a + n ≤ w.sites + 1 → AllByRecursion (KnowsSite w) (map site (count_from a n))
  counted a zero least most = tt
  counted a (suc n) least most = (record { first = least; last = omega (arith, most) }, counted (a + 1) n (omega arith) (omega (arith, most)))

  all_known : AllByRecursion (KnowsSite w) (sites w)
  all_known = counted 1 w.sites (omega arith) (omega arith)

  up_known : (p : List Noted) (s : Site) → 1 ≤ s.0 → is_up w p s ≡ true → KnowsSite w s
  up_known p s least up = record { first = least; last = go (vector w p) (s.0 - 1) (long p) up refl }
    where
      within : (v : List ℕ) (k : ℕ) → nat_lt 0 (slice_index v k) ≡ true → k < length v
      within [] k q = absurd (true≢false (sym q))
      within (x ∷ xs) zero q = omega arith
      within (x ∷ xs) (suc k) q = let h : k < length xs = within xs k q in omega (arith, h)

      go : (v : List ℕ) (k : ℕ) → length v ≡ w.sites → nat_lt 0 (slice_index v k) ≡ true → k ≡ s.0 - 1 → s.0 ≤ w.sites
      go v k l q e = let h : k < length v = within v k q in omega (arith, h, l, e, least)

  -- the sources of an item
  source_known : (p : List Noted) (x : Item) (s : Site) → 1 ≤ s.0 → rules.is_source w.sites (placement w) p x s ≡ true → KnowsSite w s
  source_known p x s least q =
      let both = and_parts (has_site (rules.holders (placement w) x) s && is_up w p s) (not (rules.is_copy_locked p s x)) q in
      up_known p s least (and_parts (has_site (rules.holders (placement w) x) s) (is_up w p s) both.0).1

  sources_known : (p : List Noted) (x : Item) (ss : List Site) → AllByRecursion (λ (s : Site). 1 ≤ s.0) ss → AllByRecursion (KnowsSite w) (filter (rules.is_source w.sites (placement w) p x) ss)
  sources_known p x [] a = tt
  sources_known p x (s ∷ ss) a = go (rules.is_source w.sites (placement w) p x s) refl (sources_known p x ss a.1)
    where
      go : (b : Bool) → rules.is_source w.sites (placement w) p x s ≡ b → AllByRecursion (KnowsSite w) (filter (rules.is_source w.sites (placement w) p x) ss) →
          AllByRecursion (KnowsSite w) (if b then s ∷ filter (rules.is_source w.sites (placement w) p x) ss else filter (rules.is_source w.sites (placement w) p x) ss)
      go true q rest = (source_known p x s a.0 q, rest)
      go false q rest = rest

  abbrev OptSite : Option Site → Type 0
  OptSite None = ⊤
  OptSite (Some s) = KnowsSite w s

  front_known : (ss : List Site) → AllByRecursion (KnowsSite w) ss → OptSite (slice_get ss 0)
  front_known [] a = tt
  front_known (s ∷ ss) a = a.0

  from_known : (ss : List Site) (h : Site) → AllByRecursion (KnowsSite w) ss → KnowsSite w h → OptSite (rules.source_for ss h)
  from_known ss h a k = go (has_site ss h)
    where
      go : (b : Bool) → OptSite (if b then Some h else slice_get ss 0)
      go true = k
      go false = front_known ss a

  -- the answer to a read
  refused_read : (t : Txn) (x : Item) (why : Refusal) → KnowsItem w x → Rest w (Abort t (cause_of why) (acts.Read x))
  refused_read t x refusals.Late k = k
  refused_read t x refusals.Invalid k = k
  refused_read t x refusals.Cycle k = k

  served_rest : (t : Txn) (x : Item) (o : Option Site) (v : Verdict) → KnowsItem w x → OptSite o → Rest w (served t x o v)
  served_rest t x None v k h = k
  served_rest t x (Some s) (verdicts.Reject why) k h = refused_read t x why k
  served_rest t x (Some s) verdicts.Wait k h = (k, h)
  served_rest t x (Some s) verdicts.Grant k h = (k, h)

  firsts : AllByRecursion (λ (s : Site). 1 ≤ s.0) all_sites
  firsts = (omega arith, (omega arith, (omega arith, (omega arith, (omega arith, (omega arith, (omega arith, (omega arith, tt))))))))

  pub read_rest : (p : List Noted) (t : Txn) (x : Item) → KnowsItem w x → KnowsSite w (home w t) → Rest w (answer_read w p t x)
  read_rest p t x k h = served_rest t x (rules.source_for (sources w p x) (home w t)) (verdict w p (reading t (stamp p t) x)) k (from_known (sources w p x) (home w t) (sources_known p x all_sites firsts) h)

  -- the answer to a commit
  refused_commit : (t : Txn) (r : Request) (why : Refusal) → KnowsRequest w r → Rest w (Abort t (cause_of why) (acts.Commit r))
  refused_commit t r refusals.Late k = k
  refused_commit t r refusals.Invalid k = k
  refused_commit t r refusals.Cycle k = k

  decided_rest : (p : List Noted) (t : Txn) (r : Request) (v : Verdict) → KnowsRequest w r → Opt (decided w p t r v)
  decided_rest p t r (verdicts.Reject why) k = refused_commit t r why k
  decided_rest p t r verdicts.Grant k = (k, all_filter (KnowsSite w) _ (sites w) all_known)
  decided_rest p t r verdicts.Wait k = go (is_waiting p t) (closes_waits w p t r)
    where
      go : (a b : Bool) → Opt (if a then None else if b then Some (Abort t causes.Deadlock (acts.Commit r)) else Some (Wait t r))
      go true b = tt
      go false true = k
      go false false = k

  pub commit_rest : (p : List Noted) (t : Txn) (r : Request) → KnowsRequest w r → Opt (answer_commit w p t r)
  commit_rest p t r k = go (has_no_holder w p r) (is_stale w p r)
    where
      go : (a b : Bool) → Opt (answered w p t r (if a then Some causes.NoCopy else if b then Some (causes.Stale (vector w p)) else None))
      go true b = k
      go false true = (long p, k)
      go false false = decided_rest p t r (verdict w p (writing t (stamp p t) r.writes)) k

  -- what waits stood in a Wait
  abbrev Waits : List (Txn × Request) → Type 0
  Waits rs = AllByRecursion (λ (r : Txn × Request). KnowsRequest w r.1) rs

  waits_in : (p : List Noted) → AllByRecursion (Rest w) (map (λ n. n.entry) p) → Waits (filter_map (λ n. wait_of n.entry) p)
  waits_in [] a = tt
  waits_in (n ∷ p) a = go n.entry a.0 (waits_in p a.1)
    where
      go : (e : Entry) → Rest w e → Waits (filter_map (λ n. wait_of n.entry) p) → Waits (cons_option (wait_of e) (filter_map (λ n. wait_of n.entry) p))
      go (Wait t r) h rest = (h, rest)
      go (Begin t s) h rest = rest
      go (Read t x s) h rest = rest
      go (Commit t r applied) h rest = rest
      go (Abort t cause act) h rest = rest
      go (Ack t s) h rest = rest
      go (SwitchOn k kind method) h rest = rest
      go (SwitchEnd k) h rest = rest
      go (Down s) h rest = rest
      go (Up s session) h rest = rest
      go (Clear s x version) h rest = rest

  woken_rest : (p : List Noted) (rs : List (Txn × Request)) → Waits rs → Opt (slice_get (filter_map (λ (r : Txn × Request). answer_commit w p r.0 r.1) rs) 0)
  woken_rest p [] a = tt
  woken_rest p (r ∷ rs) a = go (answer_commit w p r.0 r.1) (commit_rest p r.0 r.1 a.0) (woken_rest p rs a.1)
    where
      go : (o : Option Entry) → Opt o → Opt (slice_get (filter_map (λ (r : Txn × Request). answer_commit w p r.0 r.1) rs) 0) → Opt (slice_get (cons_option o (filter_map (λ (r : Txn × Request). answer_commit w p r.0 r.1) rs)) 0)
      go None h rest = rest
      go (Some e) h rest = h

  first_rest : (a b c d e : Option Entry) → Opt a → Opt b → Opt c → Opt d → Opt e → Opt (earliest (a ∷ b ∷ c ∷ d ∷ e ∷ []))
  first_rest (Some x) b c d e ha hb hc hd he = ha
  first_rest None (Some x) c d e ha hb hc hd he = hb
  first_rest None None (Some x) d e ha hb hc hd he = hc
  first_rest None None None (Some x) e ha hb hc hd he = hd
  first_rest None None None None (Some x) ha hb hc hd he = he
  first_rest None None None None None ha hb hc hd he = tt

  off_rest : (cause : Txn → Entry) → ((t : Txn) → Rest w (cause t)) → (o : Option Txn) → Opt (option_map cause o)
  off_rest cause h None = tt
  off_rest cause h (Some t) = h t

  on_rest : (p : List Noted) (f : InForce) → Opt (switch_on w p f)
  on_rest p f = go (slice_get w.switches f.switches)
    where
      inner : (s : Switch) (b : Bool) → Opt (if b then Some (SwitchOn (f.switches + 1) s.kind s.method) else None)
      inner s true = tt
      inner s false = tt

      go : (o : Option Switch) → Opt (option_and_then (λ (s : Switch). if nat_le s.trigger (ends p) && not (is_joint f) then Some (SwitchOn (f.switches + 1) s.kind s.method) else None) o)
      go None = tt
      go (Some s) = inner s (nat_le s.trigger (ends p) && not (is_joint f))

  end_rest : (p : List Noted) (f : InForce) → Opt (switch_end w p f)
  end_rest p f = go (end_due w p)
    where
      go : (b : Bool) → Opt (if b then Some (SwitchEnd f.switches) else None)
      go true = tt
      go false = tt

  pub forced_rest : (h : List Entry) → AllByRecursion (Rest w) h → Opt (forced w (noted h))
  forced_rest h a =
      let p = noted h in
      let f = in_force w p in
      first_rest (home_down w p) (switch_off p f) (switch_end w p f) (switch_on w p f) (woken w p)
      (off_rest (λ t. Abort t causes.HomeDown acts.Nothing) (λ t. tt) _) (off_rest (λ t. Abort t (causes.SwitchOff f.switches) acts.Nothing) (λ t. tt) _) (end_rest p f) (on_rest p f)
      (woken_rest p (waiting p) (all_filter (λ (r : Txn × Request). KnowsRequest w r.1) _ _ (waits_in p (subst (AllByRecursion (Rest w)) (sym (noted_entries h)) a))))
