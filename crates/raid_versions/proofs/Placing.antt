-- What a placed entry says of copies: a Commit is applied at the up sites that hold what it writes, and a Read is of an unlocked copy.
use Rattle.std.proofs.Common.{◌≡◌, ◌⊎◌, inl, inr, ℕ, ℤ, ◌+◌, ◌==◌, nat_le, Bool, true, false, not, ◌&&◌, ◌||◌, List, [], ◌∷◌, ◌++◌, length, Option, Some, None, if◌then◌else◌, sym, subst, ap, ◌∙◌, refl}
use Rattle.std.specs.Prelude.{⊤, filter_map, slice_get, option_map, option_and_then}
use Rattle.std.specs.List.{cons_option}
use Rattle.std.proofs.lemmas.Bool.{and_parts, and_from, true≢false}
use Rattle.raid_base.specs.declared.names.Txn.{Txn}
use Rattle.raid_base.specs.declared.names.Item.{Item}
use Rattle.raid_base.specs.declared.names.Site.{Site}
use Rattle.raid_base.specs.declared.request.Request.{Request}
use Rattle.raid_base.specs.declared.entry.Act.TheVariants as acts
use Rattle.raid_base.specs.declared.entry.Cause.{Cause}
use Rattle.raid_base.specs.declared.entry.Cause.TheVariants as causes
use Rattle.raid_base.specs.declared.entry.Entry.{Entry}
use Rattle.raid_base.specs.declared.entry.Entry.TheVariants.{Read, Wait, Commit, Abort, SwitchOn, SwitchEnd, Up, Clear}
use Rattle.raid_base.specs.declared.entry.Noted.{Noted}
use Rattle.raid_base.specs.declared.verdict.Verdict.{Verdict}
use Rattle.raid_base.specs.declared.verdict.Verdict.TheVariants as verdicts
use Rattle.raid_base.specs.Names.{is_txn, is_item, has_site, holds}
use Rattle.raid_workload.specs.declared.workload.Workload.{Workload}
use Rattle.raid_workload.specs.declared.workload.Switch.{Switch}
use Rattle.raid_workload.specs.Parts.{sites, home}
use Rattle.raid_rules.specs.Entries.{writes_item}
use Rattle.raid_rules.specs.History.{noted, add, ends, stamp, waiting, is_waiting, has_begun, has_ended, version}
use Rattle.raid_rules.specs.Sessions.{source_for, is_copy_locked}
use Rattle.raid_rules.specs.Verdicts.{writing, reading}
use Rattle.raid_rules.proofs.Places.{by_last}
use Rattle.raid_rules.proofs.Push.{noted_push}
use Rattle.raid_rules.proofs.Sources.{has_kept}
use Rattle.raid_legal.specs.Seen.{is_up, sources, up_holders, holds_some}
use Rattle.raid_legal.specs.InForce.{InForce, in_force, is_joint, end_due, verdict}
use Rattle.raid_legal.specs.Answers.{served, answer_commit, answered, decided, closes_waits, site_refusal}
use Rattle.raid_legal.specs.Forced.{forced, home_down, switch_off, switch_end, switch_on, woken, earliest}
use Rattle.raid_legal.proofs.Left.{forced_compels}
use Rattle.raid_placed.specs.Placed.{Placed, Placeable, Goes}
use Rattle.raid_placed.proofs.Orderly.{placeable_follows}
use Rattle.raid_placed.proofs.Sent.{placed_push}
use Rattle.raid_sessions.proofs.Lists.{not_false, same_self}
use Rattle.raid_asks.proofs.Facts.{or_left, or_right}
use Rattle.raid_letters.specs.Says.{is_held, is_applied}
use Rattle.raid_letters.proofs.Sends.{first_in}
use Rattle.raid_versions.specs.Versions.{was_written_by}
use Rattle.raid_versions.proofs.SiteCopies.{same_item}
use Rattle.raid_versions.proofs.Written.{at_number, at_parts, at_kept, at_last}

module _ (w : Workload) where
  -- a Commit is applied at all up sites that hold what it writes
  module _ (p : List Noted) where
    abbrev IsWhole : Entry → Type 0
    IsWhole (Commit t r applied) = applied ≡ up_holders w p r.writes
    IsWhole other = ⊤

    abbrev IfWhole : Option Entry → Type 0
    IfWhole None = ⊤
    IfWhole (Some e) = IsWhole e

    when : (b : Bool) (e : Entry) → IsWhole e → IfWhole (if b then Some e else None)
    when true e h = h
    when false e h = tt

    answer_whole : (t : Txn) (r : Request) → IfWhole (answer_commit w p t r)
    answer_whole t r = answers (site_refusal w p r)
      where
        waits : (a b : Bool) → IfWhole (if a then None else if b then Some (Abort t causes.Deadlock (acts.Commit r)) else Some (Wait t r))
        waits true b = tt
        waits false true = tt
        waits false false = tt

        decides : (v : Verdict) → IfWhole (decided w p t r v)
        decides (verdicts.Reject why) = tt
        decides verdicts.Grant = refl
        decides verdicts.Wait = waits (is_waiting p t) (closes_waits w p t r)

        answers : (o : Option Cause) → IfWhole (answered w p t r o)
        answers (Some why) = tt
        answers None = decides (verdict w p (writing t (stamp p t) r.writes))

    woken_whole : (rs : List (Txn × Request)) → IfWhole (slice_get (filter_map (λ (r : Txn × Request). answer_commit w p r.0 r.1) rs) 0)
    woken_whole [] = tt
    woken_whole (r ∷ rs) = go (answer_commit w p r.0 r.1) (answer_whole r.0 r.1) (woken_whole rs)
      where
        rest : List Entry
        rest = filter_map (λ (r : Txn × Request). answer_commit w p r.0 r.1) rs

        go : (o : Option Entry) → IfWhole o → IfWhole (slice_get rest 0) → IfWhole (slice_get (cons_option o rest) 0)
        go None h others = others
        go (Some e) h others = h

    first_whole : (a b c d e : Option Entry) → IfWhole a → IfWhole b → IfWhole c → IfWhole d → IfWhole e → IfWhole (earliest (a ∷ b ∷ c ∷ d ∷ e ∷ []))
    first_whole (Some x) b c d e ha hb hc hd he = ha
    first_whole None (Some x) c d e ha hb hc hd he = hb
    first_whole None None (Some x) d e ha hb hc hd he = hc
    first_whole None None None (Some x) e ha hb hc hd he = hd
    first_whole None None None None (Some x) ha hb hc hd he = he
    first_whole None None None None None ha hb hc hd he = tt

    off_whole : (cause : Cause) (o : Option Txn) → IfWhole (option_map (λ t. Abort t cause acts.Nothing) o)
    off_whole cause None = tt
    off_whole cause (Some t) = tt

    on_whole : (f : InForce) (o : Option Switch) → IfWhole (option_and_then (λ (s : Switch). if nat_le s.trigger (ends p) && not (is_joint f) then Some (SwitchOn (f.switches + 1) s.kind s.method) else None) o)
    on_whole f None = tt
    on_whole f (Some s) = when (nat_le s.trigger (ends p) && not (is_joint f)) (SwitchOn (f.switches + 1) s.kind s.method) tt

    forced_whole : IfWhole (forced w p)
    forced_whole =
        let f = in_force w p in
        first_whole (home_down w p) (switch_off p f) (switch_end w p f) (switch_on w p f) (woken w p) (off_whole causes.HomeDown _) (off_whole (causes.SwitchOff f.switches) _)
        (when (end_due w p) (SwitchEnd f.switches) tt) (on_whole f (slice_get w.switches f.switches)) (woken_whole (waiting p))

    pub commit_whole : (t : Txn) (r : Request) (applied : List Site) → Placeable w p (Commit t r applied) → applied ≡ up_holders w p r.writes
    commit_whole t r applied goes = go (forced w p) forced_whole goes
      where
        go : (o : Option Entry) → IfWhole o → Goes w p (Commit t r applied) o → applied ≡ up_holders w p r.writes
        go None h s = subst IfWhole s.1 (answer_whole t r)
        go (Some must) h is = subst IsWhole (sym is) h

    -- whose Commit it is runs
    pub commit_runs : (t : Txn) (r : Request) (applied : List Site) → Placeable w p (Commit t r applied) → has_ended p t ≡ false
    commit_runs t r applied goes = not_false (has_ended p t) (and_parts (has_begun p t) (not (has_ended p t)) (placeable_follows w p (Commit t r applied) goes)).1

    -- a Read is of a source
    pub read_source : (t : Txn) (x : Item) (s : Site) → Placeable w p (Read t x s) → has_site (sources w p x) s ≡ true
    read_source t x s goes = go (forced w p) refl goes
      where
        source_in : (found : List Site) (h : Site) → source_for found h ≡ Some s → has_site found s ≡ true
        source_in found h q = at (has_site found h) refl q
          where
            at : (b : Bool) → has_site found h ≡ b → (if b then Some h else slice_get found 0) ≡ Some s → has_site found s ≡ true
            at true e q = (let same : h ≡ s = cc q in subst (λ z. has_site found z ≡ true) same e)
            at false e q = first_in found s q

        served_site : (o : Option Site) (v : Verdict) → served t x o v ≡ Read t x s → o ≡ Some s
        served_site None v q = cc q
        served_site (Some r) (verdicts.Reject why) q = cc q
        served_site (Some r) verdicts.Wait q = cc q
        served_site (Some r) verdicts.Grant q = cc q

        go : (o : Option Entry) → forced w p ≡ o → Goes w p (Read t x s) o → has_site (sources w p x) s ≡ true
        go None f g = source_in (sources w p x) (home w t) (served_site (source_for (sources w p x) (home w t)) (verdict w p (reading t (stamp p t) x)) g.1)
        go (Some must) f g = absurd (forced_compels w p (Read t x s) (f ∙ ap Some (sym g)))

    -- an Up is of a site that is down, and a Clear of a locked copy, at the last version
    pub up_was_down : (s : Site) (n : ℕ) → Placeable w p (Up s n) → is_up w p s ≡ false
    up_was_down s n goes = go (forced w p) refl goes
      where
        go : (o : Option Entry) → forced w p ≡ o → Goes w p (Up s n) o → is_up w p s ≡ false
        go None f g = g
        go (Some must) f g = absurd (forced_compels w p (Up s n) (f ∙ ap Some (sym g)))

    pub clear_locked : (s : Site) (x : Item) (v : ℕ) → Placeable w p (Clear s x v) → (is_copy_locked p s x ≡ true) × (v ≡ version p x)
    clear_locked s x v goes = go (forced w p) refl goes
      where
        go : (o : Option Entry) → forced w p ≡ o → Goes w p (Clear s x v) o → (is_copy_locked p s x ≡ true) × (v ≡ version p x)
        go None f g = ((and_parts (is_held w s x) (is_copy_locked p s x) g.0).1, g.1)
        go (Some must) f g = absurd (forced_compels w p (Clear s x v) (f ∙ ap Some (sym g)))

    -- the up sites that hold what is written
    pub holder_up : (writes : List (Item × ℤ)) (s : Site) → has_site (up_holders w p writes) s ≡ true → (is_up w p s ≡ true) × (holds_some w writes s ≡ true)
    holder_up writes s here =
        let kept = and_parts (is_up w p s && holds_some w writes s) (has_site (sites w) s) (sym (has_kept (λ s. is_up w p s && holds_some w writes s) s (sites w)) ∙ here) in
        and_parts (is_up w p s) (holds_some w writes s) kept.0

    pub up_holder : (writes : List (Item × ℤ)) (s : Site) → has_site (sites w) s ≡ true → is_up w p s ≡ true → holds_some w writes s ≡ true → has_site (up_holders w p writes) s ≡ true
    up_holder writes s known up some = has_kept (λ s. is_up w p s && holds_some w writes s) s (sites w) ∙ and_from (is_up w p s && holds_some w writes s) (has_site (sites w) s) (and_from (is_up w p s) (holds_some w writes s) up some) known

  -- who holds some written item holds one, and so on
  pub some_held : (writes : List (Item × ℤ)) (s : Site) → holds_some w writes s ≡ true → (x : Item) × ((holds x writes ≡ true) × (is_held w s x ≡ true))
  some_held [] s h = absurd (true≢false (sym h))
  some_held (pair ∷ writes) s h = go (is_held w s pair.0) refl h (some_held writes s)
    where
      go : (b : Bool) → is_held w s pair.0 ≡ b → (b || holds_some w writes s) ≡ true → (holds_some w writes s ≡ true → (x : Item) × ((holds x writes ≡ true) × (is_held w s x ≡ true))) → (x : Item) × ((holds x (pair ∷ writes) ≡ true) × (is_held w s x ≡ true))
      go true q r rest = (pair.0, (or_left (pair.0.0 == pair.0.0) (holds pair.0 writes) (same_self pair.0.0), q))
      go false q r rest = (let more = rest r in (more.0, (or_right (is_item more.0 pair.0) (holds more.0 writes) more.1.0, more.1.1)))

  pub held_some : (writes : List (Item × ℤ)) (s : Site) (x : Item) → holds x writes ≡ true → is_held w s x ≡ true → holds_some w writes s ≡ true
  held_some [] s x h held = absurd (true≢false (sym h))
  held_some (pair ∷ writes) s x h held = go (is_item x pair.0) refl h (λ r. held_some writes s x r held)
    where
      go : (b : Bool) → is_item x pair.0 ≡ b → (b || holds x writes) ≡ true → (holds x writes ≡ true → holds_some w writes s ≡ true) → (is_held w s pair.0 || holds_some w writes s) ≡ true
      go true q r rest = ap (λ c. c || holds_some w writes s) (subst (λ y. is_held w s y ≡ true) (sym (same_item x pair.0 q)) held)
      go false q r rest = or_right (is_held w s pair.0) (holds_some w writes s) (rest r)

  -- a Commit that was applied at a site wrote an item that the site holds
  abbrev pub WroteHeld : List Noted → Txn → Site → ℕ → Type 0
  WroteHeld p t s n = (x : Item) × ((was_written_by p t x n ≡ true) × (is_held w s x ≡ true))

  pub applied_held : (h : List Entry) → Placed w h → (t : Txn) (s : Site) (n : ℕ) → at_number (is_applied t s) (noted h) n ≡ true → WroteHeld (noted h) t s n
  applied_held = by_last (λ h. Placed w h → (t : Txn) (s : Site) (n : ℕ) → at_number (is_applied t s) (noted h) n ≡ true → WroteHeld (noted h) t s n) (λ l t s n q. absurd (true≢false (sym q))) step
    where
      now : (p : List Noted) (e : Entry) → Placeable w p e → (t : Txn) (s : Site) → is_applied t s e ≡ true → (x : Item) × ((writes_item t x e ≡ true) × (is_held w s x ≡ true))
      now p (Commit u r applied) goes t s h =
          let both = and_parts (is_txn t u) (has_site applied s) h in
          let up = holder_up p r.writes s (subst (λ ss. has_site ss s ≡ true) (commit_whole p u r applied goes) both.1) in
          let found = some_held r.writes s up.1 in
          (found.0, (and_from (is_txn t u) (holds found.0 r.writes) both.0 found.1.0, found.1.1))
      now p other goes t s h = absurd (true≢false (sym h))

      step : (h : List Entry) (e : Entry) → (Placed w h → (t : Txn) (s : Site) (n : ℕ) → at_number (is_applied t s) (noted h) n ≡ true → WroteHeld (noted h) t s n) → Placed w (h ++ e ∷ []) →
          (t : Txn) (s : Site) (n : ℕ) → at_number (is_applied t s) (noted (h ++ e ∷ [])) n ≡ true → WroteHeld (noted (h ++ e ∷ [])) t s n
      step h e rest l t s n q =
          subst (λ p. at_number (is_applied t s) p n ≡ true → WroteHeld p t s n) (sym (noted_push h e)) (λ r. go ((placed_push w h e).0 l) (at_parts (is_applied t s) (noted h) e n r)) q
        where
          go : Placed w h × Placeable w (noted h) e → (at_number (is_applied t s) (noted h) n ≡ true) ⊎ ((n ≡ length (noted h) + 1) × (is_applied t s e ≡ true)) → WroteHeld (add (noted h) e) t s n
          go both (inl old) = (let f = rest both.0 t s n old in (f.0, (at_kept (writes_item t f.0) (noted h) e n f.1.0, f.1.1)))
          go both (inr new) = (let f = now (noted h) e both.1 t s new.1 in (f.0, (subst (λ k. was_written_by (add (noted h) e) t f.0 k ≡ true) (sym new.0) (at_last (writes_item t f.0) (noted h) e f.1.0), f.1.1)))
