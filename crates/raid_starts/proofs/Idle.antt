-- Where no letter is left and nobody runs, each transaction has begun or needn't.
use Rattle.std.proofs.Common.{◌≡◌, ℕ, zero, suc, ◌+◌, ◌-◌, ◌≤◌, ◌==◌, nat_lt, nat_le, Bool, true, false, not, ◌&&◌, ◌||◌, List, [], ◌∷◌, length, Some, if◌then◌else◌, arith, sym, subst, ap, ◌∙◌, refl}
use Rattle.std.specs.Prelude.{slice_get}
use Rattle.std.specs.List.{AllByRecursion, list_any, list_all}
use Rattle.std.proofs.lemmas.Bool.{and_parts, and_from, true≢false}
use Rattle.std.proofs.lemmas.Grind.{common_steps}
use Rattle.raid_base.specs.declared.names.Txn.{Txn}
use Rattle.raid_base.specs.declared.entry.Noted.{Noted}
use Rattle.raid_base.specs.Names.{is_txn, is_site, has_txn}
use Rattle.raid_base.specs.Sites.{session, site}
use Rattle.raid_workload.specs.declared.workload.Workload.{Workload}
use Rattle.raid_workload.specs.Parts.{txns, home}
use Rattle.raid_workload.specs.Rules.{is_within, are_restarts, are_items, are_switches, are_events, is_homed}
use Rattle.raid_rules.specs.History.{noted, has_begun, has_ended, is_running}
use Rattle.raid_rules.proofs.Txns.{has_kept}
use Rattle.raid_legal.specs.Seen.{running, vector, is_up, attempt, previous, again}
use Rattle.raid_legal.specs.Switched.{is_served}
use Rattle.raid_message.specs.declared.letter.Pick.{Pick}
use Rattle.raid_steps.specs.State.{Running, SiteState}
use Rattle.raid_steps.specs.Fits.{knows_txn}
use Rattle.raid_steps.specs.Programs.{runs_here}
use Rattle.raid_steps.specs.World.{World, link, run, is_idle}
use Rattle.raid_steps.proofs.Parts.{home_known}
use Rattle.raid_sessions.specs.Present.{own_session}
use Rattle.raid_sessions.proofs.Agreed.{run_idle}
use Rattle.raid_sessions.proofs.Lists.{get_known, within, same_self}
use Rattle.raid_sessions.proofs.Reached.{reached}
use Rattle.raid_asks.specs.Own.{IsOf}
use Rattle.raid_asks.specs.Way.{begins_of, is_on_its_way}
use Rattle.raid_asks.proofs.Begins.{run_begun}
use Rattle.raid_asks.proofs.Facts.{or_left, or_right}
use Rattle.raid_asks.proofs.Least.{known_txn}
use Rattle.raid_asks.proofs.Reached.{run_home}
use Rattle.raid_vectors.specs.Vectors.{IsTold}
use Rattle.raid_vectors.proofs.Runs.{idle_link}
use Rattle.raid_starts.specs.Starts.{is_coming, welcomes, retries, is_at_most, FirstAttemptsCome, NextAttemptsCome, EndsCome}

-- at least one program may run at a time
one_together : (w : Workload) → 1 ≤ w.together
one_together w =
    let a = are_restarts w.version w.restarts in
    let b = is_within 1 8 w.sites in
    let c = is_within 1 16 w.together in
    let d = nat_le (length w.items) 1024 in
    let e = are_items w.sites w.items in
    let f = nat_le (length w.switches) 64 in
    let g = are_switches w.structure w.kind 1 w.switches in
    let h = nat_le (length w.events) 64 in
    let i = are_events w.sites [] 1 w.events in
    let j = nat_le (length w.programs) 2000 in
    let k = list_all (is_homed w.sites (length w.items)) w.programs in
    let to_j = (and_parts (a && b && c && d && e && f && g && h && i && j) k w.kept).0 in
    let to_h = (and_parts (a && b && c && d && e && f && g && h) i (and_parts (a && b && c && d && e && f && g && h && i) j to_j).0).0 in
    let to_f = (and_parts (a && b && c && d && e && f) g (and_parts (a && b && c && d && e && f && g) h to_h).0).0 in
    let to_d = (and_parts (a && b && c && d) e (and_parts (a && b && c && d && e) f to_f).0).0 in
    let to_c = (and_parts (a && b && c) d to_d).0 in
    some w.together (and_parts (nat_le 1 w.together) (nat_le w.together 16) (and_parts (a && b) c to_c).1).0
  where
    some : (n : ℕ) → nat_le 1 n ≡ true → 1 ≤ n
    some n q = grind (arith, q)

all_txns : (test : Txn → Bool) (ts : List Txn) → ((t : Txn) → has_txn ts t ≡ true → test t ≡ true) → list_all test ts ≡ true
all_txns test [] each = refl
all_txns test (t ∷ ts) each = and_from (test t) (list_all test ts) (each t (or_left (is_txn t t) (has_txn ts t) (same_self t.0))) (all_txns test ts (λ u h. each u (or_right (is_txn u t) (has_txn ts u) h)))

module _ (w : Workload) (schedule : List Pick) (first : FirstAttemptsCome w (run w schedule)) (later : NextAttemptsCome w (run w schedule)) (ended : EndsCome w (run w schedule)) (idle : is_idle (run w schedule) ≡ true)
    (none : running w (noted (run w schedule).servers.sequencer.history) ≡ []) where
  abbrev state : World
  state = run w schedule

  abbrev p : List Noted
  p = noted (run w schedule).servers.sequencer.history

  -- the home of a transaction that the history has up is up itself, in that session
  record Home (t : Txn) : Type 0 where
    place : ℕ
    own : SiteState
    at : slice_get (run w schedule).servers.sites place ≡ Some own
    told : IsTold w p place own
    of : IsOf w (site (place + 1)) t

  at_home : (t : Txn) → has_txn (txns w) t ≡ true → is_up w p (home w t) ≡ true → Home t
  at_home t known up = record { place = (home w t).0 - 1; own = found.0; at = found.1; told = is_told found.0.up refl; of = (known, ap (λ s. is_site s (home w t)) back ∙ same_self (home w t).0) }
    where
      fits : knows_txn w t ≡ true
      fits = (let low = (known_txn w t known).0 in let high = (known_txn w t known).1 in grind (arith, common_steps, low, high))

      numbered : (1 ≤ (home w t).0) × ((home w t).0 ≤ w.sites)
      numbered = within w.sites (home w t).0 (home_known w t fits)

      found : (s : SiteState) × (slice_get (run w schedule).servers.sites ((home w t).0 - 1) ≡ Some s)
      found = get_known (run w schedule).servers.sites ((home w t).0 - 1) (let low = numbered.0 in let high = numbered.1 in let long = (reached w schedule).long in omega (arith, low, high, long))

      back : site ((home w t).0 - 1 + 1) ≡ home w t
      back = ap site (let low = numbered.0 in let e : (home w t).0 - 1 + 1 ≡ (home w t).0 = omega (arith, low) in e)

      told_is : session (vector w p) (site ((home w t).0 - 1 + 1)) ≡ own_session found.0
      told_is = run_idle w schedule idle ((home w t).0 - 1) found.0 found.1

      positive : (n : ℕ) → nat_lt 0 n ≡ true → 1 ≤ n
      positive n q = grind (arith, q)

      is_told : (u : Bool) → found.0.up ≡ u → IsTold w p ((home w t).0 - 1) found.0
      is_told true q = record { up = q; told = told_is ∙ ap (λ b. if b then found.0.session else 0) q }
      is_told false q = absurd (let zero_is : session (vector w p) (site ((home w t).0 - 1 + 1)) ≡ 0 = told_is ∙ ap (λ b. if b then found.0.session else 0) q in let more = positive (session (vector w p) (site ((home w t).0 - 1 + 1))) (ap (is_up w p) back ∙ up) in omega (arith, zero_is, more))

  -- nobody is at it
  module _ (k : ℕ) (s : SiteState) (at : slice_get (run w schedule).servers.sites k ≡ Some s) (told : IsTold w p k s) where
    asks_none : link (run w schedule).links 1 (k + 2) ≡ []
    asks_none = idle_link state 1 (k + 2) idle

    notes_none : link (run w schedule).links (k + 2) 1 ≡ []
    notes_none = idle_link state (k + 2) 1 idle

    nobody : (rs : List Running) → s.running ≡ rs → rs ≡ []
    nobody [] q = refl
    nobody (r ∷ rs) q = absurd (true≢false (sym (ended k s at told r.txn here over) ∙ ap (is_coming _ s.session) notes_none))
      where
        here : runs_here s r.txn ≡ true
        here = ap (list_any (λ (x : Running). is_txn r.txn x.txn)) q ∙ or_left (is_txn r.txn r.txn) (list_any (λ (x : Running). is_txn r.txn x.txn) rs) (same_self r.txn.0)

        way : is_on_its_way s.session r.txn (link (run w schedule).links 1 (k + 2)) ≡ not (has_begun p r.txn)
        way = (subst (AllByRecursion (λ (r : Running). is_on_its_way s.session r.txn (link (run w schedule).links 1 (k + 2)) ≡ not (has_begun p r.txn))) q (run_begun w schedule k s at)).0

        begun : (b : Bool) → false ≡ not b → b ≡ true
        begun true e = refl
        begun false e = e

        known : has_txn (txns w) r.txn ≡ true
        known = (subst (AllByRecursion (λ (r : Running). IsOf w (site (k + 1)) r.txn)) q (run_home w schedule k s at).own).0.0

        resting : is_running p r.txn ≡ false
        resting = go (is_running p r.txn) (sym (has_kept (is_running p) r.txn (txns w)) ∙ ap (λ ts. has_txn ts r.txn) none)
          where
            go : (b : Bool) → (b && has_txn (txns w) r.txn) ≡ false → b ≡ false
            go true e = absurd (true≢false (sym known ∙ e))
            go false e = refl

        over : has_ended p r.txn ≡ true
        over = go (has_begun p r.txn) (has_ended p r.txn) (begun (has_begun p r.txn) (sym (ap (is_on_its_way s.session r.txn) asks_none) ∙ way)) resting
          where
            go : (a b : Bool) → a ≡ true → (a && not b) ≡ false → b ≡ true
            go a true e q = refl
            go true false e q = absurd (true≢false q)
            go false false e q = absurd (true≢false (sym e))

    no_next : (s.next == 0) ≡ true
    no_next = go (s.next == 0) (nat_le w.together (length s.running)) (ap (λ rs. nat_le w.together (length rs)) (nobody s.running refl) ∙ few w.together (one_together w)) (first k s at told).full
      where
        few : (n : ℕ) → 1 ≤ n → nat_le n 0 ≡ false
        few n q = grind (arith, q)

        go : (a b : Bool) → b ≡ false → (a || b) ≡ true → a ≡ true
        go true b e q = refl
        go false b e q = absurd (true≢false (sym q ∙ e))

  -- a first attempt; a later one
  first_served : (t : Txn) → has_txn (txns w) t ≡ true → attempt w t ≡ 0 → has_begun p t ≡ false → is_up w p (home w t) ≡ true → ⊥
  first_served t known zero_is fresh up = true≢false (sym waits ∙ over s.next (no_next h.place h.own h.at h.told))
    where
      h : Home t
      h = at_home t known up

      s : SiteState
      s = h.own

      waits : (is_coming (welcomes t) s.session [] || has_txn (begins_of s.session []) t || is_at_most s.next t) ≡ true
      waits =
          subst (λ ls. (is_coming (welcomes t) s.session ls || has_txn (begins_of s.session []) t || is_at_most s.next t) ≡ true) (notes_none h.place h.own h.at h.told)
          (subst (λ ls. (is_coming (welcomes t) s.session (link (run w schedule).links (h.place + 2) 1) || has_txn (begins_of s.session ls) t || is_at_most s.next t) ≡ true) (asks_none h.place h.own h.at h.told) ((first h.place h.own h.at h.told).waits t h.of zero_is fresh))

      over : (n : ℕ) → (n == 0) ≡ true → is_at_most n t ≡ false
      over n q = ap (λ b. not b && nat_le n t.0) q

  later_served : (t : Txn) → has_txn (txns w) t ≡ true → again w p t ≡ true → has_begun p t ≡ false → ⊥
  later_served t known due fresh = true≢false (sym waits)
    where
      h : Home t
      h = at_home t known (later.up t due)

      s : SiteState
      s = h.own

      waits : ((is_coming (retries (previous w t)) s.session [] && runs_here s (previous w t)) || has_txn (begins_of s.session []) t) ≡ true
      waits =
          subst (λ ls. ((is_coming (retries (previous w t)) s.session ls && runs_here s (previous w t)) || has_txn (begins_of s.session []) t) ≡ true) (notes_none h.place h.own h.at h.told)
          (subst (λ ls. ((is_coming (retries (previous w t)) s.session (link (run w schedule).links (h.place + 2) 1) && runs_here s (previous w t)) || has_txn (begins_of s.session ls) t) ≡ true) (asks_none h.place h.own h.at h.told) (later.comes h.place h.own h.at h.told t h.of due fresh))

  pub served : list_all (is_served w p) (txns w) ≡ true
  served = all_txns (is_served w p) (txns w) each
    where
      each : (t : Txn) → has_txn (txns w) t ≡ true → is_served w p t ≡ true
      each t known = go (has_begun p t) refl (attempt w t) refl (again w p t) refl (is_up w p (home w t)) refl
        where
          go : (a : Bool) → has_begun p t ≡ a → (n : ℕ) → attempt w t ≡ n → (b : Bool) → again w p t ≡ b → (c : Bool) → is_up w p (home w t) ≡ c → (a || (nat_lt 0 n && not b) || (n == 0 && not c)) ≡ true
          go true begun n count b due c up = refl
          go false begun zero count b due true up = absurd (first_served t known count begun up)
          go false begun zero count b due false up = refl
          go false begun (suc n) count true due c up = absurd (later_served t known due begun)
          go false begun (suc n) count false due c up = later_one n
            where
              later_one : (n : ℕ) → (false || (nat_lt 0 (suc n) && true) || (suc n == 0 && not c)) ≡ true
              later_one n = grind (arith, common_steps)
