-- Each entry of a placed history whose Downs and Ups are due pays for what it sends.
use Rattle.std.proofs.Common.{◌≡◌, ◌+◌, nat_lt, nat_le, Bool, true, false, not, ◌&&◌, List, [], ◌∷◌, ◌++◌, find, option_map, Option, Some, None, if◌then◌else◌, sym, subst, ap, ◌∙◌, refl}
use Rattle.std.specs.Prelude.{filter_map, slice_get, option_and_then}
use Rattle.std.specs.List.{cons_option}
use Rattle.std.proofs.lemmas.Bool.{and_parts, true≢false}
use Rattle.raid_base.specs.declared.names.Txn.{Txn}
use Rattle.raid_base.specs.declared.names.Site.{Site}
use Rattle.raid_base.specs.declared.request.Request.{Request}
use Rattle.raid_base.specs.declared.entry.Act.TheVariants as acts
use Rattle.raid_base.specs.declared.entry.Cause.{Cause}
use Rattle.raid_base.specs.declared.entry.Cause.TheVariants as causes
use Rattle.raid_base.specs.declared.entry.Entry.{Entry}
use Rattle.raid_base.specs.declared.entry.Entry.TheVariants.{Wait, Commit, Abort, SwitchOn, SwitchEnd, Down, Up}
use Rattle.raid_base.specs.declared.entry.Noted.{Noted}
use Rattle.raid_base.specs.declared.verdict.Verdict.{Verdict}
use Rattle.raid_base.specs.declared.verdict.Verdict.TheVariants as verdicts
use Rattle.raid_workload.specs.declared.workload.Workload.{Workload}
use Rattle.raid_workload.specs.declared.workload.Switch.{Switch}
use Rattle.raid_workload.specs.Parts.{home}
use Rattle.raid_rules.specs.History.{noted, next, ends, has_begun, has_ended, is_running, is_waiting, waiting, stamp}
use Rattle.raid_rules.specs.Verdicts.{writing}
use Rattle.raid_rules.proofs.Push.{noted_push}
use Rattle.raid_rules.proofs.Places.{by_last}
use Rattle.raid_legal.specs.Seen.{is_up, running, up_holders}
use Rattle.raid_legal.specs.Answers.{answer_commit, answered, decided, closes_waits, site_refusal}
use Rattle.raid_legal.specs.InForce.{in_force, is_joint, end_due, verdict}
use Rattle.raid_legal.specs.Forced.{forced, home_down, switch_off, switch_end, switch_on, woken, earliest}
use Rattle.raid_legal.specs.Legal.{EachSeeing, downs, ups, due}
use Rattle.raid_legal.proofs.Push.{each_push}
use Rattle.raid_placed.specs.Placed.{Goes, Placeable, Placed}
use Rattle.raid_placed.proofs.Sent.{placed_push, placed_fact}
use Rattle.raid_placed.proofs.Orderly.{placed_known}
use Rattle.raid_message.specs.declared.letter.Pick.{Pick}
use Rattle.raid_steps.specs.World.{run}
use Rattle.raid_sessions.proofs.Reached.{reached}
use Rattle.raid_sessions.specs.Due.{IsDue, AreDue}
use Rattle.raid_ends.specs.Placing.{MayEnd, MayPlace, EachMay}
use Rattle.raid_ready.proofs.Due.{more_due}

-- the first of what some answers come to is one of them
first_answer : {X Y : Type 0} (f : X → Option Y) (xs : List X) (y : Y) → slice_get (filter_map f xs) 0 ≡ Some y → (x : X) × (f x ≡ Some y)
first_answer f [] y q = absurd (cc q)
first_answer {X = X} {Y = Y} f (x ∷ xs) y q = go (f x) refl q (first_answer f xs y)
  where
    go : (o : Option Y) → f x ≡ o → slice_get (cons_option o (filter_map f xs)) 0 ≡ Some y → (slice_get (filter_map f xs) 0 ≡ Some y → (x : X) × (f x ≡ Some y)) → (x : X) × (f x ≡ Some y)
    go (Some z) e q rest = (x, e ∙ q)
    go None e q rest = rest q

module _ (w : Workload) (p : List Noted) where
  -- a Commit is applied at the up holders of what it writes, whoever asked for it
  commit_applied : (u t : Txn) (r request : Request) (applied : List Site) → answer_commit w p u r ≡ Some (Commit t request applied) → applied ≡ up_holders w p request.writes
  commit_applied u t r request applied q = go (site_refusal w p r) q
    where
      waits_not : (a b : Bool) → (if a then None else if b then Some (Abort u causes.Deadlock (acts.Commit r)) else Some (Wait u r)) ≡ Some (Commit t request applied) → applied ≡ up_holders w p request.writes
      waits_not true b q = absurd (cc q)
      waits_not false true q = absurd (cc q)
      waits_not false false q = absurd (cc q)

      decides : (v : Verdict) → decided w p u r v ≡ Some (Commit t request applied) → applied ≡ up_holders w p request.writes
      decides (verdicts.Reject why) q = absurd (cc q)
      decides verdicts.Grant q =
          let same : request ≡ r = cc q in
          let where_applied : applied ≡ up_holders w p r.writes = cc q in
          where_applied ∙ ap (λ (r : Request). up_holders w p r.writes) (sym same)
      decides verdicts.Wait q = waits_not (is_waiting p u) (closes_waits w p u r) q

      go : (o : Option Cause) → answered w p u r o ≡ Some (Commit t request applied) → applied ≡ up_holders w p request.writes
      go (Some why) q = absurd (cc q)
      go None q = decides (verdict w p (writing u (stamp p u) r.writes)) q

  -- a forced Commit is the answer to a request that waits
  forced_applied : (t : Txn) (request : Request) (applied : List Site) → forced w p ≡ Some (Commit t request applied) → applied ≡ up_holders w p request.writes
  forced_applied t request applied q = sorted (home_down w p) (switch_off p (in_force w p)) (switch_end w p (in_force w p)) (switch_on w p (in_force w p)) (woken w p) refl refl refl refl refl q
    where
      no_home : home_down w p ≡ Some (Commit t request applied) → ⊥
      no_home q = go (find (λ t. not (is_up w p (home w t))) (running w p)) q
        where
          go : (o : Option Txn) → option_map (λ t. Abort t causes.HomeDown acts.Nothing) o ≡ Some (Commit t request applied) → ⊥
          go (Some u) q = cc q
          go None q = cc q

      no_off : switch_off p (in_force w p) ≡ Some (Commit t request applied) → ⊥
      no_off q = go (find (is_running p) (in_force w p).off) q
        where
          go : (o : Option Txn) → option_map (λ t. Abort t (causes.SwitchOff (in_force w p).switches) acts.Nothing) o ≡ Some (Commit t request applied) → ⊥
          go (Some u) q = cc q
          go None q = cc q

      no_end : switch_end w p (in_force w p) ≡ Some (Commit t request applied) → ⊥
      no_end q = go (end_due w p) q
        where
          go : (b : Bool) → (if b then Some (SwitchEnd (in_force w p).switches) else None) ≡ Some (Commit t request applied) → ⊥
          go true q = cc q
          go false q = cc q

      no_on : switch_on w p (in_force w p) ≡ Some (Commit t request applied) → ⊥
      no_on q = go (slice_get w.switches (in_force w p).switches) q
        where
          one : (s : Switch) (b : Bool) → (if b then Some (SwitchOn ((in_force w p).switches + 1) s.kind s.method) else None) ≡ Some (Commit t request applied) → ⊥
          one s true q = cc q
          one s false q = cc q

          go : (o : Option Switch) → option_and_then (λ (s : Switch). if nat_le s.trigger (ends p) && not (is_joint (in_force w p)) then Some (SwitchOn ((in_force w p).switches + 1) s.kind s.method) else None) o ≡ Some (Commit t request applied) → ⊥
          go (Some s) q = one s (nat_le s.trigger (ends p) && not (is_joint (in_force w p))) q
          go None q = cc q

      yes : woken w p ≡ Some (Commit t request applied) → applied ≡ up_holders w p request.writes
      yes q = let found = first_answer (λ (r : Txn × Request). answer_commit w p r.0 r.1) (waiting p) (Commit t request applied) q in commit_applied (found.0).0 t (found.0).1 request applied found.1

      sorted : (a b c d g : Option Entry) → home_down w p ≡ a → switch_off p (in_force w p) ≡ b → switch_end w p (in_force w p) ≡ c → switch_on w p (in_force w p) ≡ d → woken w p ≡ g →
          earliest (a ∷ b ∷ c ∷ d ∷ g ∷ []) ≡ Some (Commit t request applied) → applied ≡ up_holders w p request.writes
      sorted (Some m) b c d g ea eb ec ed eg q = absurd (no_home (ea ∙ q))
      sorted None (Some m) c d g ea eb ec ed eg q = absurd (no_off (eb ∙ q))
      sorted None None (Some m) d g ea eb ec ed eg q = absurd (no_end (ec ∙ q))
      sorted None None None (Some m) g ea eb ec ed eg q = absurd (no_on (ed ∙ q))
      sorted None None None None (Some m) ea eb ec ed eg q = yes (eg ∙ q)
      sorted None None None None None ea eb ec ed eg q = absurd (cc q)

  placed_applied : (t : Txn) (request : Request) (applied : List Site) → Placeable w p (Commit t request applied) → applied ≡ up_holders w p request.writes
  placed_applied t request applied g = go (forced w p) refl g
    where
      go : (o : Option Entry) → forced w p ≡ o → Goes w p (Commit t request applied) o → applied ≡ up_holders w p request.writes
      go (Some must) q g = forced_applied t request applied (q ∙ ap Some (sym g))
      go None q g = commit_applied t t request request applied g.1

module _ (w : Workload) where
  may_end : (h : List Entry) (t : Txn) → Placed w h → is_running (noted h) t ≡ true → MayEnd w (noted h) t
  may_end h t l runs =
      let parts = and_parts (has_begun (noted h) t) (not (has_ended (noted h) t)) runs in
      (placed_known w h l t parts.0, untrue (has_ended (noted h) t) parts.1)
    where
      untrue : (b : Bool) → not b ≡ true → b ≡ false
      untrue false q = refl
      untrue true q = absurd (true≢false (sym q))

  may : (h : List Entry) (e : Entry) → Placed w h → Placeable w (noted h) e → IsDue w (noted h) e → MayPlace w (noted h) e
  may h (Commit t request applied) l g d = (may_end h t l (placed_fact w (noted h) (Commit t request applied) g).0, placed_applied w (noted h) t request applied g)
  may h (Abort t cause act) l g d = may_end h t l (placed_fact w (noted h) (Abort t cause act) g)
  may h (Down s) l g d = more_due w (noted h) true s (downs (noted h) s) (and_parts (is_up w (noted h) s) (nat_lt (downs (noted h) s) (due w (noted h) true s)) d).1
  may h (Up s n) l g d = more_due w (noted h) false s (ups (noted h) s) (last _ (nat_lt (ups (noted h) s) (due w (noted h) false s)) d)
    where
      last : (a b : Bool) → (a && b) ≡ true → b ≡ true
      last a b q = (and_parts a b q).1
  may h e l g d = tt

  pub each_may : (h : List Entry) → Placed w h → AreDue w h → EachMay w h
  each_may = by_last (λ h. Placed w h → AreDue w h → EachMay w h) (λ l d. tt) step
    where
      step : (h : List Entry) (e : Entry) → (Placed w h → AreDue w h → EachMay w h) → Placed w (h ++ e ∷ []) → AreDue w (h ++ e ∷ []) → EachMay w (h ++ e ∷ [])
      step h e rest l d =
          let placed = (placed_push w h e).0 l in
          let due_all = (each_push (λ p n. IsDue w p n.entry) (noted h) (next (noted h) e)).0 (subst (λ p. EachSeeing (λ p n. IsDue w p n.entry) [] p) (noted_push h e) d) in
          subst (λ p. EachSeeing (λ p n. MayPlace w p n.entry) [] p) (sym (noted_push h e))
          ((each_push (λ p n. MayPlace w p n.entry) (noted h) (next (noted h) e)).1 (rest placed.0 due_all.0, may h e placed.0 placed.1 due_all.1))

  pub run_may : (schedule : List Pick) → EachMay w (run w schedule).servers.sequencer.history
  run_may schedule = let holds = reached w schedule in each_may (run w schedule).servers.sequencer.history holds.placed holds.ledger.due
