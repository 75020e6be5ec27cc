-- The sequencer tells of programs what it was asked, at once or later.
use Rattle.std.proofs.Common.{ℕ, zero, suc, ◌+◌, ◌==◌, nat_le, Bool, true, false, not, ◌&&◌, ◌||◌, List, [], ◌∷◌, map, Option, Some, None, if◌then◌else◌, sym, subst}
use Rattle.std.specs.Prelude.{⊤, slice_get, option_map, option_and_then}
use Rattle.std.specs.List.{AllByRecursion, cons_option, filter_map}
use Rattle.std.specs.Option.{option_map_or}
use Rattle.raid_base.specs.declared.names.Txn.{Txn}
use Rattle.raid_base.specs.declared.names.Item.{Item}
use Rattle.raid_base.specs.declared.names.Site.{Site}
use Rattle.raid_base.specs.declared.request.Request.{Request}
use Rattle.raid_base.specs.declared.entry.Act.TheVariants as acts
use Rattle.raid_base.specs.declared.entry.Cause.{Cause}
use Rattle.raid_base.specs.declared.entry.Cause.TheVariants as causes
use Rattle.raid_base.specs.declared.entry.Entry.{Entry}
use Rattle.raid_base.specs.declared.entry.Entry.TheVariants.{Begin, Wait, Abort, Ack, SwitchOn, SwitchEnd, Down, Up, Clear}
use Rattle.raid_base.specs.declared.entry.Noted.{Noted}
use Rattle.raid_base.specs.declared.verdict.Verdict.{Verdict}
use Rattle.raid_base.specs.declared.verdict.Verdict.TheVariants as verdicts
use Rattle.raid_base.specs.Sites.{site, session}
use Rattle.raid_workload.specs.declared.workload.Workload.{Workload}
use Rattle.raid_workload.specs.declared.workload.Switch.{Switch}
use Rattle.raid_workload.specs.Parts.{home}
use Rattle.raid_rules.specs.Entries.{wait_of}
use Rattle.raid_rules.specs.History.{noted, ends, is_waiting, is_running, waiting, stamp, version}
use Rattle.raid_rules.specs.Sessions.{owes, source_for}
use Rattle.raid_rules.specs.Verdicts.{reading, writing}
use Rattle.raid_rules.proofs.Places.{noted_entries}
use Rattle.raid_legal.specs.Seen.{vector, is_up, is_locked, sources}
use Rattle.raid_legal.specs.InForce.{InForce, in_force, is_joint, end_due, verdict}
use Rattle.raid_legal.specs.Answers.{served, answer_read, answer_commit, answered, decided, closes_waits, site_refusal}
use Rattle.raid_legal.specs.Forced.{forced, home_down, switch_off, switch_end, switch_on, woken, earliest}
use Rattle.raid_legal.specs.Legal.{is_free, may_begin}
use Rattle.raid_message.specs.declared.letter.Message.{Message}
use Rattle.raid_message.specs.declared.letter.Message.TheVariants as letters
use Rattle.raid_message.specs.declared.letter.Letter.{Letter}
use Rattle.raid_steps.specs.State.{Turn, Sequencer, opened}
use Rattle.raid_steps.specs.Fits.{knows_site, is_to_sequencer}
use Rattle.raid_steps.specs.Sequencer as steps
use Rattle.raid_steps.specs.Sequencer.{so_far, place, place_if, settle_from, settle, finish, hear_sequencer}
use Rattle.raid_known.proofs.Entries.{all_push, all_filter}
use Rattle.raid_made.specs.Made.{IsMadeRequest, IsMadeMessage, IsMade, EntriesMade}

module _ (w : Workload) where
  -- an entry that there may be
  abbrev Opt : Option Entry → Type 0
  Opt None = ⊤
  Opt (Some e) = IsMade w e

  when : (b : Bool) (e : Entry) → IsMade w e → Opt (if b then Some e else None)
  when true e h = h
  when false e h = tt

  -- the answers: that to a read tells nothing of a program, that to a commit tells the request
  served_made : (t : Txn) (x : Item) (o : Option Site) (v : Verdict) → IsMade w (served t x o v)
  served_made t x None v = tt
  served_made t x (Some s) (verdicts.Reject why) = tt
  served_made t x (Some s) verdicts.Wait = tt
  served_made t x (Some s) verdicts.Grant = tt

  read_made : (p : List Noted) (t : Txn) (x : Item) → IsMade w (answer_read w p t x)
  read_made p t x = served_made t x (source_for (sources w p x) (home w t)) (verdict w p (reading t (stamp p t) x))

  module _ (p : List Noted) (t : Txn) (r : Request) (h : IsMadeRequest w t r) where
    decided_made : (v : Verdict) → Opt (decided w p t r v)
    decided_made (verdicts.Reject why) = h
    decided_made verdicts.Grant = h
    decided_made verdicts.Wait = go (is_waiting p t) (closes_waits w p t r)
      where
        go : (a b : Bool) → Opt (if a then None else if b then Some (Abort t causes.Deadlock (acts.Commit r)) else Some (Wait t r))
        go true b = tt
        go false true = h
        go false false = h

    answered_made : (o : Option Cause) → Opt (answered w p t r o)
    answered_made (Some why) = h
    answered_made None = decided_made (verdict w p (writing t (stamp p t) r.writes))

    commit_made : Opt (answer_commit w p t r)
    commit_made = answered_made (site_refusal w p r)

  -- what waits stood in a Wait
  abbrev Asked : Txn × Request → Type 0
  Asked r = IsMadeRequest w r.0 r.1

  waits_made : (p : List Noted) → EntriesMade w (map (λ n. n.entry) p) → AllByRecursion Asked (filter_map (λ n. wait_of n.entry) p)
  waits_made [] a = tt
  waits_made (n ∷ p) a = go n.entry a.0 (waits_made p a.1)
    where
      go : (e : Entry) → IsMade w e → AllByRecursion Asked (filter_map (λ n. wait_of n.entry) p) → AllByRecursion Asked (cons_option (wait_of e) (filter_map (λ n. wait_of n.entry) p))
      go (Wait t r) h rest = (h, rest)
      go other h rest = rest

  woken_made : (p : List Noted) (rs : List (Txn × Request)) → AllByRecursion Asked rs → Opt (slice_get (filter_map (λ (r : Txn × Request). answer_commit w p r.0 r.1) rs) 0)
  woken_made p [] a = tt
  woken_made p (r ∷ rs) a = go (answer_commit w p r.0 r.1) (commit_made p r.0 r.1 a.0) (woken_made p rs a.1)
    where
      rest : List Entry
      rest = filter_map (λ (r : Txn × Request). answer_commit w p r.0 r.1) rs

      go : (o : Option Entry) → Opt o → Opt (slice_get rest 0) → Opt (slice_get (cons_option o rest) 0)
      go None h others = others
      go (Some e) h others = h

  -- a forced entry is one of these
  first_made : (a b c d e : Option Entry) → Opt a → Opt b → Opt c → Opt d → Opt e → Opt (earliest (a ∷ b ∷ c ∷ d ∷ e ∷ []))
  first_made (Some x) b c d e ha hb hc hd he = ha
  first_made None (Some x) c d e ha hb hc hd he = hb
  first_made None None (Some x) d e ha hb hc hd he = hc
  first_made None None None (Some x) e ha hb hc hd he = hd
  first_made None None None None (Some x) ha hb hc hd he = he
  first_made None None None None None ha hb hc hd he = tt

  off_made : (cause : Cause) (o : Option Txn) → Opt (option_map (λ t. Abort t cause acts.Nothing) o)
  off_made cause None = tt
  off_made cause (Some t) = tt

  on_made : (p : List Noted) (f : InForce) (o : Option Switch) →
      Opt (option_and_then (λ (s : Switch). if nat_le s.trigger (ends p) && not (is_joint f) then Some (SwitchOn (f.switches + 1) s.kind s.method) else None) o)
  on_made p f None = tt
  on_made p f (Some s) = when (nat_le s.trigger (ends p) && not (is_joint f)) (SwitchOn (f.switches + 1) s.kind s.method) tt

  forced_made : (h : List Entry) → EntriesMade w h → Opt (forced w (noted h))
  forced_made h a =
      let p = noted h in
      let f = in_force w p in
      first_made (home_down w p) (switch_off p f) (switch_end w p f) (switch_on w p f) (woken w p)
      (off_made causes.HomeDown _) (off_made (causes.SwitchOff f.switches) _) (when (end_due w p) (SwitchEnd f.switches) tt) (on_made p f (slice_get w.switches f.switches))
      (woken_made p (waiting p) (all_filter Asked (λ r. is_running p r.0) _ (waits_made p (subst (EntriesMade w) (sym (noted_entries h)) a))))

  -- the turns
  abbrev Made : Turn Sequencer → Type 0
  Made turn = EntriesMade w turn.state.history

  place_made : (ask : ℕ) (turn : Turn Sequencer) (e : Entry) → Made turn → IsMade w e → Made (place w ask turn e)
  place_made ask turn e h m = all_push (IsMade w) turn.state.history e h m

  place_if_made : (ask : ℕ) (turn : Turn Sequencer) (o : Option Entry) → Made turn → Opt o → Made (place_if w ask turn o)
  place_if_made ask turn None h m = h
  place_if_made ask turn (Some e) h m = place_made ask turn e h m

  settle_from_made : (n : ℕ) (turn : Turn Sequencer) → Made turn → Made (settle_from w n turn)
  settle_from_made zero turn h = h
  settle_from_made (suc n) turn h = go (forced w (so_far turn)) (forced_made turn.state.history h) (λ e m. settle_from_made n (place w 0 turn e) (place_made 0 turn e h m))
    where
      go : (o : Option Entry) → Opt o → ((e : Entry) → IsMade w e → Made (settle_from w n (place w 0 turn e))) → Made (option_map_or (λ e. settle_from w n (place w 0 turn e)) o turn)
      go None m rest = h
      go (Some e) m rest = rest e m

  settle_made : (turn : Turn Sequencer) → Made turn → Made (settle w turn)
  settle_made turn h = settle_from_made _ turn h

  finish_made : (s : Sequencer) (turn : Turn Sequencer) → Made turn → Made (finish w s turn)
  finish_made s turn h = settle_made turn h

  either : (b : Bool) (x y : Turn Sequencer) → Made x → Made y → Made (if b then x else y)
  either true x y h g = h
  either false x y h g = g

  leave_made : (turn : Turn Sequencer) (s : Site) → Made turn → Made (steps.leave w turn s)
  leave_made turn s h = either (is_up w (so_far turn) s) (settle w (place w 0 turn (Down s))) turn (settle_made (place w 0 turn (Down s)) (place_made 0 turn (Down s) h tt)) h

  hello_made : (turn : Turn Sequencer) (s : Site) (n : ℕ) → Made turn → Made (steps.hello_row w turn s n)
  hello_made turn s n h =
      let up = place w 0 (steps.leave w turn s) (Up s n) in
      let made = place_made 0 (steps.leave w turn s) (Up s n) (leave_made turn s h) tt in
      either (nat_le n (steps.announced up s)) (place w 0 (settle w up) (Down s)) up (place_made 0 (settle w up) (Down s) (settle_made up made) tt) made

  free_made : (ask : ℕ) (turn : Turn Sequencer) (t : Txn) (o : Option Entry) → Made turn → Opt o → Made (steps.free_row w ask turn t o)
  free_made ask turn t o h m = either (is_free (so_far turn) t) (place_if w ask turn o) turn (place_if_made ask turn o h m) h

  row_made : (turn : Turn Sequencer) (s : Site) (n : ℕ) (m : Message) → Made turn → IsMadeMessage w m → Made (steps.site_row w turn s n m)
  row_made turn s n letters.Hello h m = hello_made turn s n h
  row_made turn s n (letters.Begin t) h m = place_if_made 0 turn _ h (when (may_begin w (so_far turn) t) (Begin t (home w t)) tt)
  row_made turn s n (letters.ReadAsk t ask x) h m = free_made ask turn t (Some (answer_read w (so_far turn) t x)) h (read_made (so_far turn) t x)
  row_made turn s n (letters.CommitAsk t r) h m = free_made 0 turn t (answer_commit w (so_far turn) t r) h (commit_made (so_far turn) t r m)
  row_made turn s n (letters.EndAsk t cause reads) h m = free_made 0 turn t (Some (Abort t cause (acts.Ended reads))) h m
  row_made turn s n (letters.Ack t) h m = place_if_made 0 turn _ h (when (owes (so_far turn) s t) (Ack t s) tt)
  row_made turn s n (letters.CopyDone x v) h m = place_if_made 0 turn _ h (when (is_locked w (so_far turn) s x && v == version (so_far turn) x) (Clear s x v) tt)
  row_made turn s n other h m = h

  -- the monitor's news, and a site's letter
  news_made : (state : Sequencer) (m : Message) → EntriesMade w state.history → Made (steps.hear_down w state m)
  news_made state (letters.Down s n) h =
      either (knows_site w s) (finish w state (steps.down_row w (opened state) s n)) (opened state)
      (finish_made state (steps.down_row w (opened state) s n) (place_if_made 0 (steps.announce (opened state) s n) _ h (when (is_up w (so_far (opened state)) s && session (vector w (so_far (opened state))) s == n) (Down s) tt)))
      h
  news_made state other h = h

  of_site_made : (state : Sequencer) (s : Site) (l : Letter) → EntriesMade w state.history → IsMadeMessage w l.message → Made (steps.hear_of_site w state s l)
  of_site_made state s l h m =
      either ((steps.is_hello l.message || l.from == session (vector w (noted state.history)) s) && is_to_sequencer w l.message)
      (finish w state (steps.site_row w (opened state) s l.from l.message)) (opened state)
      (finish_made state (steps.site_row w (opened state) s l.from l.message) (row_made (opened state) s l.from l.message h m)) h

  pub sequencer_made : (state : Sequencer) (from : ℕ) (l : Letter) → EntriesMade w state.history → IsMadeMessage w l.message → EntriesMade w (hear_sequencer w state from l).state.history
  sequencer_made state zero l h m = news_made state l.message h
  sequencer_made state (suc zero) l h m = h
  sequencer_made state (suc (suc k)) l h m = of_site_made state (site (k + 1)) l h m
