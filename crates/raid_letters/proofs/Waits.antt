-- Who waits has asked under sessions that there have been.
use Rattle.std.proofs.Common.{◌≡◌, ℕ, zero, suc, ◌+◌, ◌*◌, ◌==◌, nat_le, Bool, true, false, ◌&&◌, ◌||◌, List, [], ◌∷◌, length, fold, Option, Some, None, if◌then◌else◌, arith, subst, refl}
use Rattle.std.specs.Prelude.{⊤, filter_map}
use Rattle.std.specs.List.{AllByRecursion, cons_option}
use Rattle.std.specs.Option.{option_map_or}
use Rattle.raid_base.specs.declared.names.Txn.{Txn}
use Rattle.raid_base.specs.declared.names.Item.{Item}
use Rattle.raid_base.specs.declared.names.Site.{Site}
use Rattle.raid_base.specs.declared.request.Request.{Request}
use Rattle.raid_base.specs.declared.entry.Act.TheVariants as acts
use Rattle.raid_base.specs.declared.entry.Cause.{Cause}
use Rattle.raid_base.specs.declared.entry.Cause.TheVariants as causes
use Rattle.raid_base.specs.declared.entry.Entry.{Entry}
use Rattle.raid_base.specs.declared.entry.Entry.TheVariants.{Begin, Wait, Abort, Ack, Down, Up, Clear}
use Rattle.raid_base.specs.declared.entry.Noted.{Noted}
use Rattle.raid_base.specs.declared.verdict.Verdict.{Verdict}
use Rattle.raid_base.specs.declared.verdict.Verdict.TheVariants as verdicts
use Rattle.raid_base.specs.Sites.{session}
use Rattle.raid_workload.specs.declared.workload.Workload.{Workload}
use Rattle.raid_workload.specs.Parts.{txns, home}
use Rattle.raid_rules.specs.Entries.{wait_of}
use Rattle.raid_rules.specs.History.{noted, add, next, stamp, version, is_running, is_waiting, waiting}
use Rattle.raid_rules.specs.Sessions.{source_for, owes}
use Rattle.raid_rules.specs.Verdicts.{reading, writing}
use Rattle.raid_legal.specs.Seen.{vector, is_up, is_locked, sources}
use Rattle.raid_legal.specs.InForce.{verdict}
use Rattle.raid_legal.specs.Answers.{served, answer_read, answer_commit, answered, decided, closes_waits, site_refusal}
use Rattle.raid_legal.specs.Forced.{forced}
use Rattle.raid_legal.specs.Legal.{is_free, may_begin}
use Rattle.raid_legal.proofs.Left.{Compels, forced_compels}
use Rattle.raid_message.specs.declared.letter.Message.{Message}
use Rattle.raid_message.specs.declared.letter.Message.TheVariants as letters
use Rattle.raid_message.specs.declared.letter.Letter.{Letter}
use Rattle.raid_serial.proofs.Facts.{some_is, none_is, if_some}
use Rattle.raid_steps.specs.State.{Turn, opened, Sequencer}
use Rattle.raid_steps.specs.Fits.{knows_site, is_to_sequencer}
use Rattle.raid_steps.specs.Sequencer as rows
use Rattle.raid_sessions.proofs.Lists.{all_append}
use Rattle.raid_moves.proofs.Places.{all_kept}
use Rattle.raid_letters.specs.Says.{AreReached}
use Rattle.raid_letters.proofs.Later.{Later}

module _ (w : Workload) where
  -- what a Wait asks for it asks under such sessions
  abbrev pub WaitSays : List Noted → Entry → Type 0
  WaitSays p (Wait t request) = AreReached w p request.under
  WaitSays p other = ⊤

  pub later_wait : (p q : List Noted) → Later p q → (e : Entry) → WaitSays p e → WaitSays q e
  later_wait p q later (Wait t request) h = λ s known. (let a = h s known in let b = later.last s in omega (arith, a, b))
  later_wait p q later other h = tt

  -- so does each that waits
  pub all_noted : (P : Entry → Type 0) (before : List Noted) (h : List Entry) → AllByRecursion (λ (n : Noted). P n.entry) before → AllByRecursion P h → AllByRecursion (λ (n : Noted). P n.entry) (fold add before h)
  all_noted P before [] a b = a
  all_noted P before (e ∷ h) a b = all_noted P (add before e) h (all_append (λ (n : Noted). P n.entry) before (next before e ∷ []) a (b.0, tt)) b.1

  waits_from : (p : List Noted) (ns : List Noted) → AllByRecursion (λ (n : Noted). WaitSays p n.entry) ns → AllByRecursion (λ (r : Txn × Request). AreReached w p r.1.under) (filter_map (λ (n : Noted). wait_of n.entry) ns)
  waits_from p [] a = tt
  waits_from p (n ∷ ns) a = go n.entry a.0 (waits_from p ns a.1)
    where
      rest : List (Txn × Request)
      rest = filter_map (λ (n : Noted). wait_of n.entry) ns

      go : (e : Entry) → WaitSays p e → AllByRecursion (λ (r : Txn × Request). AreReached w p r.1.under) rest → AllByRecursion (λ (r : Txn × Request). AreReached w p r.1.under) (cons_option (wait_of e) rest)
      go (Wait t request) h r = (h, r)
      go other h r = r

  pub waiting_says : (h : List Entry) → AllByRecursion (WaitSays (noted h)) h → AllByRecursion (λ (r : Txn × Request). AreReached w (noted h) r.1.under) (waiting (noted h))
  waiting_says h a =
      all_kept (λ (r : Txn × Request). AreReached w (noted h) r.1.under) (λ (r : Txn × Request). is_running (noted h) r.0) (filter_map (λ (n : Noted). wait_of n.entry) (noted h))
      (waits_from (noted h) (noted h) (all_noted (WaitSays (noted h)) [] h tt a))

  module _ (first : List Noted) where
    abbrev Says : Entry → Type 0
    Says e = WaitSays first e

    abbrev Right : Turn Sequencer → Type 0
    Right turn = AllByRecursion Says turn.state.history

    places : (ask : ℕ) (turn : Turn Sequencer) (e : Entry) → Says e → Right turn → Right (rows.place w ask turn e)
    places ask turn e q right = all_append Says turn.state.history (e ∷ []) right (q, tt)

    places_if : (ask : ℕ) (turn : Turn Sequencer) (o : Option Entry) → ((e : Entry) → o ≡ Some e → Says e) → Right turn → Right (rows.place_if w ask turn o)
    places_if ask turn None each right = right
    places_if ask turn (Some e) each right = places ask turn e (each e refl) right

    one_of : (b : Bool) (x e : Entry) → Says x → (if b then Some x else None) ≡ Some e → Says e
    one_of b x e q r = subst Says (if_some b x e r).1 q

    compelled : (p : List Noted) (e : Entry) → Compels w p e → Says e
    compelled p (Wait t request) c = absurd c
    compelled p other c = tt

    settles_from : (n : ℕ) (turn : Turn Sequencer) → Right turn → Right (rows.settle_from w n turn)
    settles_from zero turn right = right
    settles_from (suc n) turn right = go (forced w (rows.so_far turn)) refl (λ e q. settles_from n (rows.place w 0 turn e) (places 0 turn e q right))
      where
        go : (o : Option Entry) → forced w (rows.so_far turn) ≡ o → ((e : Entry) → Says e → Right (rows.settle_from w n (rows.place w 0 turn e))) → Right (option_map_or (λ e. rows.settle_from w n (rows.place w 0 turn e)) o turn)
        go None f rest = right
        go (Some e) f rest = rest e (compelled (rows.so_far turn) e (forced_compels w (rows.so_far turn) e f))

    settles : (turn : Turn Sequencer) → Right turn → Right (rows.settle w turn)
    settles turn right = settles_from (length (txns w) + 2 * length w.switches) turn right

    either : (b : Bool) (x y : Turn Sequencer) → Right x → Right y → Right (if b then x else y)
    either true x y h g = h
    either false x y h g = g

    frees : (ask : ℕ) (turn : Turn Sequencer) (t : Txn) (o : Option Entry) → ((e : Entry) → o ≡ Some e → Says e) → Right turn → Right (rows.free_row w ask turn t o)
    frees ask turn t o each right = either (is_free (rows.so_far turn) t) (rows.place_if w ask turn o) turn (places_if ask turn o each right) right

    leaves : (turn : Turn Sequencer) (s : Site) → Right turn → Right (rows.leave w turn s)
    leaves turn s right = either (is_up w (rows.so_far turn) s) (rows.settle w (rows.place w 0 turn (Down s))) turn (settles (rows.place w 0 turn (Down s)) (places 0 turn (Down s) tt right)) right

    hellos : (turn : Turn Sequencer) (s : Site) (n : ℕ) → Right turn → Right (rows.hello_row w turn s n)
    hellos turn s n right =
        let up = rows.place w 0 (rows.leave w turn s) (Up s n) in
        let there = places 0 (rows.leave w turn s) (Up s n) tt (leaves turn s right) in
        either (nat_le n (rows.announced up s)) (rows.place w 0 (rows.settle w up) (Down s)) up (places 0 (rows.settle w up) (Down s) tt (settles up there)) there

    -- the answers
    served_says : (t : Txn) (x : Item) (o : Option Site) (v : Verdict) → Says (served t x o v)
    served_says t x None v = tt
    served_says t x (Some s) (verdicts.Reject why) = tt
    served_says t x (Some s) verdicts.Wait = tt
    served_says t x (Some s) verdicts.Grant = tt

    waits_says : (t : Txn) (request : Request) (a b : Bool) (e : Entry) → AreReached w first request.under → (if a then None else if b then Some (Abort t causes.Deadlock (acts.Commit request)) else Some (Wait t request)) ≡ Some e → Says e
    waits_says t request true b e past q = absurd (none_is e q)
    waits_says t request false true e past q = subst Says (some_is _ e q) tt
    waits_says t request false false e past q = subst Says (some_is (Wait t request) e q) past

    decided_says : (p : List Noted) (t : Txn) (request : Request) (v : Verdict) (e : Entry) → AreReached w first request.under → decided w p t request v ≡ Some e → Says e
    decided_says p t request (verdicts.Reject why) e past q = subst Says (some_is _ e q) tt
    decided_says p t request verdicts.Grant e past q = subst Says (some_is _ e q) tt
    decided_says p t request verdicts.Wait e past q = waits_says t request (is_waiting p t) (closes_waits w p t request) e past q

    answered_says : (p : List Noted) (t : Txn) (request : Request) (o : Option Cause) (e : Entry) → AreReached w first request.under → answered w p t request o ≡ Some e → Says e
    answered_says p t request (Some why) e past q = subst Says (some_is _ e q) tt
    answered_says p t request None e past q = decided_says p t request (verdict w p (writing t (stamp p t) request.writes)) e past q

    -- what a commit asked for says
    abbrev pub IsAsked : Message → Type 0
    IsAsked (letters.CommitAsk t request) = AreReached w first request.under
    IsAsked other = ⊤

    site_rows : (turn : Turn Sequencer) (s : Site) (n : ℕ) (m : Message) → IsAsked m → Right turn → Right (rows.site_row w turn s n m)
    site_rows turn s n letters.Hello past right = hellos turn s n right
    site_rows turn s n (letters.Begin t) past right = places_if 0 turn _ (λ e q. one_of (may_begin w (rows.so_far turn) t) (Begin t (home w t)) e tt q) right
    site_rows turn s n (letters.ReadAsk t ask x) past right =
        frees ask turn t (Some (answer_read w (rows.so_far turn) t x))
        (λ e q. subst Says (some_is _ e q) (served_says t x (source_for (sources w (rows.so_far turn) x) (home w t)) (verdict w (rows.so_far turn) (reading t (stamp (rows.so_far turn) t) x)))) right
    site_rows turn s n (letters.CommitAsk t request) past right =
        frees 0 turn t (answer_commit w (rows.so_far turn) t request) (λ e q. answered_says (rows.so_far turn) t request (site_refusal w (rows.so_far turn) request) e past q) right
    site_rows turn s n (letters.EndAsk t cause reads) past right = frees 0 turn t (Some (Abort t cause (acts.Ended reads))) (λ e q. subst Says (some_is _ e q) tt) right
    site_rows turn s n (letters.Ack t) past right = places_if 0 turn _ (λ e q. one_of (owes (rows.so_far turn) s t) (Ack t s) e tt q) right
    site_rows turn s n (letters.CopyDone x v) past right = places_if 0 turn _ (λ e q. one_of (is_locked w (rows.so_far turn) s x && v == version (rows.so_far turn) x) (Clear s x v) e tt q) right
    site_rows turn s n other past right = right

    turn_if : (b : Bool) (state : Sequencer) (turn : Turn Sequencer) → AllByRecursion Says state.history → Right turn → Right (if b then rows.finish w state turn else opened state)
    turn_if true state turn h right = settles turn right
    turn_if false state turn h right = h

    pub down_waits : (state : Sequencer) (m : Message) → AllByRecursion Says state.history → AllByRecursion Says (rows.hear_down w state m).state.history
    down_waits state (letters.Down s n) h =
        turn_if (knows_site w s) state (rows.down_row w (opened state) s n) h
        (places_if 0 (rows.announce (opened state) s n) _ (λ e q. one_of (is_up w (noted state.history) s && session (vector w (noted state.history)) s == n) (Down s) e tt q) h)
    down_waits state other h = h

    pub site_waits : (state : Sequencer) (s : Site) (l : Letter) → IsAsked l.message → AllByRecursion Says state.history → AllByRecursion Says (rows.hear_of_site w state s l).state.history
    site_waits state s l asked h =
        turn_if ((rows.is_hello l.message || l.from == session (vector w (noted state.history)) s) && is_to_sequencer w l.message) state (rows.site_row w (opened state) s l.from l.message) h
        (site_rows (opened state) s l.from l.message asked h)
