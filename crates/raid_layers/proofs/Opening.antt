-- The sequencer's step in two parts: a Read or a Wait that the letter asks for, if it does; and then entries that are neither.
use Rattle.std.proofs.Common.{◌≡◌, ◌⊎◌, inl, inr, ℕ, zero, suc, ◌+◌, ◌==◌, nat_lt, nat_le, Bool, true, false, not, ◌&&◌, ◌||◌, List, [], ◌∷◌, ◌++◌, map, filter, Option, Some, None, if◌then◌else◌, arith, sym, ap, ◌∙◌, refl, append-nil}
use Rattle.std.specs.Prelude.{⊤, flat_map, filter_map, slice_get, option_map, option_and_then}
use Rattle.std.specs.List.{AllByRecursion, cons_option}
use Rattle.std.specs.Option.{option_map_or}
use Rattle.std.proofs.lemmas.Bool.{and_parts}
use Rattle.raid_base.specs.declared.names.Txn.{Txn}
use Rattle.raid_base.specs.declared.names.Item.{Item}
use Rattle.raid_base.specs.declared.names.Site.{Site}
use Rattle.raid_base.specs.declared.request.Request.{Request}
use Rattle.raid_base.specs.declared.entry.Act.TheVariants as acts
use Rattle.raid_base.specs.declared.entry.Cause.{Cause}
use Rattle.raid_base.specs.declared.entry.Cause.TheVariants as causes
use Rattle.raid_base.specs.declared.entry.Entry.{Entry}
use Rattle.raid_base.specs.declared.entry.Entry.TheVariants.{Begin, Read, Wait, Commit, Abort, Ack, SwitchOn, SwitchEnd, Down, Up, Clear}
use Rattle.raid_base.specs.declared.entry.Noted.{Noted}
use Rattle.raid_base.specs.declared.verdict.Verdict.{Verdict}
use Rattle.raid_base.specs.declared.verdict.Verdict.TheVariants as verdicts
use Rattle.raid_base.specs.Sites.{session, site}
use Rattle.raid_workload.specs.declared.workload.Workload.{Workload}
use Rattle.raid_workload.specs.declared.workload.Switch.{Switch}
use Rattle.raid_workload.specs.Parts.{sites, home}
use Rattle.raid_rules.specs.History.{noted, ends, stamp, waiting, is_waiting, is_running, version}
use Rattle.raid_rules.specs.Sessions.{source_for, owes}
use Rattle.raid_rules.specs.Verdicts.{reading, writing}
use Rattle.raid_legal.specs.Seen.{vector, is_up, is_locked, sources}
use Rattle.raid_legal.specs.InForce.{InForce, in_force, is_joint, end_due, verdict}
use Rattle.raid_legal.specs.Answers.{served, answer_read, answer_commit, answered, decided, closes_waits, site_refusal}
use Rattle.raid_legal.specs.Forced.{forced, home_down, switch_off, switch_end, switch_on, woken, earliest}
use Rattle.raid_legal.specs.Legal.{is_free, may_begin}
use Rattle.raid_legal.proofs.Left.{Compels, forced_compels}
use Rattle.raid_message.specs.declared.letter.Message.{Message}
use Rattle.raid_message.specs.declared.letter.Message.TheVariants as letters
use Rattle.raid_message.specs.declared.letter.Letter.{Letter}
use Rattle.raid_steps.specs.State.{Out, Turn, Sequencer, Copying, opened}
use Rattle.raid_steps.specs.Fits.{knows_site, is_to_sequencer}
use Rattle.raid_steps.specs.Sequencer as rows
use Rattle.raid_steps.specs.Sequencer.{so_far, place, place_if, settle_from, settle, finish, hear_sequencer}
use Rattle.raid_asks.proofs.Steps.{AreOther}
use Rattle.raid_layers.proofs.Histories.{HasWait, all_wait}

module _ (w : Workload) where
  -- a Commit that answers what was made to wait
  abbrev WasWaiting : List Noted → Entry → Type 0
  WasWaiting p (Commit t request applied) = (answer_commit w p t request ≡ Some (Commit t request applied)) × HasWait p t request
  WasWaiting p other = ⊤

  abbrev Opt : List Noted → Option Entry → Type 0
  Opt p None = ⊤
  Opt p (Some e) = WasWaiting p e

  when : (p : List Noted) (b : Bool) (e : Entry) → WasWaiting p e → Opt p (if b then Some e else None)
  when p true e h = h
  when p false e h = tt

  answered_waits : (p : List Noted) (t : Txn) (r : Request) → HasWait p t r → Opt p (answer_commit w p t r)
  answered_waits p t r h = answers (site_refusal w p r) refl
    where
      decides : (v : Verdict) → site_refusal w p r ≡ None → verdict w p (writing t (stamp p t) r.writes) ≡ v → Opt p (decided w p t r v)
      decides (verdicts.Reject why) none is = tt
      decides verdicts.Grant none is = (ap (answered w p t r) none ∙ ap (decided w p t r) is, h)
      decides verdicts.Wait none is = go (is_waiting p t) (closes_waits w p t r)
        where
          go : (a b : Bool) → Opt p (if a then None else if b then Some (Abort t causes.Deadlock (acts.Commit r)) else Some (Wait t r))
          go true b = tt
          go false true = tt
          go false false = tt

      answers : (o : Option Cause) → site_refusal w p r ≡ o → Opt p (answered w p t r o)
      answers (Some why) is = tt
      answers None is = decides (verdict w p (writing t (stamp p t) r.writes)) is refl

  woken_waits : (p : List Noted) (rs : List (Txn × Request)) → AllByRecursion (λ (r : Txn × Request). HasWait p r.0 r.1) rs → Opt p (slice_get (filter_map (λ (r : Txn × Request). answer_commit w p r.0 r.1) rs) 0)
  woken_waits p [] a = tt
  woken_waits p (r ∷ rs) a = go (answer_commit w p r.0 r.1) (answered_waits p r.0 r.1 a.0) (woken_waits p rs a.1)
    where
      rest : List Entry
      rest = filter_map (λ (r : Txn × Request). answer_commit w p r.0 r.1) rs

      go : (o : Option Entry) → Opt p o → Opt p (slice_get rest 0) → Opt p (slice_get (cons_option o rest) 0)
      go None h others = others
      go (Some e) h others = h

  first_waits : (p : List Noted) (a b c d e : Option Entry) → Opt p a → Opt p b → Opt p c → Opt p d → Opt p e → Opt p (earliest (a ∷ b ∷ c ∷ d ∷ e ∷ []))
  first_waits p (Some x) b c d e ha hb hc hd he = ha
  first_waits p None (Some x) c d e ha hb hc hd he = hb
  first_waits p None None (Some x) d e ha hb hc hd he = hc
  first_waits p None None None (Some x) e ha hb hc hd he = hd
  first_waits p None None None None (Some x) ha hb hc hd he = he
  first_waits p None None None None None ha hb hc hd he = tt

  off_waits : (p : List Noted) (cause : Cause) (o : Option Txn) → Opt p (option_map (λ t. Abort t cause acts.Nothing) o)
  off_waits p cause None = tt
  off_waits p cause (Some t) = tt

  on_waits : (p : List Noted) (f : InForce) (o : Option Switch) →
      Opt p (option_and_then (λ (s : Switch). if nat_le s.trigger (ends p) && not (is_joint f) then Some (SwitchOn (f.switches + 1) s.kind s.method) else None) o)
  on_waits p f None = tt
  on_waits p f (Some s) = when p (nat_le s.trigger (ends p) && not (is_joint f)) (SwitchOn (f.switches + 1) s.kind s.method) tt

  forced_waits : (p : List Noted) → Opt p (forced w p)
  forced_waits p =
      let f = in_force w p in
      first_waits p (home_down w p) (switch_off p f) (switch_end w p f) (switch_on w p f) (woken w p) (off_waits p causes.HomeDown _) (off_waits p (causes.SwitchOff f.switches) _)
      (when p (end_due w p) (SwitchEnd f.switches) tt) (on_waits p f (slice_get w.switches f.switches)) (woken_waits p (waiting p) (all_wait p))

  module _ (from : ℕ) (letter : Letter) where
    -- a site asks in the letter to commit the transaction, with this request
    abbrev pub IsAskedFor : Txn → Request → Type 0
    IsAskedFor t request = (k : ℕ) × ((from ≡ k + 2) × (letter.message ≡ letters.CommitAsk t request))

    -- neither a Read nor a Wait; and a Commit is of who runs, and answers a request that was made to wait, or that the letter makes
    abbrev pub IsLater : List Noted → Entry → Type 0
    IsLater p (Read t x s) = ⊥
    IsLater p (Wait t request) = ⊥
    IsLater p (Commit t request applied) = (is_running p t ≡ true) × ((answer_commit w p t request ≡ Some (Commit t request applied)) × (HasWait p t request ⊎ IsAskedFor t request))
    IsLater p other = ⊤

    -- such entries, one after the other, and other letters
    pub data Chain : Turn Sequencer → Turn Sequencer → Type 0 where
      done : {turn : Turn Sequencer} → Chain turn turn
      places : {turn last : Turn Sequencer} (ask : ℕ) (e : Entry) → IsLater (so_far turn) e → Chain (place w ask turn e) last → Chain turn last
      sends : {turn next last : Turn Sequencer} (outs : List Out) → next.state.history ≡ turn.state.history → next.outs ≡ turn.outs ++ outs → AreOther outs → Chain next last → Chain turn last

    pub on : {a b c : Turn Sequencer} → Chain a b → Chain b c → Chain a c
    on done s = s
    on (places ask e y r) s = places ask e y (on r s)
    on (sends outs q r o t) s = sends outs q r o (on t s)

    -- the first part
    pub data First (turn : Turn Sequencer) : Turn Sequencer → Type 0 where
      reads : (k : ℕ) (t : Txn) (ask : ℕ) (x : Item) (s : Site) → from ≡ k + 2 → letter.message ≡ letters.ReadAsk t ask x → First turn (place w ask turn (Read t x s))
      waits : (k : ℕ) (t : Txn) (request : Request) → from ≡ k + 2 → letter.message ≡ letters.CommitAsk t request → First turn (place w 0 turn (Wait t request))
      nothing : First turn turn

    -- the whole step
    abbrev pub Opens : Turn Sequencer → Turn Sequencer → Type 0
    Opens turn last = (next : Turn Sequencer) × (First turn next × Chain next last)

    settle_later : (p : List Noted) (e : Entry) → Compels w p e → WasWaiting p e → IsLater p e
    settle_later p (Abort t cause act) c h = tt
    settle_later p (Commit t request applied) c h = (c, (h.0, inl h.1))
    settle_later p (SwitchOn k kind method) c h = tt
    settle_later p (SwitchEnd k) c h = tt
    settle_later p other c h = absurd c

    settle_from_chain : (i : ℕ) (turn : Turn Sequencer) → Chain turn (settle_from w i turn)
    settle_from_chain zero turn = done
    settle_from_chain (suc i) turn = go (forced w (so_far turn)) refl (forced_waits (so_far turn)) (λ e. settle_from_chain i (place w 0 turn e))
      where
        go : (o : Option Entry) → forced w (so_far turn) ≡ o → Opt (so_far turn) o → ((e : Entry) → Chain (place w 0 turn e) (settle_from w i (place w 0 turn e))) → Chain turn (option_map_or (λ e. settle_from w i (place w 0 turn e)) o turn)
        go None q h rest = done
        go (Some e) q h rest = places 0 e (settle_later (so_far turn) e (forced_compels w (so_far turn) e q) h) (rest e)

    settles : (turn : Turn Sequencer) → Chain turn (settle w turn)
    settles turn = settle_from_chain _ turn

    copies_other : (v : List ℕ) (due : List Copying) → AreOther (map (rows.copy_out v) due)
    copies_other v [] = tt
    copies_other v (c ∷ due) = (tt, copies_other v due)

    finishes : (state : Sequencer) (turn : Turn Sequencer) → Chain turn (finish w state turn)
    finishes state turn = on (settles turn) (ending (settle w turn))
      where
        ending : (turn : Turn Sequencer) → Chain turn (rows.send_ends (ends (noted state.history)) (rows.send_copies w turn))
        ending turn = sends {next = rows.send_copies w turn} copies refl refl (copies_other (vector w (so_far turn)) due) (sends {next = rows.send_ends (ends (noted state.history)) (rows.send_copies w turn)} counts refl refl (other_if (nat_lt (ends (noted state.history)) (ends (so_far turn)))) done)
          where
            due : List Copying
            due = flat_map (rows.copies_due w (so_far turn) turn.state.copying) (filter (is_up w (so_far turn)) (sites w))

            copies : List Out
            copies = map (rows.copy_out (vector w (so_far turn))) due

            counts : List Out
            counts = if nat_lt (ends (noted state.history)) (ends (so_far turn)) then (0, 0, letters.Ends (ends (so_far turn))) ∷ [] else []

            other_if : (b : Bool) → AreOther (let outs : List Out = (if b then (0, 0, letters.Ends (ends (so_far turn))) ∷ [] else []) in outs)
            other_if true = (tt, tt)
            other_if false = tt

    one : (ask : ℕ) (turn : Turn Sequencer) (e : Entry) → IsLater (so_far turn) e → Chain turn (place w ask turn e)
    one ask turn e y = places ask e y done

    when_placed : (turn : Turn Sequencer) (b : Bool) (e : Entry) → IsLater (so_far turn) e → Chain turn (place_if w 0 turn (if b then Some e else None))
    when_placed turn true e y = one 0 turn e y
    when_placed turn false e y = done

    leaves : (turn : Turn Sequencer) (s : Site) → Chain turn (rows.leave w turn s)
    leaves turn s = go (is_up w (so_far turn) s)
      where
        go : (b : Bool) → Chain turn (if b then settle w (place w 0 turn (Down s)) else turn)
        go true = places 0 (Down s) tt (settles (place w 0 turn (Down s)))
        go false = done

    hellos : (turn : Turn Sequencer) (s : Site) (n : ℕ) → Chain turn (rows.hello_row w turn s n)
    hellos turn s n = on (leaves turn s) (places 0 (Up s n) tt (again (nat_le n (rows.announced up s))))
      where
        up : Turn Sequencer
        up = place w 0 (rows.leave w turn s) (Up s n)

        again : (b : Bool) → Chain up (if b then place w 0 (settle w up) (Down s) else up)
        again true = on (settles up) (one 0 (settle w up) (Down s) tt)
        again false = done

    -- by the chain alone
    chained : {turn last : Turn Sequencer} → Chain turn last → Opens turn last
    chained {turn = turn} c = (turn, (nothing, c))

    if_free : (ask : ℕ) (turn : Turn Sequencer) (t : Txn) (o : Option Entry) → (is_free (so_far turn) t ≡ true → Opens turn (place_if w ask turn o)) → Opens turn (rows.free_row w ask turn t o)
    if_free ask turn t o h = go (is_free (so_far turn) t) refl
      where
        go : (b : Bool) → is_free (so_far turn) t ≡ b → Opens turn (if b then place_if w ask turn o else turn)
        go true q = h q
        go false q = chained done

    read_opens : (k : ℕ) (turn : Turn Sequencer) (t : Txn) (ask : ℕ) (x : Item) → from ≡ k + 2 → letter.message ≡ letters.ReadAsk t ask x → (o : Option Site) (v : Verdict) → Opens turn (place w ask turn (served t x o v))
    read_opens k turn t ask x of q None v = chained (one ask turn (Abort t causes.NoCopy (acts.Read x)) tt)
    read_opens k turn t ask x of q (Some s) (verdicts.Reject why) = chained (one ask turn (served t x (Some s) (verdicts.Reject why)) tt)
    read_opens k turn t ask x of q (Some s) verdicts.Wait = (place w ask turn (Read t x s), (reads k t ask x s of q, done))
    read_opens k turn t ask x of q (Some s) verdicts.Grant = (place w ask turn (Read t x s), (reads k t ask x s of q, done))

    commit_opens : (k : ℕ) (turn : Turn Sequencer) (t : Txn) (r : Request) → from ≡ k + 2 → letter.message ≡ letters.CommitAsk t r → is_free (so_far turn) t ≡ true → Opens turn (place_if w 0 turn (answer_commit w (so_far turn) t r))
    commit_opens k turn t r of q free = answers (site_refusal w p r) refl
      where
        p : List Noted
        p = so_far turn

        decides : (v : Verdict) → site_refusal w p r ≡ None → verdict w p (writing t (stamp p t) r.writes) ≡ v → Opens turn (place_if w 0 turn (decided w p t r v))
        decides (verdicts.Reject why) none is = chained (one 0 turn _ tt)
        decides verdicts.Grant none is = chained (one 0 turn _ ((and_parts (is_running p t) (not (is_waiting p t)) free).0, (ap (answered w p t r) none ∙ ap (decided w p t r) is, inr (k, (of, q)))))
        decides verdicts.Wait none is = go (is_waiting p t) (closes_waits w p t r)
          where
            go : (a b : Bool) → Opens turn (place_if w 0 turn (if a then None else if b then Some (Abort t causes.Deadlock (acts.Commit r)) else Some (Wait t r)))
            go true b = chained done
            go false true = chained (one 0 turn (Abort t causes.Deadlock (acts.Commit r)) tt)
            go false false = (place w 0 turn (Wait t r), (waits k t r of q, done))

        answers : (o : Option Cause) → site_refusal w p r ≡ o → Opens turn (place_if w 0 turn (answered w p t r o))
        answers (Some why) is = chained (one 0 turn (Abort t why (acts.Commit r)) tt)
        answers None is = decides (verdict w p (writing t (stamp p t) r.writes)) is refl

    row_opens : (turn : Turn Sequencer) (k : ℕ) (m : Message) → letter.message ≡ m → from ≡ k + 2 → Opens turn (rows.site_row w turn (site (k + 1)) letter.from m)
    row_opens turn k letters.Hello q of = chained (hellos turn (site (k + 1)) letter.from)
    row_opens turn k (letters.Begin t) q of = chained (when_placed turn (may_begin w (so_far turn) t) (Begin t (home w t)) tt)
    row_opens turn k (letters.ReadAsk t ask x) q of =
        if_free ask turn t (Some (answer_read w (so_far turn) t x)) (λ free. read_opens k turn t ask x of q (source_for (sources w (so_far turn) x) (home w t)) (verdict w (so_far turn) (reading t (stamp (so_far turn) t) x)))
    row_opens turn k (letters.CommitAsk t request) q of = if_free 0 turn t (answer_commit w (so_far turn) t request) (commit_opens k turn t request of q)
    row_opens turn k (letters.EndAsk t cause told) q of = if_free 0 turn t (Some (Abort t cause (acts.Ended told))) (λ free. chained (one 0 turn (Abort t cause (acts.Ended told)) tt))
    row_opens turn k (letters.Ack t) q of = chained (when_placed turn (owes (so_far turn) (site (k + 1)) t) (Ack t (site (k + 1))) tt)
    row_opens turn k (letters.CopyDone x v) q of =
        chained (on (when_placed turn (is_locked w (so_far turn) (site (k + 1)) x && v == version (so_far turn) x) (Clear (site (k + 1)) x v) tt)
        (closes (place_if w 0 turn (if is_locked w (so_far turn) (site (k + 1)) x && v == version (so_far turn) x then Some (Clear (site (k + 1)) x v) else None))))
      where
        closes : (turn : Turn Sequencer) → Chain turn (rows.close turn (site (k + 1)) x)
        closes turn = sends {next = rows.close turn (site (k + 1)) x} [] refl (sym (append-nil turn.outs)) tt done
    row_opens turn k other q of = chained done

    more : {turn mid last : Turn Sequencer} → Opens turn mid → Chain mid last → Opens turn last
    more (next, (f, c)) d = (next, (f, on c d))

    down_opens : (state : Sequencer) (m : Message) → Opens (opened state) (rows.hear_down w state m)
    down_opens state (letters.Down s n) = step (knows_site w s)
      where
        now : Turn Sequencer
        now = rows.announce (opened state) s n

        step : (b : Bool) → Opens (opened state) (if b then finish w state (rows.down_row w (opened state) s n) else opened state)
        step true =
            chained (sends {next = now} [] refl refl tt
            (on (when_placed now (is_up w (so_far now) s && session (vector w (so_far now)) s == n) (Down s) tt) (finishes state (rows.down_row w (opened state) s n))))
        step false = chained done
    down_opens state other = chained done

    pub hear_opens : (state : Sequencer) (f : ℕ) → from ≡ f → Opens (opened state) (hear_sequencer w state f letter)
    hear_opens state zero of = down_opens state letter.message
    hear_opens state (suc zero) of = chained done
    hear_opens state (suc (suc k)) of = go ((rows.is_hello letter.message || letter.from == session (vector w (noted state.history)) (site (k + 1))) && is_to_sequencer w letter.message)
      where
        place_is : from ≡ suc (suc k) → from ≡ k + 2
        place_is e = omega (arith, e)

        go : (b : Bool) → Opens (opened state) (if b then finish w state (rows.site_row w (opened state) (site (k + 1)) letter.from letter.message) else opened state)
        go true = more (row_opens (opened state) k letter.message refl (place_is of)) (finishes state (rows.site_row w (opened state) (site (k + 1)) letter.from letter.message))
        go false = chained done
