-- The sequencer's step, entry by entry, with what the versions of copies need to know of each: whose Ack it takes, whose copy was renewed,
-- which session opens, and why a copy is sent for.
use Rattle.std.proofs.Common.{◌≡◌, ℕ, zero, suc, ◌+◌, ◌<◌, ◌==◌, nat_lt, nat_le, Bool, true, false, not, ◌&&◌, ◌||◌, List, [], ◌∷◌, ◌++◌, map, filter, Option, Some, None, if◌then◌else◌, arith, sym, subst, ◌∙◌, refl, append-nil}
use Rattle.std.specs.Prelude.{⊤, flat_map, filter_map, slice_get, option_map}
use Rattle.std.specs.List.{AllByRecursion, list_any, cons_option}
use Rattle.std.specs.Option.{option_map_or}
use Rattle.std.proofs.lemmas.Bool.{and_parts, eqb-true}
use Rattle.raid_base.specs.declared.names.Txn.{Txn}
use Rattle.raid_base.specs.declared.names.Item.{Item}
use Rattle.raid_base.specs.declared.names.Site.{Site}
use Rattle.raid_base.specs.declared.request.Request.{Request}
use Rattle.raid_base.specs.declared.entry.Act.TheVariants as acts
use Rattle.raid_base.specs.declared.entry.Cause.{Cause}
use Rattle.raid_base.specs.declared.entry.Cause.TheVariants as causes
use Rattle.raid_base.specs.declared.entry.Entry.{Entry}
use Rattle.raid_base.specs.declared.entry.Entry.TheVariants.{Begin, Wait, Commit, Abort, Ack, SwitchOn, SwitchEnd, Down, Up, Clear}
use Rattle.raid_base.specs.declared.entry.Noted.{Noted}
use Rattle.raid_base.specs.declared.verdict.Verdict.{Verdict}
use Rattle.raid_base.specs.declared.verdict.Verdict.TheVariants as verdicts
use Rattle.raid_base.specs.Names.{is_item, is_site, has_site}
use Rattle.raid_base.specs.Sites.{session, site, all_sites}
use Rattle.raid_workload.specs.declared.workload.Workload.{Workload}
use Rattle.raid_workload.specs.Parts.{sites, items, home, placement}
use Rattle.raid_rules.specs.History.{noted, ends, stamp, is_waiting, version}
use Rattle.raid_rules.specs.Sessions.{source_for, owes, last_session, is_copy_locked, is_site_up}
use Rattle.raid_rules.specs.Sessions as rules
use Rattle.raid_rules.specs.Verdicts.{reading, writing}
use Rattle.raid_rules.proofs.Sources.{has_kept}
use Rattle.raid_legal.specs.Seen.{vector, is_up, is_locked, sources}
use Rattle.raid_legal.specs.InForce.{verdict}
use Rattle.raid_legal.specs.Answers.{served, answer_read, answer_commit, answered, decided, closes_waits, site_refusal}
use Rattle.raid_legal.specs.Forced.{forced}
use Rattle.raid_legal.specs.Legal.{is_free, may_begin}
use Rattle.raid_legal.proofs.Left.{Compels, forced_compels}
use Rattle.raid_message.specs.declared.letter.Message.{Message}
use Rattle.raid_message.specs.declared.letter.Message.TheVariants as letters
use Rattle.raid_message.specs.declared.letter.Letter.{Letter}
use Rattle.raid_serial.proofs.Facts.{some_is, none_is}
use Rattle.raid_steps.specs.State.{Turn, Sequencer, Copying, opened}
use Rattle.raid_steps.specs.Fits.{knows_site, is_to_sequencer}
use Rattle.raid_steps.specs.Sequencer as rows
use Rattle.raid_steps.specs.Sequencer.{so_far, place, place_if, settle_from, settle, Settles, quiet, more, finish, leave, hear_sequencer}
use Rattle.raid_placed.specs.Placed.{Placed, Placeable, Sent}
use Rattle.raid_placed.proofs.Heard.{Fine, leave_fine, sent_placed, read_sent, commit_sent, row_placed, down_placed}
use Rattle.raid_placed.proofs.Sent.{unforced_placeable, forced_placeable}
use Rattle.raid_placed.proofs.Settled.{place_placed, settle_placed, settle_settles, settle_quiet}
use Rattle.raid_sessions.proofs.Ledger.{is_still, last_still, last_down}
use Rattle.raid_sessions.proofs.Lists.{all_append, not_false}
use Rattle.raid_letters.specs.Says.{is_held}
use Rattle.raid_letters.proofs.Sends.{first_in}

module _ (w : Workload) where
  -- a copy that is to be sent for: the target has one, and it is locked, and the source's isn't
  pub record IsDue (p : List Noted) (c : Copying) : Type 0 where
    pub held : is_held w c.target c.item ≡ true
    pub locked : is_copy_locked p c.target c.item ≡ true
    pub unlocked : is_copy_locked p c.source c.item ≡ false

  abbrev pub AreDue : List Noted → List Copying → Type 0
  AreDue p cs = AllByRecursion (IsDue p) cs

  all_mapped : {X Y : Type 0} (P : Y → Type 0) (f : X → Option Y) (xs : List X) → ((x : X) (y : Y) → f x ≡ Some y → P y) → AllByRecursion P (filter_map f xs)
  all_mapped {X} {Y} P f [] each = tt
  all_mapped {X} {Y} P f (x ∷ xs) each = go (f x) refl (all_mapped P f xs each)
    where
      go : (o : Option Y) → f x ≡ o → AllByRecursion P (filter_map f xs) → AllByRecursion P (cons_option o (filter_map f xs))
      go None q rest = rest
      go (Some y) q rest = (each x y q, rest)

  -- sources are up and unlocked
  pub source_unlocked : (p : List Noted) (x : Item) (s : Site) → has_site (sources w p x) s ≡ true → (is_site_up (vector w p) s ≡ true) × (is_copy_locked p s x ≡ false)
  source_unlocked p x s q =
      let both = and_parts (rules.is_source w.sites (placement w) p x s) (has_site all_sites s) (sym (has_kept (rules.is_source w.sites (placement w) p x) s all_sites) ∙ q) in
      let parts = and_parts (is_held w s x && is_site_up (vector w p) s) (not (is_copy_locked p s x)) both.0 in
      ((and_parts (is_held w s x) (is_site_up (vector w p) s) parts.0).1, not_false (is_copy_locked p s x) parts.1)

  module _ (p : List Noted) where
    all_due : (out : List Copying) (s : Site) → AreDue p (rows.copies_due w p out s)
    all_due out s = all_mapped (IsDue p) _ (items w) due
      where
        under_way : Item → Bool
        under_way x = list_any (λ (c : Copying). is_site s c.target && is_item x c.item) out

        found : (x : Item) (o : Option Site) (c : Copying) → is_locked w p s x ≡ true → slice_get (sources w p x) 0 ≡ o → option_map (λ r. let c : Copying = record { target = s; item = x; source = r } in c) o ≡ Some c → IsDue p c
        found x None c locked q e = absurd (cc e)
        found x (Some r) c locked q e =
            subst (IsDue p) (some_is (record { target = s; item = x; source = r }) c e)
            (record { held = (and_parts (is_held w s x) (is_copy_locked p s x) locked).0; locked = (and_parts (is_held w s x) (is_copy_locked p s x) locked).1; unlocked = (source_unlocked p x r (first_in (sources w p x) r q)).1 })

        due : (x : Item) (c : Copying) → (if is_locked w p s x && not (under_way x) then option_map (λ r. let c : Copying = record { target = s; item = x; source = r } in c) (slice_get (sources w p x) 0) else None) ≡ Some c → IsDue p c
        due x c q = go (is_locked w p s x && not (under_way x)) refl q
          where
            go : (b : Bool) → (is_locked w p s x && not (under_way x)) ≡ b → (if b then option_map (λ r. let c : Copying = record { target = s; item = x; source = r } in c) (slice_get (sources w p x) 0) else None) ≡ Some c → IsDue p c
            go true e q = found x (slice_get (sources w p x) 0) c (and_parts (is_locked w p s x) (not (under_way x)) e).0 refl q
            go false e q = absurd (cc q)

    sites_due : (out : List Copying) (ss : List Site) → AreDue p (flat_map (rows.copies_due w p out) ss)
    sites_due out [] = tt
    sites_due out (s ∷ ss) = all_append (IsDue p) (rows.copies_due w p out s) (flat_map (rows.copies_due w p out) ss) (all_due out s) (sites_due out ss)

  module _ (from : ℕ) (letter : Letter) (first : List Noted) where
    -- an Ack and a Clear answer the letter, on the history before it; who goes down and comes up is known; and an Up opens a new session
    abbrev pub Why : List Noted → Entry → Type 0
    Why p (Ack t s) = (k : ℕ) × ((from ≡ k + 2) × ((letter.message ≡ letters.Ack t) × ((s ≡ site (k + 1)) × (p ≡ first))))
    Why p (Clear s x v) = (k : ℕ) × ((from ≡ k + 2) × ((letter.message ≡ letters.CopyDone x v) × ((s ≡ site (k + 1)) × (p ≡ first))))
    Why p (Down s) = knows_site w s ≡ true
    Why p (Up s n) = (knows_site w s ≡ true) × (last_session p s < n)
    Why p other = ⊤

    -- the second turn is the first with entries placed one after the other, copies sent for, and ends counted
    pub data Steps : Turn Sequencer → Turn Sequencer → Type 0 where
      done : {turn : Turn Sequencer} → Steps turn turn
      placed : {turn last : Turn Sequencer} (ask : ℕ) (e : Entry) → Placed w turn.state.history → Placeable w (so_far turn) e → Why (so_far turn) e → Steps (place w ask turn e) last → Steps turn last
      renews : {turn next last : Turn Sequencer} (due : List Copying) → next.state.history ≡ turn.state.history → next.outs ≡ turn.outs ++ map (rows.copy_out (vector w (so_far turn))) due → AreDue (so_far turn) due → Steps next last → Steps turn last
      counts : {turn next last : Turn Sequencer} (n : ℕ) → next.state.history ≡ turn.state.history → next.outs ≡ turn.outs ++ (0, 0, letters.Ends n) ∷ [] → Steps next last → Steps turn last
      passes : {turn next last : Turn Sequencer} → next.state.history ≡ turn.state.history → next.outs ≡ turn.outs → Steps next last → Steps turn last

    pub on : {a b c : Turn Sequencer} → Steps a b → Steps b c → Steps a c
    on done s = s
    on (placed ask e p q y r) s = placed ask e p q y (on r s)
    on (renews due q r d t) s = renews due q r d (on t s)
    on (counts n q r t) s = counts n q r (on t s)
    on (passes q r t) s = passes q r (on t s)

    compelled_why : (p : List Noted) (e : Entry) → Compels w p e → Why p e
    compelled_why p (Abort t cause act) c = tt
    compelled_why p (Commit t request applied) c = tt
    compelled_why p (SwitchOn k kind method) c = tt
    compelled_why p (SwitchEnd k) c = tt
    compelled_why p other c = absurd c

    settle_from_steps : (i : ℕ) (turn : Turn Sequencer) → Placed w turn.state.history → Steps turn (settle_from w i turn)
    settle_from_steps zero turn p = done
    settle_from_steps (suc i) turn p = go (forced w (so_far turn)) refl (λ e. settle_from_steps i (place w 0 turn e))
      where
        go : (o : Option Entry) → forced w (so_far turn) ≡ o → ((e : Entry) → Placed w (place w 0 turn e).state.history → Steps (place w 0 turn e) (settle_from w i (place w 0 turn e))) → Steps turn (option_map_or (λ e. settle_from w i (place w 0 turn e)) o turn)
        go None q rest = done
        go (Some e) q rest =
            let goes : Placeable w (so_far turn) e = forced_placeable w (so_far turn) e q in
            placed 0 e p goes (compelled_why (so_far turn) e (forced_compels w (so_far turn) e q)) (rest e (place_placed w 0 turn e p goes))

    settle_steps : (turn : Turn Sequencer) → Placed w turn.state.history → Steps turn (settle w turn)
    settle_steps turn p = settle_from_steps _ turn p

    finish_steps : (state : Sequencer) (turn : Turn Sequencer) → Placed w turn.state.history → Steps turn (finish w state turn)
    finish_steps state turn p = on (settle_steps turn p) (ending (settle w turn))
      where
        ending : (turn : Turn Sequencer) → Steps turn (rows.send_ends (ends (noted state.history)) (rows.send_copies w turn))
        ending turn = renews {next = rows.send_copies w turn} due refl refl (sites_due (so_far turn) turn.state.copying (filter (is_up w (so_far turn)) (sites w))) (counted (nat_lt (ends (noted state.history)) (ends (so_far turn))))
          where
            due : List Copying
            due = flat_map (rows.copies_due w (so_far turn) turn.state.copying) (filter (is_up w (so_far turn)) (sites w))

            sent : Turn Sequencer
            sent = rows.send_copies w turn

            counted : (b : Bool) → Steps sent (let next : Turn Sequencer = record { state = sent.state; outs = sent.outs ++ (if b then (0, 0, letters.Ends (ends (so_far turn))) ∷ [] else []) } in next)
            counted true = counts (ends (so_far turn)) refl refl done
            counted false = passes refl (append-nil sent.outs) done

    one : (ask : ℕ) (turn : Turn Sequencer) (e : Entry) → Fine w turn → Sent w (so_far turn) e → Why (so_far turn) e → Steps turn (place w ask turn e)
    one ask turn e fine s y = placed ask e fine.0 (unforced_placeable w (so_far turn) e fine.1 s) y done

    if_steps : (ask : ℕ) (turn : Turn Sequencer) (o : Option Entry) → Fine w turn → ((e : Entry) → o ≡ Some e → Sent w (so_far turn) e × Why (so_far turn) e) → Steps turn (place_if w ask turn o)
    if_steps ask turn None fine s = done
    if_steps ask turn (Some e) fine s = (let both = s e refl in one ask turn e fine both.0 both.1)

    when_steps : (turn : Turn Sequencer) (b : Bool) (e : Entry) → Fine w turn → (b ≡ true → Sent w (so_far turn) e) → Why (so_far turn) e → Steps turn (place_if w 0 turn (if b then Some e else None))
    when_steps turn true e fine s y = one 0 turn e fine (s refl) y
    when_steps turn false e fine s y = done

    free_steps : (ask : ℕ) (turn : Turn Sequencer) (t : Txn) (o : Option Entry) → Fine w turn → (is_free (so_far turn) t ≡ true → (e : Entry) → o ≡ Some e → Sent w (so_far turn) e × Why (so_far turn) e) → Steps turn (rows.free_row w ask turn t o)
    free_steps ask turn t o fine s = step (is_free (so_far turn) t) refl
      where
        step : (b : Bool) → is_free (so_far turn) t ≡ b → Steps turn (if b then place_if w ask turn o else turn)
        step true q = if_steps ask turn o fine (s q)
        step false q = done

    served_why : (p : List Noted) (t : Txn) (x : Item) (o : Option Site) (v : Verdict) → Why p (served t x o v)
    served_why p t x None v = tt
    served_why p t x (Some s) (verdicts.Reject why) = tt
    served_why p t x (Some s) verdicts.Wait = tt
    served_why p t x (Some s) verdicts.Grant = tt

    waits_why : (p : List Noted) (t : Txn) (request : Request) (a b : Bool) (e : Entry) → (if a then None else if b then Some (Abort t causes.Deadlock (acts.Commit request)) else Some (Wait t request)) ≡ Some e → Why p e
    waits_why p t request true b e q = absurd (none_is e q)
    waits_why p t request false true e q = subst (Why p) (some_is _ e q) tt
    waits_why p t request false false e q = subst (Why p) (some_is _ e q) tt

    answered_why : (p : List Noted) (t : Txn) (request : Request) (o : Option Cause) (e : Entry) → answered w p t request o ≡ Some e → Why p e
    answered_why p t request (Some why) e q = subst (Why p) (some_is _ e q) tt
    answered_why p t request None e q = decides (verdict w p (writing t (stamp p t) request.writes)) q
      where
        decides : (v : Verdict) → decided w p t request v ≡ Some e → Why p e
        decides (verdicts.Reject why) q = subst (Why p) (some_is _ e q) tt
        decides verdicts.Grant q = subst (Why p) (some_is _ e q) tt
        decides verdicts.Wait q = waits_why p t request (is_waiting p t) (closes_waits w p t request) e q

    -- forced entries leave each site's last session
    compelled_still : (p : List Noted) (e : Entry) → Compels w p e → is_still e ≡ true
    compelled_still p (Abort t cause act) c = refl
    compelled_still p (Commit t request applied) c = refl
    compelled_still p (SwitchOn k kind method) c = refl
    compelled_still p (SwitchEnd k) c = refl
    compelled_still p other c = absurd c

    settled_last : (s : Site) (turn last : Turn Sequencer) → Settles w turn last → last_session (so_far last) s ≡ last_session (so_far turn) s
    settled_last s turn last (quiet q) = refl
    settled_last s turn last (more {e = e} q rest) = settled_last s (place w 0 turn e) last rest ∙ last_still w turn.state.history e s (compelled_still (so_far turn) e (forced_compels w (so_far turn) e q))

    settle_last : (turn : Turn Sequencer) (s : Site) → Placed w turn.state.history → last_session (so_far (settle w turn)) s ≡ last_session (so_far turn) s
    settle_last turn s p = settled_last s turn (settle w turn) (settle_settles w turn p)

    -- a Hello is of a known site, and opens a new session
    abbrev pub IsOpening : Type 0
    IsOpening = (k : ℕ) → from ≡ k + 2 → letter.message ≡ letters.Hello → last_session first (site (k + 1)) < letter.from

    abbrev pub IsKnown : Type 0
    IsKnown = (k : ℕ) → from ≡ k + 2 → knows_site w (site (k + 1)) ≡ true

    module _ (opens : IsOpening) (known : IsKnown) where
      hello_steps : (turn : Turn Sequencer) (s : Site) (n : ℕ) → Fine w turn → knows_site w s ≡ true → last_session (so_far turn) s < n → Steps turn (rows.hello_row w turn s n)
      hello_steps turn s n fine is new = on (left (is_up w (so_far turn) s) refl) (on (one 0 (leave w turn s) (Up s n) gone.0 gone.1 (is, newer (is_up w (so_far turn) s) refl)) (again (nat_le n (rows.announced up s))))
        where
          gone : Fine w (leave w turn s) × (is_up w (so_far (leave w turn s)) s ≡ false)
          gone = leave_fine w turn s fine

          up : Turn Sequencer
          up = place w 0 (leave w turn s) (Up s n)

          up_placed : Placed w up.state.history
          up_placed = sent_placed w 0 (leave w turn s) (Up s n) gone.0 gone.1

          newer : (b : Bool) → is_up w (so_far turn) s ≡ b → last_session (so_far (if b then settle w (place w 0 turn (Down s)) else turn)) s < n
          newer true q = (let same = settle_last (place w 0 turn (Down s)) s (sent_placed w 0 turn (Down s) fine tt) ∙ last_down w turn.state.history s s in omega (arith, same, new))
          newer false q = new

          left : (b : Bool) → is_up w (so_far turn) s ≡ b → Steps turn (if b then settle w (place w 0 turn (Down s)) else turn)
          left true q = on (one 0 turn (Down s) fine tt is) (settle_steps (place w 0 turn (Down s)) (sent_placed w 0 turn (Down s) fine tt))
          left false q = done

          again : (b : Bool) → Steps up (if b then place w 0 (settle w up) (Down s) else up)
          again true = on (settle_steps up up_placed) (one 0 (settle w up) (Down s) (settle_placed w up up_placed, settle_quiet w up up_placed) tt is)
          again false = done

      row_steps : (turn : Turn Sequencer) (k : ℕ) (m : Message) → letter.message ≡ m → from ≡ k + 2 → Fine w turn → so_far turn ≡ first → Steps turn (rows.site_row w turn (site (k + 1)) letter.from m)
      row_steps turn k letters.Hello q of fine same = hello_steps turn (site (k + 1)) letter.from fine (known k of) (subst (λ p. last_session p (site (k + 1)) < letter.from) (sym same) (opens k of q))
      row_steps turn k (letters.Begin t) q of fine same = when_steps turn (may_begin w (so_far turn) t) (Begin t (home w t)) fine (λ m. (refl, m)) tt
      row_steps turn k (letters.ReadAsk t ask x) q of fine same =
          free_steps ask turn t (Some (answer_read w (so_far turn) t x)) fine
          (λ free e r. subst (λ e. Sent w (so_far turn) e × Why (so_far turn) e) (some_is _ e r) (read_sent w (so_far turn) t x free, served_why (so_far turn) t x (source_for (sources w (so_far turn) x) (home w t)) (verdict w (so_far turn) (reading t (stamp (so_far turn) t) x))))
      row_steps turn k (letters.CommitAsk t request) q of fine same =
          free_steps 0 turn t (answer_commit w (so_far turn) t request) fine (λ free e r. (commit_sent w (so_far turn) t request e free r, answered_why (so_far turn) t request (site_refusal w (so_far turn) request) e r))
      row_steps turn k (letters.EndAsk t cause reads) q of fine same =
          free_steps 0 turn t (Some (Abort t cause (acts.Ended reads))) fine (λ free e r. subst (λ e. Sent w (so_far turn) e × Why (so_far turn) e) (some_is _ e r) (free, tt))
      row_steps turn k (letters.Ack t) q of fine same = when_steps turn (owes (so_far turn) (site (k + 1)) t) (Ack t (site (k + 1))) fine (λ m. m) (k, (of, (q, (refl, same))))
      row_steps turn k (letters.CopyDone x v) q of fine same =
          on (when_steps turn (is_locked w (so_far turn) (site (k + 1)) x && v == version (so_far turn) x) (Clear (site (k + 1)) x v) fine
          (λ m. (let both = and_parts (is_locked w (so_far turn) (site (k + 1)) x) (v == version (so_far turn) x) m in (both.0, eqb-true v (version (so_far turn) x) both.1))) (k, (of, (q, (refl, same)))))
          (closes (place_if w 0 turn (if is_locked w (so_far turn) (site (k + 1)) x && v == version (so_far turn) x then Some (Clear (site (k + 1)) x v) else None)))
        where
          closes : (turn : Turn Sequencer) → Steps turn (rows.close turn (site (k + 1)) x)
          closes turn = passes {next = rows.close turn (site (k + 1)) x} refl refl done
      row_steps turn k other q of fine same = done

      -- what the sequencer does with a letter that it takes
      heard_steps : (state : Sequencer) (k : ℕ) → from ≡ k + 2 → noted state.history ≡ first → Fine w (opened state) → Steps (opened state) (finish w state (rows.site_row w (opened state) (site (k + 1)) letter.from letter.message))
      heard_steps state k of same fine =
          on (row_steps (opened state) k letter.message refl of fine same) (finish_steps state (rows.site_row w (opened state) (site (k + 1)) letter.from letter.message) (row_placed w (opened state) (site (k + 1)) letter.from letter.message fine))

      down_steps : (state : Sequencer) (m : Message) → Fine w (opened state) → Steps (opened state) (rows.hear_down w state m)
      down_steps state (letters.Down s n) fine = step (knows_site w s) refl
        where
          now : Turn Sequencer
          now = rows.announce (opened state) s n

          step : (b : Bool) → knows_site w s ≡ b → Steps (opened state) (if b then finish w state (rows.down_row w (opened state) s n) else opened state)
          step true is =
              passes {next = now} refl refl
              (on (when_steps now (is_up w (so_far now) s && session (vector w (so_far now)) s == n) (Down s) fine (λ q. tt) is) (finish_steps state (rows.down_row w (opened state) s n) (down_placed w (opened state) s n fine)))
          step false is = done
      down_steps state other fine = done

      pub hear_steps : (state : Sequencer) (f : ℕ) → from ≡ f → noted state.history ≡ first → Placed w state.history → forced w (noted state.history) ≡ None → Steps (opened state) (hear_sequencer w state f letter)
      hear_steps state zero of same p q = down_steps state letter.message (p, q)
      hear_steps state (suc zero) of same p q = done
      hear_steps state (suc (suc k)) of same p q = go ((rows.is_hello letter.message || letter.from == session (vector w (noted state.history)) (site (k + 1))) && is_to_sequencer w letter.message)
        where
          place_is : from ≡ suc (suc k) → from ≡ k + 2
          place_is e = omega (arith, e)

          go : (b : Bool) → Steps (opened state) (if b then finish w state (rows.site_row w (opened state) (site (k + 1)) letter.from letter.message) else opened state)
          go true = heard_steps state k (place_is of) same (p, q)
          go false = done
