-- The sequencer's step, entry by entry: each is forced, or is of no program, or answers what the letter asks.
use Rattle.std.proofs.Common.{◌≡◌, ℕ, ℤ, zero, suc, ◌+◌, ◌==◌, nat_le, Bool, true, false, ◌&&◌, ◌||◌, List, [], ◌∷◌, ◌++◌, Option, Some, None, if◌then◌else◌, arith, sym, ap, ◌∙◌, refl}
use Rattle.std.specs.Prelude.{⊤}
use Rattle.std.specs.Option.{option_map_or}
use Rattle.raid_base.specs.declared.names.Txn.{Txn}
use Rattle.raid_base.specs.declared.names.Item.{Item}
use Rattle.raid_base.specs.declared.names.Site.{Site}
use Rattle.raid_base.specs.declared.request.Request.{Request}
use Rattle.raid_base.specs.declared.entry.Act.TheVariants as acts
use Rattle.raid_base.specs.declared.entry.Cause.{Cause}
use Rattle.raid_base.specs.declared.entry.Entry.{Entry}
use Rattle.raid_base.specs.declared.entry.Entry.TheVariants.{Begin, Read, Wait, Commit, Abort, Ack, Down, Up, Clear}
use Rattle.raid_base.specs.declared.entry.Noted.{Noted}
use Rattle.raid_base.specs.Sites.{session, site}
use Rattle.raid_workload.specs.declared.workload.Workload.{Workload}
use Rattle.raid_workload.specs.Parts.{home}
use Rattle.raid_rules.specs.History.{noted, version}
use Rattle.raid_rules.specs.Sessions.{owes}
use Rattle.raid_legal.specs.Seen.{vector, is_up, is_locked}
use Rattle.raid_legal.specs.Answers.{answer_read, answer_commit}
use Rattle.raid_legal.specs.Forced.{forced}
use Rattle.raid_legal.specs.Legal.{is_free, may_begin}
use Rattle.raid_message.specs.declared.letter.Message.{Message}
use Rattle.raid_message.specs.declared.letter.Message.TheVariants as letters
use Rattle.raid_message.specs.declared.letter.Letter.{Letter}
use Rattle.raid_steps.specs.State.{Turn, Sequencer, opened}
use Rattle.raid_steps.specs.Fits.{knows_site, is_to_sequencer}
use Rattle.raid_steps.specs.Sequencer as rows
use Rattle.raid_steps.specs.Sequencer.{so_far, place, place_if, settle_from, settle, finish, hear_sequencer}

-- the entry tells nothing of what a program does
abbrev pub IsPlain : Entry → Type 0
IsPlain (Read t x s) = ⊥
IsPlain (Wait t request) = ⊥
IsPlain (Commit t request applied) = ⊥
IsPlain (Abort t cause act) = ⊥
IsPlain other = ⊤

module _ (w : Workload) (from : ℕ) (letter : Letter) where
  -- the entry answers what a site asks in the letter, after these entries
  pub data IsAnswer (p : List Noted) (e : Entry) : Type 0 where
    to_read : (k : ℕ) (t : Txn) (ask : ℕ) (x : Item) → from ≡ k + 2 → letter.message ≡ letters.ReadAsk t ask x → is_free p t ≡ true → e ≡ answer_read w p t x → IsAnswer p e
    to_commit : (k : ℕ) (t : Txn) (request : Request) → from ≡ k + 2 → letter.message ≡ letters.CommitAsk t request → is_free p t ≡ true → answer_commit w p t request ≡ Some e → IsAnswer p e
    to_end : (k : ℕ) (t : Txn) (cause : Cause) (reads : List (Item × ℤ)) → from ≡ k + 2 → letter.message ≡ letters.EndAsk t cause reads → is_free p t ≡ true → e ≡ Abort t cause (acts.Ended reads) → IsAnswer p e

  module _ (first : List Entry) where
    -- why the entry comes after these, in a step that began with the first history
    pub data Reason (h : List Entry) (e : Entry) : Type 0 where
      must : forced w (noted h) ≡ Some e → Reason h e
      plain : IsPlain e → Reason h e
      answers : h ≡ first → IsAnswer (noted first) e → Reason h e

    pub data Chain : List Entry → List Entry → Type 0 where
      done : {h : List Entry} → Chain h h
      places : {h last : List Entry} (e : Entry) → Reason h e → Chain (h ++ e ∷ []) last → Chain h last

    on : {a b c : List Entry} → Chain a b → Chain b c → Chain a c
    on done s = s
    on (places e y r) s = places e y (on r s)

    -- from one turn to another
    abbrev Goes : Turn Sequencer → Turn Sequencer → Type 0
    Goes a b = Chain a.state.history b.state.history

    one : (ask : ℕ) (turn : Turn Sequencer) (e : Entry) → Reason turn.state.history e → Goes turn (place w ask turn e)
    one ask turn e y = places e y done

    settle_from_goes : (i : ℕ) (turn : Turn Sequencer) → Goes turn (settle_from w i turn)
    settle_from_goes zero turn = done
    settle_from_goes (suc i) turn = go (forced w (so_far turn)) refl (λ e. settle_from_goes i (place w 0 turn e))
      where
        go : (o : Option Entry) → forced w (so_far turn) ≡ o → ((e : Entry) → Goes (place w 0 turn e) (settle_from w i (place w 0 turn e))) → Goes turn (option_map_or (λ e. settle_from w i (place w 0 turn e)) o turn)
        go None q rest = done
        go (Some e) q rest = places e (must q) (rest e)

    settles : (turn : Turn Sequencer) → Goes turn (settle w turn)
    settles turn = settle_from_goes _ turn

    finishes : (state : Sequencer) (turn : Turn Sequencer) → Goes turn (finish w state turn)
    finishes state turn = settles turn

    when_plain : (turn : Turn Sequencer) (b : Bool) (e : Entry) → IsPlain e → Goes turn (place_if w 0 turn (if b then Some e else None))
    when_plain turn true e y = one 0 turn e (plain y)
    when_plain turn false e y = done

    leaves : (turn : Turn Sequencer) (s : Site) → Goes turn (rows.leave w turn s)
    leaves turn s = go (is_up w (so_far turn) s)
      where
        go : (b : Bool) → Goes turn (if b then settle w (place w 0 turn (Down s)) else turn)
        go true = places (Down s) (plain tt) (settles (place w 0 turn (Down s)))
        go false = done

    hellos : (turn : Turn Sequencer) (s : Site) (n : ℕ) → Goes turn (rows.hello_row w turn s n)
    hellos turn s n = on (leaves turn s) (places (Up s n) (plain tt) (again (nat_le n (rows.announced up s))))
      where
        up : Turn Sequencer
        up = place w 0 (rows.leave w turn s) (Up s n)

        again : (b : Bool) → Goes up (if b then place w 0 (settle w up) (Down s) else up)
        again true = on (settles up) (one 0 (settle w up) (Down s) (plain tt))
        again false = done

    -- an answer that there may be, to who may ask
    answered_if : (ask : ℕ) (turn : Turn Sequencer) (t : Txn) (o : Option Entry) → turn.state.history ≡ first → (is_free (so_far turn) t ≡ true → (e : Entry) → o ≡ Some e → IsAnswer (noted first) e) → Goes turn (rows.free_row w ask turn t o)
    answered_if ask turn t o start h = go (is_free (so_far turn) t) refl
      where
        some : is_free (so_far turn) t ≡ true → (o : Option Entry) → ((e : Entry) → o ≡ Some e → IsAnswer (noted first) e) → Goes turn (place_if w ask turn o)
        some q None f = done
        some q (Some e) f = one ask turn e (answers start (f e refl))

        go : (b : Bool) → is_free (so_far turn) t ≡ b → Goes turn (if b then place_if w ask turn o else turn)
        go true q = some q o (h q)
        go false q = done

    row_goes : (turn : Turn Sequencer) → turn.state.history ≡ first → (k : ℕ) (m : Message) → letter.message ≡ m → from ≡ k + 2 → Goes turn (rows.site_row w turn (site (k + 1)) letter.from m)
    row_goes turn start k letters.Hello q of = hellos turn (site (k + 1)) letter.from
    row_goes turn start k (letters.Begin t) q of = when_plain turn (may_begin w (so_far turn) t) (Begin t (home w t)) tt
    row_goes turn start k (letters.ReadAsk t ask x) q of =
        answered_if ask turn t (Some (answer_read w (so_far turn) t x)) start
        (λ free e is. to_read k t ask x of q (ap (λ h. is_free (noted h) t) (sym start) ∙ free) (some_is e is ∙ ap (λ h. answer_read w (noted h) t x) start))
      where
        some_is : (e : Entry) → Some (answer_read w (so_far turn) t x) ≡ Some e → e ≡ answer_read w (so_far turn) t x
        some_is e is = cc is
    row_goes turn start k (letters.CommitAsk t request) q of =
        answered_if 0 turn t (answer_commit w (so_far turn) t request) start
        (λ free e is. to_commit k t request of q (ap (λ h. is_free (noted h) t) (sym start) ∙ free) (ap (λ h. answer_commit w (noted h) t request) (sym start) ∙ is))
    row_goes turn start k (letters.EndAsk t cause told) q of =
        answered_if 0 turn t (Some (Abort t cause (acts.Ended told))) start (λ free e is. to_end k t cause told of q (ap (λ h. is_free (noted h) t) (sym start) ∙ free) (cc is))
    row_goes turn start k (letters.Ack t) q of = when_plain turn (owes (so_far turn) (site (k + 1)) t) (Ack t (site (k + 1))) tt
    row_goes turn start k (letters.CopyDone x v) q of = when_plain turn (is_locked w (so_far turn) (site (k + 1)) x && v == version (so_far turn) x) (Clear (site (k + 1)) x v) tt
    row_goes turn start k other q of = done

  down_goes : (state : Sequencer) (m : Message) → Goes state.history (opened state) (rows.hear_down w state m)
  down_goes state (letters.Down s n) = go (knows_site w s)
    where
      now : Turn Sequencer
      now = rows.announce (opened state) s n

      go : (b : Bool) → Goes state.history (opened state) (if b then finish w state (rows.down_row w (opened state) s n) else opened state)
      go true = on state.history (when_plain state.history now (is_up w (so_far now) s && session (vector w (so_far now)) s == n) (Down s) tt) (finishes state.history state (rows.down_row w (opened state) s n))
      go false = done
  down_goes state other = done

  -- the step
  pub hear_chain : (state : Sequencer) (f : ℕ) → from ≡ f → Chain state.history state.history (hear_sequencer w state f letter).state.history
  hear_chain state zero of = down_goes state letter.message
  hear_chain state (suc zero) of = done
  hear_chain state (suc (suc k)) of = go ((rows.is_hello letter.message || letter.from == session (vector w (noted state.history)) (site (k + 1))) && is_to_sequencer w letter.message)
    where
      go : (b : Bool) → Goes state.history (opened state) (if b then finish w state (rows.site_row w (opened state) (site (k + 1)) letter.from letter.message) else opened state)
      go true = on state.history (row_goes state.history (opened state) refl k letter.message refl (let e : from ≡ k + 2 = omega (arith, of) in e)) (finishes state.history state (rows.site_row w (opened state) (site (k + 1)) letter.from letter.message))
      go false = done
