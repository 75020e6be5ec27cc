-- In every run, what programs have asked was answered or is on its way.
use Rattle.std.proofs.Common.{◌≡◌, ◌≢◌, ◌⊎◌, inl, inr, ℕ, suc, ◌+◌, ◌-◌, ◌<◌, ◌==◌, Bool, true, false, not, List, [], ◌∷◌, ◌++◌, Option, Some, None, if◌then◌else◌, arith, sym, subst, ap, ◌∙◌, refl, append-nil}
use Rattle.std.specs.Prelude.{count_by, slice_get}
use Rattle.std.specs.List.{AllByRecursion}
use Rattle.std.proofs.lemmas.Bool.{and_from, true≢false, eqb-true}
use Rattle.raid_base.specs.declared.names.Txn.{Txn}
use Rattle.raid_base.specs.declared.entry.Noted.{Noted}
use Rattle.raid_base.specs.Names.{is_txn, has_txn}
use Rattle.raid_base.specs.Sites.{session, site}
use Rattle.raid_workload.specs.declared.workload.Workload.{Workload}
use Rattle.raid_workload.specs.Parts.{home}
use Rattle.raid_rules.specs.Entries.{is_end_of}
use Rattle.raid_rules.specs.History.{noted, has_begun, has_ended, is_running, is_waiting}
use Rattle.raid_rules.specs.Sessions.{last_session}
use Rattle.raid_legal.specs.Seen.{vector}
use Rattle.raid_legal.specs.Legal.{is_free}
use Rattle.raid_message.specs.declared.letter.Message.{Message}
use Rattle.raid_message.specs.declared.letter.Message.TheVariants as letters
use Rattle.raid_message.specs.declared.letter.Letter.{Letter}
use Rattle.raid_message.specs.declared.letter.Pick.{Pick}
use Rattle.raid_steps.specs.State.{Turn, opened, Phase, asking, preparing, sent, Running, SiteState}
use Rattle.raid_steps.specs.Fits.{is_to_sequencer}
use Rattle.raid_steps.specs.Programs.{running_of}
use Rattle.raid_steps.specs.Sequencer.{is_hello, hear_sequencer}
use Rattle.raid_steps.specs.Site.{hear_site}
use Rattle.raid_steps.specs.World.{World, Servers, link, run}
use Rattle.raid_placed.proofs.Orderly.{placed_whole}
use Rattle.raid_sessions.proofs.Agreed as agreed
use Rattle.raid_sessions.proofs.Lists.{same_self}
use Rattle.raid_sessions.proofs.Mail.{same_or_not, letters_to, moved}
use Rattle.raid_sessions.proofs.Reached.{from_below}
use Rattle.raid_moves.proofs.Places.{all_found, found_txn, program_of}
use Rattle.raid_moves.proofs.Steps.{site_moves}
use Rattle.raid_asks.specs.Way.{begun_by, begins_of as begins}
use Rattle.raid_asks.proofs.Cares.{Stage, stopped, asleep, awake}
use Rattle.raid_asks.proofs.Cares as cares
use Rattle.raid_asks.proofs.Line.{FineAt}
use Rattle.raid_asks.proofs.Reached.{first_state}
use Rattle.raid_letters.specs.Says.{AskSays, NoteSays}
use Rattle.raid_letters.proofs.Runs.{LetterSays}
use Rattle.raid_layers.specs.Asks.{ask_of, asks_of, has_waited, asks_end, Closing, taken, closes, IsAbout, Talks}
use Rattle.raid_layers.proofs.AtSequencer.{firsts}
use Rattle.raid_layers.proofs.Opening.{Opens, hear_opens}
use Rattle.raid_layers.proofs.Runs.{empty_at}
use Rattle.raid_layers.proofs.Settled.{chain_settled}
use Rattle.raid_layers.proofs.SiteWorlds as steps
use Rattle.raid_layers.proofs.SiteWorlds.{HomeStep, home_step, none_there, line}
use Rattle.raid_layers.proofs.Tokens.{IsAskOf, AsksFor, asks_not, asks_it, asks_for, asked_home}
use Rattle.raid_layers.proofs.Turns.{IsKnown}
use Rattle.raid_layers.proofs.Worlds.{Landed}
use Rattle.raid_witness.specs.Fit.{AskFits}
use Rattle.raid_answered.specs.Answered.{IsAnswered, AsksAreAnswered}
use Rattle.raid_answered.proofs.Answers.{Counted, IsAnswer, unwaiting, unasked_often, ask_answered}
use Rattle.raid_answered.proofs.Counts.{count_cons, waits_counted, IsAsOften, asks_item, ends_asked, Balance, waited_waits}
use Rattle.raid_answered.proofs.Frame.{Found, found, Asked, left, took, Each, AtSequencer, AtSite, in_runs}
use Rattle.raid_answered.proofs.Sites.{step_kept}
use Rattle.raid_answered.proofs.Turns.{BeginsFirst, behind_none, none_first, Books, Kept, asked_is}

-- an ask is no Hello, and begins nothing
no_hello : (t : Txn) (m : Message) → IsAskOf t m → is_hello m ≡ false
no_hello t letters.Hello h = absurd h
no_hello t other h = refl

begins_none : (t : Txn) (m : Message) → IsAskOf t m → begun_by m ≡ []
begins_none t (letters.Begin u) h = absurd h
begins_none t other h = refl

-- it fits
ask_fits : (w : Workload) (t : Txn) (m : Message) → IsAskOf t m → AskFits w m → is_to_sequencer w m ≡ true
ask_fits w t (letters.ReadAsk u ask x) h fits = fits
ask_fits w t (letters.CommitAsk u request) h fits = fits
ask_fits w t (letters.EndAsk u cause reads) h fits = fits
ask_fits w t other h fits = absurd h

-- the first of what is asked was answered
answered_balance : (p q : List Noted) (t : Txn) (m : Message) (rest : List Message) (items ends : ℕ) → Counted t m p q → Balance p t (m ∷ rest) items ends → Balance q t rest items ends
answered_balance p q t m rest items ends c b = record {
  reads = (let now = c.reads in let was = b.reads in let count = count_cons asks_item m rest (asks_item m) refl in omega (arith, now, was, count));
  waits = (let now = c.waits in let was = b.waits in let count = count_cons asks_end m rest (asks_end m) refl in omega (arith, now, was, count));
}

often_balance : (p q : List Noted) (t : Txn) (asks : List Message) (items ends : ℕ) → IsAsOften t p q → Balance p t asks items ends → Balance q t asks items ends
often_balance p q t asks items ends same b = record { reads = ap (λ n. n + count_by asks_item asks) same.reads ∙ b.reads; waits = ap (λ n. n + count_by asks_end asks) same.waits ∙ b.waits }

-- while an ask of it is on its way, a transaction that isn't over wasn't made to wait
asks_unwaited : (p : List Noted) (links : List (List (List Letter))) (k m : ℕ) (t : Txn) (number : ℕ) (answers : _) (message : Message) (rest : List Message) (phase : Phase) →
    IsAbout p links k m t number answers (message ∷ rest) phase → Balance p t (message ∷ rest) number (ends_asked phase) → has_waited p t ≡ false
asks_unwaited p links k m t number answers message rest (asking ask x q) about b = about.1.0
asks_unwaited p links k m t number answers message rest (preparing told writes awaited) about b = about.1.0
asks_unwaited p links k m t number answers message rest sent about b = go about.0
  where
    go : Closing p t (message ∷ rest) → has_waited p t ≡ false
    go (taken e) = absurd (cc e)
    go (closes last e ends) =
        let same : message ≡ last = cc e in
        let count = count_cons asks_end message rest true (ap asks_end same ∙ ends) in
        let was = b.waits in
        waits_counted p t 0 (omega (arith, was, count))

module _ (w : Workload) where
  -- at an up site whose session is the last told
  abbrev J : ℕ → List Noted → SiteState → List Letter → Type 0
  J k p state asks = state.up ≡ true → last_session p (site (k + 1)) ≡ state.session → (t : Txn) → Books p t (asks_of t asks) (running_of state t) × BeginsFirst state.session t asks

  -- of who runs there, the Begin is on its way exactly where the history hasn't it
  fine_at : (s : Servers) (links : List (List (List Letter))) (landed : Landed w s links) (k : ℕ) (state : SiteState) → slice_get s.sites k ≡ Some state → (t : Txn) (r : Running) → running_of state t ≡ Some r →
      FineAt w (site (k + 1)) (noted s.sequencer.history) (begins state.session (link links 1 (k + 2))) t
  fine_at s links landed k state at t r f = go (landed.waits k state at).stage
    where
      p : List Noted
      p = noted s.sequencer.history

      bs : List Txn
      bs = begins state.session (link links 1 (k + 2))

      go : Stage w k (noted s.sequencer.history) state.up state.session state.running state.next (begins state.session (link links 1 (k + 2))) (link links (k + 2) 1) → FineAt w (site (k + 1)) (noted s.sequencer.history) (begins state.session (link links 1 (k + 2))) t
      go (stopped d e z) = absurd (none_there state.running t r e f)
      go (asleep u l e z b) = absurd (none_there state.running t r e f)
      go (cares.fresh u l e z b n) = absurd (none_there state.running t r e f)
      go (awake u l fine c) = subst (FineAt w (site (k + 1)) p bs) (found_txn t state.running r f) (all_found (λ (r : Running). FineAt w (site (k + 1)) p bs r.txn) (λ (r : Running). is_txn t r.txn) state.running r fine f)

  -- the site's own step
  own : AtSite w J
  own s links was from clock letter rest j state at front is kept = go (home_step w state from letter)
    where
      turn : Turn SiteState
      turn = hear_site w state from letter

      p : List Noted
      p = noted s.sequencer.history

      asks : List Letter
      asks = link links 1 (j + 2)

      bs : List Txn
      bs = begins state.session asks

      world : World
      world = record { servers = s; links = links; clocks = []; journals = [] }

      note : from ≡ 1 → NoteSays w (noted s.sequencer.history) (site (j + 1)) letter.to letter.message
      note of =
          let says = (subst (AllByRecursion (LetterSays w p (suc (suc j)) from)) front (was.landed.says (suc (suc j)) from)).0 in
          subst (λ z. NoteSays w p z letter.to letter.message) (ap site (let e : suc (suc j) - 1 ≡ j + 1 = omega arith in e)) (subst (λ d. LetterSays w p (suc (suc j)) d letter) of says)

      known : from < w.sites + 2
      known = from_below (w.sites + 2) links (suc (suc j)) from letter rest was.landed.holds.square front

      opening : state.up ≡ true → last_session (noted s.sequencer.history) (site (j + 1)) ≡ state.session → Kept (noted s.sequencer.history) state.session clock (link links 1 (j + 2)) (begins state.session (link links 1 (j + 2))) (opened state)
      opening up last = record {
        books = λ t. subst (λ ms. Books p t ms (running_of state t)) (sym (append-nil (asks_of t asks))) (kept up last t).0;
        known = λ t r f. either t (has_begun p t) refl (fine_at s links was.landed j state at t r f).1;
        first = λ t. subst (BeginsFirst state.session t) (sym (append-nil asks)) (kept up last t).1;
      }
        where
          either : (t : Txn) (b : Bool) → has_begun p t ≡ b → has_txn bs t ≡ not (has_begun p t) → IsKnown p [] 0 state.session asks bs t []
          either t true begun way = inl begun
          either t false begun way = inr (ap (λ ts. has_txn ts t) (append-nil bs) ∙ way ∙ ap not begun)

      hears_now : state.up ≡ true → (from ≡ 0 → ⊥) → turn.state.up ≡ state.up → turn.state.session ≡ state.session → last_session (noted s.sequencer.history) (site (j + 1)) ≡ state.session → Kept (noted s.sequencer.history) state.session clock (link links 1 (j + 2)) (begins state.session (link links 1 (j + 2))) (hear_site w state from letter)
      hears_now up some up_same session_same last =
          step_kept w p j state from clock letter bs asks (placed_whole w s.sequencer.history was.landed.holds.placed) note some turn (site_moves w state from letter (was.landed.homes j state at).ascend)
          (line w s links was.landed was.talks from clock letter rest known j state at front is.landed.waits up some up_same session_same last) (opening up last)

      go : HomeStep state from (hear_site w state from letter) → J j (noted s.sequencer.history) (hear_site w state from letter).state (link links 1 (j + 2) ++ letters_to 1 (hear_site w state from letter).state.session clock (hear_site w state from letter).outs)
      go (steps.same none same) = subst (J j p turn.state) (sym (ap (λ outs. asks ++ letters_to 1 turn.state.session clock outs) none ∙ append-nil asks)) (subst (λ z. J j p z asks) (sym same) kept)
      go (steps.falls none down) = λ u l t. absurd (true≢false (sym u ∙ down))
      go (steps.rises none next) = λ u l t. absurd (let f = agreed.told_follows w world was.landed.holds j state at in omega (arith, f, l, next))
      go (steps.hears up some up_same session_same) = λ u l t. now t (hears_now up some up_same session_same (l ∙ session_same))
        where
          now : (t : Txn) → Kept p state.session clock asks bs turn → Books p t (asks_of t (asks ++ letters_to 1 turn.state.session clock turn.outs)) (running_of turn.state t) × BeginsFirst turn.state.session t (asks ++ letters_to 1 turn.state.session clock turn.outs)
          now t k = subst (λ z. Books p t (asks_of t (asks ++ letters_to 1 z clock turn.outs)) (running_of turn.state t) × BeginsFirst z t (asks ++ letters_to 1 z clock turn.outs)) (sym session_same) (subst (λ ms. Books p t ms (running_of turn.state t)) (sym (asked_is p state.session clock asks bs t turn.outs)) (k.books t), k.first t)

  -- the sequencer's step
  module _ (s : Servers) (links : List (List (List Letter))) (was : Found w s links) (from clock : ℕ) (letter : Letter) (rest : List Letter) (front : link links 1 from ≡ letter ∷ rest)
      (is : Found w (record s { sequencer = (hear_sequencer w s.sequencer from letter).state }) (moved links 1 from 0 clock rest (hear_sequencer w s.sequencer from letter).outs)) (k : ℕ) (state : SiteState) (at : slice_get s.sites k ≡ Some state)
      (asked : Asked from k letter (link links 1 (k + 2)) (link (moved links 1 from 0 clock rest (hear_sequencer w s.sequencer from letter).outs) 1 (k + 2))) (up : state.up ≡ true)
      (last : last_session (noted (hear_sequencer w s.sequencer from letter).state.history) (site (k + 1)) ≡ state.session) (t : Txn) where
    abbrev p : List Noted
    p = noted s.sequencer.history

    abbrev q : List Noted
    q = noted (hear_sequencer w s.sequencer from letter).state.history

    abbrev asks : List Letter
    asks = link links 1 (k + 2)

    abbrev after : List Letter
    after = link (moved links 1 from 0 clock rest (hear_sequencer w s.sequencer from letter).outs) 1 (k + 2)

    abbrev Now : Type 0
    Now = Books q t (asks_of t after) (running_of state t)

    -- where none runs, nothing is asked for it
    none_runs : running_of state t ≡ None → Now
    none_runs f = (let talks = is.talks.1 k state at up last t in subst (Books q t (asks_of t after)) (sym f) (subst (Talks q (moved links 1 from 0 clock rest (hear_sequencer w s.sequencer from letter).outs) k state.session t (asks_of t after)) f talks))

    -- a session was told just now: nobody runs there, and nothing has begun
    module _ (differ : last_session p (site (k + 1)) ≢ state.session) where
      data Still : Type 0 where
        still : state.running ≡ [] → begins state.session asks ≡ [] → Still

      it_is : Still
      it_is = go (was.landed.waits k state at).stage
        where
          go : Stage w k p state.up state.session state.running state.next (begins state.session asks) (link links (k + 2) 1) → Still
          go (stopped d r z) = absurd (true≢false (sym up ∙ d))
          go (asleep u l r z b) = still r b
          go (cares.fresh u l r z b e) = absurd (differ l)
          go (awake u l f c) = absurd (differ l)

      new_now : Now × BeginsFirst state.session t after
      new_now = go it_is
        where
          go : Still → Now × BeginsFirst state.session t after
          go (still runs none) = (none_runs (ap (program_of t) runs), none_first state.session t after (unbegun asked))
            where
              unbegun : Asked from k letter asks after → has_txn (begins state.session after) t ≡ false
              unbegun (left other same) = ap (λ ls. has_txn (begins state.session ls) t) same ∙ ap (λ ts. has_txn ts t) none
              unbegun (took of first) = behind_none state.session t letter after (ap (λ ls. has_txn (begins state.session ls) t) (sym first) ∙ ap (λ ts. has_txn ts t) none)

    -- who is over stays so
    grows : has_ended p t ≡ true → has_ended q t ≡ true
    grows over = go (hear_opens w from letter s.sequencer from refl)
      where
        go : Opens w from letter (opened s.sequencer) (hear_sequencer w s.sequencer from letter) → has_ended q t ≡ true
        go (next, (one, chain)) =
            let starts = (firsts w from clock letter (opened s.sequencer) next one).1.1.0 in
            let settled = (chain_settled w from letter next (hear_sequencer w s.sequencer from letter) chain).1.1 in
            settled.grows (λ n. is_end_of t n.entry) (starts.grows (λ n. is_end_of t n.entry) over)

    -- the session was told before, and a program of the transaction runs there
    module _ (before : last_session p (site (k + 1)) ≡ state.session) (r : Running) (f : running_of state t ≡ Some r) (first : BeginsFirst state.session t asks) where
      abbrev world : World
      world = record { servers = s; links = links; clocks = []; journals = [] }

      fine : FineAt w (site (k + 1)) p (begins state.session asks) t
      fine = fine_at s links was.landed k state at t r f

      -- an ask of it comes from there
      comes : (j : ℕ) → from ≡ j + 2 → IsAskOf t letter.message → j ≡ k
      comes j of h =
          let two : from ≡ suc (suc j) = omega (arith, of) in
          let said : AskSays w p (site (j + 1)) letter.message = (subst (λ d. LetterSays w p 1 d letter) two (subst (AllByRecursion (LetterSays w p 1 from)) front (was.landed.says 1 from)).0).0 in
          numbers (home w t).0 (asked_home w p (site (j + 1)) t letter.message said h) fine.0.at
        where
          numbers : (h : ℕ) → (h == j + 1) ≡ true → (h == k + 1) ≡ true → j ≡ k
          numbers h a b = (let x = eqb-true h (j + 1) a in let y = eqb-true h (k + 1) b in omega (arith, x, y))

      -- none is taken
      unasked : (asks_of t after ≡ asks_of t asks) → ((j : ℕ) → from ≡ j + 2 → IsAskOf t letter.message → ⊥) →
          Balance p t (asks_of t asks) r.asks (ends_asked r.phase) → Balance q t (asks_of t after) r.asks (ends_asked r.phase)
      unasked same none b = subst (λ ms. Balance q t ms r.asks (ends_asked r.phase)) (sym same) (often_balance p q t (asks_of t asks) r.asks (ends_asked r.phase) (unasked_often w t from letter none s.sequencer) b)

      -- the first is taken
      module _ (of : from ≡ k + 2) (took_it : asks ≡ letter ∷ after) (h : IsAskOf t letter.message)
          (queue : asks_of t asks ≡ letter.message ∷ asks_of t after) where
        begun : has_begun p t ≡ true
        begun = go (has_begun p t) refl
          where
            head : (ask_of t letter.message ≡ []) ⊎ (has_txn (begins state.session after) t ≡ false)
            head = (subst (BeginsFirst state.session t) took_it first).0

            asks_some : {xs : List Message} → AsksFor t letter.message xs → xs ≡ [] → ⊥
            asks_some (asks_not n) e = n h
            asks_some (asks_it y) e = cc e

            skipped : (b : Bool) → (if b then begun_by letter.message ++ begins state.session after else begins state.session after) ≡ begins state.session after
            skipped true = ap (λ ts. ts ++ begins state.session after) (begins_none t letter.message h)
            skipped false = refl

            never : has_txn (begins state.session asks) t ≡ false
            never = ap (λ ls. has_txn (begins state.session ls) t) took_it ∙ ap (λ ts. has_txn ts t) (skipped (letter.from == state.session)) ∙ elim head [ inl quiet ↦ absurd (asks_some (asks_for t letter.message) quiet) | inr none ↦ none ]

            go : (b : Bool) → has_begun p t ≡ b → b ≡ true
            go true e = refl
            go false e = absurd (true≢false (sym (fine.1 ∙ ap not e) ∙ never))

        present : (letter.from == session (vector w p) (site (k + 1))) ≡ true
        present =
            subst (λ n. (letter.from == n) ≡ true)
            (agreed.front_asked w world was.landed.holds k state at letter after took_it ∙ ap (λ b. if b then last_session p (site (k + 1)) + 1 else last_session p (site (k + 1))) (no_hello t letter.message h) ∙ before ∙ sym (agreed.told_up w world was.landed.holds k state at up before)) (same_self letter.from)

        fits : is_to_sequencer w letter.message ≡ true
        fits = ask_fits w t letter.message h (subst (AllByRecursion (λ (l : Letter). AskFits w l.message)) took_it (was.fit k)).0

        unwaited : has_ended p t ≡ false → Balance p t (asks_of t asks) r.asks (ends_asked r.phase) → has_waited p t ≡ false
        unwaited unended b = elim (subst (Talks p links k state.session t (asks_of t asks)) f (was.talks.1 k state at up before t)).1 [
          | inl over ↦ absurd (true≢false (sym over ∙ unended))
          | inr about ↦ asks_unwaited p links k state.session t r.asks r.answers letter.message (asks_of t after) r.phase (subst (λ ms. IsAbout p links k state.session t r.asks r.answers ms r.phase) queue about) (subst (λ ms. Balance p t ms r.asks (ends_asked r.phase)) queue b)
        ]

        answers : has_ended p t ≡ false → has_waited p t ≡ false → IsAnswer t letter.message p q
        answers unended never =
            let waits = unwaiting p t never in
            let free : is_free p t ≡ true = and_from (is_running p t) (not (is_waiting p t)) (and_from (has_begun p t) (not (has_ended p t)) begun (ap not unended)) (ap not waits) in
            let two : suc (suc k) ≡ from = omega (arith, of) in
            subst (λ n. IsAnswer t letter.message p (noted (hear_sequencer w s.sequencer n letter).state.history)) two (ask_answered w t s.sequencer free waits k letter h present fits)

        taken_books : Balance p t (asks_of t asks) r.asks (ends_asked r.phase) →
            (has_ended q t ≡ true) ⊎ Balance q t (asks_of t after) r.asks (ends_asked r.phase)
        taken_books b = go (has_ended p t) refl
          where
            go : (c : Bool) → has_ended p t ≡ c → (has_ended q t ≡ true) ⊎ Balance q t (asks_of t after) r.asks (ends_asked r.phase)
            go true e = inl (grows e)
            go false e = elim (answers e (unwaited e b)) [
              | inl over ↦ inl over
              | inr counted ↦ inr (answered_balance p q t letter.message (asks_of t after) r.asks (ends_asked r.phase) counted (subst (λ ms. Balance p t ms r.asks (ends_asked r.phase)) queue b))
            ]

      balance_after : Balance p t (asks_of t asks) r.asks (ends_asked r.phase) →
          (has_ended q t ≡ true) ⊎ Balance q t (asks_of t after) r.asks (ends_asked r.phase)
      balance_after b = go asked
        where
          Result : Type 0
          Result = (has_ended q t ≡ true) ⊎ Balance q t (asks_of t after) r.asks (ends_asked r.phase)

          by : (of : from ≡ k + 2) (first : asks ≡ letter ∷ after) {xs : List Message} → AsksFor t letter.message xs → asks_of t asks ≡ xs ++ asks_of t after → Result
          by of first (asks_not n) e = inr (unasked (sym e) (λ j from_there h. n h) b)
          by of first (asks_it h) e = taken_books of first h e b

          go : Asked from k letter asks after → Result
          go (left other same) = inr (unasked (ap (asks_of t) same) (λ j of h. other (of ∙ ap (λ n. n + 2) (comes j of h))) b)
          go (took of first) = by of first (asks_for t letter.message) (ap (asks_of t) first)

    old_now : last_session p (site (k + 1)) ≡ state.session → Books p t (asks_of t asks) (running_of state t) × BeginsFirst state.session t asks →
        Now × BeginsFirst state.session t after
    old_now before kept = (books (running_of state t) refl, later asked)
      where
        books : (o : Option Running) → running_of state t ≡ o → Now
        books None f = none_runs f
        books (Some r) f = subst (Books q t (asks_of t after)) (sym f) (elim (subst (Books p t (asks_of t asks)) f kept.0) [ inl over ↦ inl (grows over) | inr b ↦ balance_after before r f kept.1 b ])

        later : Asked from k letter asks after → BeginsFirst state.session t after
        later (left other same) = subst (BeginsFirst state.session t) (sym same) kept.1
        later (took of first) = (subst (BeginsFirst state.session t) first kept.1).1

  sequencer : AtSequencer w J
  sequencer s links was from clock letter rest front is k state at asked kept up last t = go (same_or_not (last_session (noted s.sequencer.history) (site (k + 1))) state.session)
    where
      go : (last_session (noted s.sequencer.history) (site (k + 1)) ≡ state.session) ⊎ (last_session (noted s.sequencer.history) (site (k + 1)) ≢ state.session) → Books (noted (hear_sequencer w s.sequencer from letter).state.history) t (asks_of t (link (moved links 1 from 0 clock rest (hear_sequencer w s.sequencer from letter).outs) 1 (k + 2))) (running_of state t) × BeginsFirst state.session t (link (moved links 1 from 0 clock rest (hear_sequencer w s.sequencer from letter).outs) 1 (k + 2))
      go (inl before) = old_now s links was from clock letter rest front is k state at asked up last t before (kept up before t)
      go (inr differ) = new_now s links was from clock letter rest front is k state at asked up last t differ

  -- at the start nothing is asked
  opens : Each w J (run w []).servers (run w []).links
  opens k state at up last t = (none (running_of state t) refl, subst (BeginsFirst state.session t) (sym empty) tt)
    where
      empty : link (run w []).links 1 (k + 2) ≡ []
      empty = empty_at (w.sites + 2) (k + 2)

      talks : Talks (noted (run w []).servers.sequencer.history) (run w []).links k state.session t (asks_of t (link (run w []).links 1 (k + 2))) (running_of state t)
      talks = (found w []).talks.1 k state at up last t

      none : (o : Option Running) → running_of state t ≡ o → Books (noted (run w []).servers.sequencer.history) t (asks_of t (link (run w []).links 1 (k + 2))) (running_of state t)
      none None f = subst (Books (noted (run w []).servers.sequencer.history) t (asks_of t (link (run w []).links 1 (k + 2)))) (sym f) (inr (ap (asks_of t) empty))
      none (Some r) f = absurd (none_there state.running t r (ap (λ (z : SiteState). z.running) (sym (first_state w 1 w.sites k state at))) f)

  pub books_kept : (schedule : List Pick) → Each w J (run w schedule).servers (run w schedule).links
  books_kept schedule = in_runs w J sequencer own opens schedule

  pub runs_answer : (schedule : List Pick) → AsksAreAnswered w (run w schedule)
  runs_answer schedule k state up_there t r f unended quiet = go r.phase refl
    where
      p : List Noted
      p = noted (run w schedule).servers.sequencer.history

      links : List (List (List Letter))
      links = (run w schedule).links

      balance : Balance p t [] r.asks (ends_asked r.phase)
      balance = elim (subst (Books p t (asks_of t (link links 1 (k + 2)))) f (books_kept schedule k state up_there.at up_there.up up_there.last t).0) [
        | inl over ↦ absurd (true≢false (sym over ∙ unended))
        | inr b ↦ subst (λ ms. Balance p t ms r.asks (ends_asked r.phase)) quiet b
      ]

      about : IsAbout p links k state.session t r.asks r.answers (asks_of t (link links 1 (k + 2))) r.phase
      about = elim (subst (Talks p links k state.session t (asks_of t (link links 1 (k + 2)))) f ((found w schedule).talks.1 k state up_there.at up_there.up up_there.last t)).1 [
        | inl over ↦ absurd (true≢false (sym over ∙ unended))
        | inr a ↦ a
      ]

      go : (phase : Phase) → r.phase ≡ phase → IsAnswered p t phase
      go (asking ask x o) is = (let number = (subst (IsAbout p links k state.session t r.asks r.answers (asks_of t (link links 1 (k + 2)))) is about).0 in let reads = balance.reads in omega (arith, number, reads))
      go (preparing told writes awaited) is = tt
      go sent is =
          waited_waits p (placed_whole w (run w schedule).servers.sequencer.history (found w schedule).landed.holds.placed) t
          (waits_counted p t 1 (let ends = balance.waits in let one = ap ends_asked is in omega (arith, ends, one))) unended
