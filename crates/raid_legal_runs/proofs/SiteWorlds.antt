-- A site's step in the world lets programs tell what they have seen.
use Rattle.std.proofs.Common.{◌≡◌, ◌≢◌, ◌⊎◌, inl, inr, ℕ, ℤ, suc, ◌+◌, ◌<◌, ◌≤◌, ◌==◌, Bool, true, false, ◌||◌, List, [], ◌∷◌, ◌++◌, Option, Some, if◌then◌else◌, None, arith, sym, subst, ap, ◌∙◌, refl}
use Rattle.std.specs.Prelude.{slice_get, slice_set}
use Rattle.std.specs.List.{AllByRecursion}
use Rattle.std.proofs.lemmas.Bool.{eqb-true, true≢false}
use Rattle.raid_base.specs.declared.names.Txn.{Txn}
use Rattle.raid_base.specs.declared.names.Item.{Item}
use Rattle.raid_base.specs.declared.names.Site.{Site}
use Rattle.raid_base.specs.declared.entry.Noted.{Noted}
use Rattle.raid_base.specs.Find.{first_of}
use Rattle.raid_base.specs.Names.{is_txn, is_item, holds}
use Rattle.raid_base.specs.Sites.{site}
use Rattle.raid_program.specs.declared.program.Want.TheVariants as wants
use Rattle.raid_program.specs.Run.{given}
use Rattle.raid_program.proofs.Asked.{end_told}
use Rattle.raid_workload.specs.declared.workload.Workload.{Workload}
use Rattle.raid_workload.specs.Parts.{program}
use Rattle.raid_rules.specs.History.{noted, has_ended}
use Rattle.raid_rules.specs.Sessions.{last_session}
use Rattle.raid_legal.specs.Seen.{outcome}
use Rattle.raid_message.specs.declared.letter.Message.{Message}
use Rattle.raid_message.specs.declared.letter.Message.TheVariants as letters
use Rattle.raid_message.specs.declared.letter.Letter.{Letter}
use Rattle.raid_steps.specs.State.{Out, Turn, Phase, asking, preparing, sent, Running, SiteState}
use Rattle.raid_steps.specs.Programs.{running_of}
use Rattle.raid_steps.specs.Site.{hear_site}
use Rattle.raid_steps.specs.World.{World, Servers, link}
use Rattle.raid_sessions.proofs.Agreed as agreed
use Rattle.raid_sessions.proofs.Lists.{all_append, all_weaken, get_below, get_set, get_other, some_is, same_self}
use Rattle.raid_sessions.proofs.Mail.{same_or_not, letter_of, letters_to, moved, moved_sent, moved_other}
use Rattle.raid_moves.specs.Moves.{Hears}
use Rattle.raid_moves.proofs.Places.{all_both, all_found, found_txn}
use Rattle.raid_made.specs.Made.{made_of}
use Rattle.raid_stands.specs.Stands.{StandsIn, Stands, AreStanding}
use Rattle.raid_asks.proofs.Notes.{all_sent}
use Rattle.raid_layers.specs.Asks.{has_read, asks_of, IsOneAsk, Outstanding, asked, dropped, read, asks_end, Closing, taken, closes, IsAbout, Talks}
use Rattle.raid_layers.proofs.SiteTokens.{deaf_step}
use Rattle.raid_layers.proofs.SiteWorlds.{HomeStep, same, falls, rises, hears, home_step, heard_late}
use Rattle.raid_layers.proofs.Tokens.{IsAskOf}
use Rattle.raid_layers.proofs.Turns.{asked_by, asked_sent}
use Rattle.raid_layers.proofs.Worlds.{TalksAt}
use Rattle.raid_runs.specs.Asked.{IsSeen}
use Rattle.raid_legal_runs.specs.Tell.{IsSeenBut, HasSeen, AsksSeen}
use Rattle.raid_legal_runs.proofs.Among.{Among, among_one, IsAskAmong, each_among}
use Rattle.raid_legal_runs.proofs.AtSite.{Has, TellsSeen, Says, Now, step_now}
use Rattle.raid_legal_runs.proofs.Seeing.{wants_too}
use Rattle.raid_legal_runs.proofs.Worlds.{SeenAt, SaysSeen, AllSeen, Known}

module _ (w : Workload) where
  -- letters that ask for nothing
  none_asked : (p : List Noted) (ls : List Letter) → ((t : Txn) → asks_of t ls ≡ []) → AllByRecursion (SaysSeen w p) ls
  none_asked p ls none = all_weaken (IsAskAmong ls) (SaysSeen w p) ls (λ l among. go l.message among) (each_among ls)
    where
      nothing : (m : Message) (t : Txn) → Among m (asks_of t ls) → ⊥
      nothing m t a = subst (Among m) (none t) a

      go : (m : Message) → ((t : Txn) → IsAskOf t m → Among m (asks_of t ls)) → AsksSeen w p m
      go (letters.ReadAsk t ask x) a = absurd (nothing (letters.ReadAsk t ask x) t (a t (same_self t.0)))
      go (letters.CommitAsk t request) a = absurd (nothing (letters.CommitAsk t request) t (a t (same_self t.0)))
      go (letters.EndAsk t cause told) a = absurd (nothing (letters.EndAsk t cause told) t (a t (same_self t.0)))
      go other a = tt

  -- What is asked for a home's programs, where these ask one thing at a time and stand where their answers lead: a read is of what the program
  -- wants on what was seen
  module _ (p : List Noted) (links : List (List (List Letter))) (k m : ℕ) (state : SiteState) (asks : List Letter) (one : (t : Txn) → (has_ended p t ≡ true) ⊎ IsOneAsk p t (asks_of t asks)) (talks : (t : Txn) → Talks p links k m t (asks_of t asks) (running_of state t))
      (stands : AreStanding w state) (has : AllByRecursion (Has w p) state.running) where
    read_wanted : (t : Txn) (ask : ℕ) (x : Item) → Among (letters.ReadAsk t ask x) (asks_of t asks) → has_ended p t ≡ false → has_read p t x ≡ false → (outcome w p t).end ≡ wants.Read x
    read_wanted t ask x among alive unread = go (running_of state t) refl (talks t)
      where
        Goal : Type 0
        Goal = (outcome w p t).end ≡ wants.Read x

        silent : asks_of t asks ≡ [] → Goal
        silent e = absurd (subst (Among (letters.ReadAsk t ask x)) e among)

        only : (z : Message) → asks_of t asks ≡ z ∷ [] → letters.ReadAsk t ask x ≡ z
        only z e = among_one (letters.ReadAsk t ask x) z (subst (Among (letters.ReadAsk t ask x)) e among)

        wanted : (r : Running) → r.txn ≡ t → Stands w state.site r → Has w p r → (number : ℕ) (y : Item) (o : Option Site) → r.phase ≡ asking number y o → x ≡ y → Goal
        wanted r its stand h number y o is alike =
            let wish : (made_of w r.txn r.answers).end ≡ wants.Read y = (subst (StandsIn w state.site r.txn r.answers r.asks) is stand.phase).0 in
            let but : IsSeenBut w p r.txn y r.answers = subst (HasSeen w p r.txn r.answers) is (h (ap (has_ended p) its ∙ alive)) in
            let wished : (made_of w r.txn r.answers).end ≡ wants.Read x = wish ∙ ap wants.Read (sym alike) in
            subst (λ u. (outcome w p u).end ≡ wants.Read x) its
            (wants_too w p r.txn x r.answers stand.reads wished (seen_all r y but wish) (ap (λ u. has_read p u x) its ∙ unread))
          where
            absent : (y : Item) (ps : List (Item × ℤ)) → first_of y ps ≡ None → (z : Item) → holds z ps ≡ true → is_item y z ≡ false
            absent y [] none z here = absurd (true≢false (sym here))
            absent y (q ∷ ps) none z here = go (q.0.0 == y.0) refl (q.0.0 == z.0) refl none here (absent y ps)
              where
                other : (a b c : ℕ) → (a == b) ≡ false → (a == c) ≡ true → (c == b) ≡ false
                other a b c d e = subst (λ n. (n == b) ≡ false) (eqb-true a c e) d

                go : (b : Bool) → (q.0.0 == y.0) ≡ b → (c : Bool) → (q.0.0 == z.0) ≡ c → (if b then Some q.1 else first_of y ps) ≡ None → (c || holds z ps) ≡ true → (first_of y ps ≡ None → (z : Item) → holds z ps ≡ true → is_item y z ≡ false) → is_item y z ≡ false
                go true d c e none here rest = absurd (cc none)
                go false d true e none here rest = other q.0.0 y.0 z.0 d e
                go false d false e none here rest = rest none z here

            seen_all : (r : Running) (y : Item) → IsSeenBut w p r.txn y r.answers → (made_of w r.txn r.answers).end ≡ wants.Read y → IsSeen w p r.txn r.answers
            seen_all r y but wish z here = but z (absent y r.answers (end_told (program w r.txn) (given r.answers) y wish) z here) here

        about : (r : Running) → r.txn ≡ t → Stands w state.site r → Has w p r → (phase : Phase) → r.phase ≡ phase → IsAbout p links k m t r.asks r.answers (asks_of t asks) phase → Goal
        about r its stand h (asking number y o) is a = waits a.1.1.1
          where
            waits : Outstanding p links k m t number y o (asks_of t asks) → Goal
            waits (asked e none toks) = (let q : letters.ReadAsk t ask x ≡ letters.ReadAsk t number y = only (letters.ReadAsk t number y) e in wanted r its stand h number y o is (cc q))
            waits (dropped e none toks) = silent e
            waits (read n z e l i has_it toks server late) = silent e
        about r its stand h (preparing reads writes awaited) is a = silent a.0
        about r its stand h sent is a = closing a.0
          where
            closing : Closing p t (asks_of t asks) → Goal
            closing (taken e) = silent e
            closing (closes z e ends) = absurd (true≢false (sym ends ∙ ap asks_end (sym (only z e))))

        go : (o : Option Running) → running_of state t ≡ o → Talks p links k m t (asks_of t asks) o → Goal
        go None f (inl over) = absurd (true≢false (sym over ∙ alive))
        go None f (inr e) = silent e
        go (Some r) f (c, inl over) = absurd (true≢false (sym over ∙ alive))
        go (Some r) f (c, inr a) =
            about r (found_txn t state.running r f) (all_found (Stands w state.site) (λ (z : Running). is_txn t z.txn) state.running r stands f) (all_found (Has w p) (λ (z : Running). is_txn t z.txn) state.running r has f) r.phase refl a

    -- so all is of what was seen, where the reads that are told are
    asks_seen : AllByRecursion (λ (l : Letter). TellsSeen w p l.message) asks → AllByRecursion (SaysSeen w p) asks
    asks_seen tells = all_both (IsAskAmong asks) (λ (l : Letter). TellsSeen w p l.message) (SaysSeen w p) asks (λ l among t. go l.message among t) (each_among asks) tells
      where
        go : (z : Message) → ((t : Txn) → IsAskOf t z → Among z (asks_of t asks)) → TellsSeen w p z → AsksSeen w p z
        go (letters.ReadAsk t ask x) among h = read_wanted t ask x (among t (same_self t.0))
        go (letters.CommitAsk t request) among h = h
        go (letters.EndAsk t cause told) among h = h
        go other among h = tt

  -- what says what was seen tells it
  telling : (p : List Noted) (m : Message) → AsksSeen w p m → TellsSeen w p m
  telling p (letters.CommitAsk t request) h = h
  telling p (letters.EndAsk t cause told) h = h
  telling p other h = tt

  module _ (s : Servers) (links : List (List (List Letter))) (known : Known w s links) (all : AllSeen w s.sequencer.history s.sites links) (from clock : ℕ) (letter : Letter) (rest : List Letter) (below : from < w.sites + 2) (j : ℕ) (state : SiteState)
      (at : slice_get s.sites j ≡ Some state) (front : link links (suc (suc j)) from ≡ letter ∷ rest) where
    abbrev turn : Turn SiteState
    turn = hear_site w state from letter

    abbrev after : List (List (List Letter))
    after = moved links (suc (suc j)) from (hear_site w state from letter).state.session clock rest (hear_site w state from letter).outs

    abbrev p : List Noted
    p = noted s.sequencer.history

    place : suc (suc j) ≡ j + 2
    place = omega arith

    inside : suc (suc j) < w.sites + 2
    inside = (let b = get_below s.sites j state at in let l = known.landed.holds.long in omega (arith, b, l))

    new : List Letter
    new = letters_to 1 turn.state.session clock turn.outs

    asks_after : link after 1 (j + 2) ≡ link links 1 (j + 2) ++ letters_to 1 turn.state.session clock turn.outs
    asks_after =
        ap (link after 1) (sym place) ∙ moved_sent (w.sites + 2) links (suc (suc j)) from turn.state.session clock rest turn.outs known.landed.holds.square inside 1 (omega arith) (λ e. omega (arith, e))
        ∙ ap (λ d. link links 1 d ++ letters_to 1 turn.state.session clock turn.outs) place

    asks_other : (k : ℕ) → k ≢ j → link after 1 (k + 2) ≡ link links 1 (k + 2)
    asks_other k differ = moved_other (w.sites + 2) links (suc (suc j)) from turn.state.session clock rest turn.outs known.landed.holds.square inside 1 (k + 2) (omega arith) (λ e. differ (omega (arith, e))) (inl (λ e. omega (arith, e)))

    abbrev world : World
    world = record { servers = s; links = links; clocks = []; journals = [] }

    follows : last_session p (site (j + 1)) ≤ state.session
    follows = agreed.told_follows w world known.landed.holds j state at

    -- what the step makes of the site's own programs and asks
    abbrev Own : Type 0
    Own = SeenAt w p j turn.state × AllByRecursion (SaysSeen w p) (link after 1 (j + 2))

    with_new : AllByRecursion (SaysSeen w p) (letters_to 1 turn.state.session clock turn.outs) → AllByRecursion (SaysSeen w p) (link after 1 (j + 2))
    with_new a = subst (AllByRecursion (SaysSeen w p)) (sym asks_after) (all_append (SaysSeen w p) (link links 1 (j + 2)) (letters_to 1 turn.state.session clock turn.outs) (all.asks j) a)

    silent : ((t : Txn) → asked_by t turn.outs ≡ []) → AllByRecursion (SaysSeen w p) (link after 1 (j + 2))
    silent none = with_new (none_asked p (letters_to 1 turn.state.session clock turn.outs) (λ t. asked_sent t turn.state.session clock turn.outs ∙ none t))

    -- after the step, its programs ask one thing at a time, and stand where their answers lead
    module _ (one : (t : Txn) → (has_ended p t ≡ true) ⊎ IsOneAsk p t (asks_of t (link after 1 (j + 2)))) (talks : TalksAt w p after j turn.state) (stands : AreStanding w turn.state) where
      awake_own : state.up ≡ true → turn.state.up ≡ state.up → turn.state.session ≡ state.session → last_session p (site (j + 1)) ≡ state.session → Own
      awake_own up up_same session_same last = (
        (λ u l. now.running),
        asks_seen p after j turn.state.session turn.state (link after 1 (j + 2)) one (λ t. talks (up_same ∙ up) (last ∙ sym session_same) t) stands now.running
            (subst (AllByRecursion (λ (l : Letter). TellsSeen w p l.message)) (sym asks_after)
            (all_append (λ (l : Letter). TellsSeen w p l.message) (link links 1 (j + 2)) (letters_to 1 turn.state.session clock turn.outs) (all_weaken (SaysSeen w p) (λ (l : Letter). TellsSeen w p l.message) (link links 1 (j + 2)) (λ l h. telling p l.message h) (all.asks j))
            (all_sent (λ (l : Letter). TellsSeen w p l.message) 1 turn.state.session clock turn.outs (all_weaken (Says w p) (λ (out : Out). out.0 ≡ 1 → TellsSeen w p (letter_of turn.state.session clock out).message) turn.outs (λ out h to. h) now.outs)))),
      )
        where
          now : Now w p turn
          now =
              step_now w p state from letter known.landed.begun (known.landed.given j state at) (known.gives j state at up last from letter rest front) (known.landed.homes j state at).ascend (all.running j state at up last)

      own : Own
      own = go (home_step w state from letter)
        where
          go : HomeStep state from (hear_site w state from letter) → Own
          go (same none is) = (subst (SeenAt w p j) (sym is) (all.running j state at), silent (λ t. ap (asked_by t) none))
          go (falls none down) = ((λ u l. absurd (true≢false (sym u ∙ down))), silent none)
          go (rises none next) = ((λ u l. absurd (let f = follows in omega (arith, f, l, next))), silent none)
          go (hears up some up_same session_same) = by_session (same_or_not (last_session p (site (j + 1))) state.session)
            where
              by_session : (last_session p (site (j + 1)) ≡ state.session) ⊎ (last_session p (site (j + 1)) ≢ state.session) → Own
              by_session (inl last) = awake_own up up_same session_same last
              by_session (inr differ) = ((λ u l. absurd (differ (l ∙ session_same))), silent (deaf_step w state from letter deaf (known.landed.homes j state at).ascend))
                where
                  deaf : Hears state letter → ⊥
                  deaf h = differ (let to = eqb-true letter.to state.session h.meant in let late = heard_late w s links known.landed known.talks from clock letter rest below j state at front some in let f = follows in omega (arith, to, late, f))

      pub site_seen : AllSeen w s.sequencer.history (slice_set s.sites j (hear_site w state from letter).state) (moved links (suc (suc j)) from (hear_site w state from letter).state.session clock rest (hear_site w state from letter).outs)
      site_seen = record {
        running = λ k other there. running k other there (same_or_not k j);
        asks = λ k. asks k (same_or_not k j);
        entries = all.entries;
      }
        where
          running : (k : ℕ) (other : SiteState) → slice_get (slice_set s.sites j turn.state) k ≡ Some other → (k ≡ j) ⊎ (k ≢ j) → SeenAt w p k other
          running k other there (inl e) =
              let is : turn.state ≡ other = some_is turn.state other (sym (get_set s.sites j turn.state (get_below s.sites j state at)) ∙ ap (slice_get (slice_set s.sites j turn.state)) (sym e) ∙ there) in
              subst (λ z. SeenAt w p z other) (sym e) (subst (SeenAt w p j) is own.0)
          running k other there (inr differ) = all.running k other (sym (get_other s.sites j k turn.state differ) ∙ there)

          asks : (k : ℕ) → (k ≡ j) ⊎ (k ≢ j) → AllByRecursion (SaysSeen w p) (link after 1 (k + 2))
          asks k (inl e) = subst (λ z. AllByRecursion (SaysSeen w p) (link after 1 (z + 2))) (sym e) own.1
          asks k (inr differ) = subst (AllByRecursion (SaysSeen w p)) (sym (asks_other k differ)) (all.asks k)
