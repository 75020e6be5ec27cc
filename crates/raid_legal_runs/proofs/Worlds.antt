-- Each step in the world lets programs tell what they have seen, and what is placed is asked.
use Rattle.std.proofs.Common.{◌≡◌, ◌≢◌, ◌⊎◌, inl, inr, ℕ, ℤ, suc, ◌+◌, ◌<◌, ◌==◌, Bool, true, false, ◌||◌, List, [], ◌∷◌, ◌++◌, Option, Some, if◌then◌else◌, arith, sym, subst, ap, ◌∙◌, refl}
use Rattle.std.specs.Prelude.{slice_get}
use Rattle.std.specs.List.{AllByRecursion}
use Rattle.std.proofs.lemmas.Bool.{eqb-true, true≢false}
use Rattle.raid_base.specs.declared.names.Txn.{Txn}
use Rattle.raid_base.specs.declared.names.Item.{Item}
use Rattle.raid_base.specs.declared.names.Site.{Site}
use Rattle.raid_base.specs.declared.entry.Entry.{Entry}
use Rattle.raid_base.specs.declared.entry.Noted.{Noted}
use Rattle.raid_base.specs.Names.{is_txn, is_item, is_site}
use Rattle.raid_base.specs.Sites.{site}
use Rattle.raid_program.specs.declared.program.Want.TheVariants as wants
use Rattle.raid_program.specs.Run.{Outcome}
use Rattle.raid_workload.specs.declared.workload.Workload.{Workload}
use Rattle.raid_workload.specs.Parts.{home}
use Rattle.raid_rules.specs.Entries.{is_end_of}
use Rattle.raid_rules.specs.History.{noted, has_ended}
use Rattle.raid_rules.specs.Sessions.{last_session}
use Rattle.raid_legal.specs.Seen.{seen, outcome}
use Rattle.raid_legal.specs.Legal.{wants_item, is_lost, is_asked}
use Rattle.raid_message.specs.declared.letter.Message.{Message}
use Rattle.raid_message.specs.declared.letter.Message.TheVariants as letters
use Rattle.raid_message.specs.declared.letter.Letter.{Letter}
use Rattle.raid_steps.specs.State.{Out, Turn, Phase, asking, preparing, sent, Running, Sequencer, SiteState}
use Rattle.raid_steps.specs.Programs.{running_of}
use Rattle.raid_steps.specs.Sequencer.{hear_sequencer}
use Rattle.raid_steps.specs.World.{Servers, link}
use Rattle.raid_sessions.proofs.Lists.{same_self}
use Rattle.raid_sessions.proofs.Mail.{same_or_not, moved, moved_taken, moved_other}
use Rattle.raid_moves.specs.Moves.{Given}
use Rattle.raid_moves.proofs.Places.{all_both, each_found}
use Rattle.raid_asks.proofs.Cares.{Stage, stopped, asleep, awake}
use Rattle.raid_asks.proofs.Cares as cares
use Rattle.raid_asks.proofs.Least.{Ours}
use Rattle.raid_letters.specs.Says.{AskSays}
use Rattle.raid_letters.proofs.Runs.{QueueSays}
use Rattle.raid_layers.specs.Asks.{has_read, ask_of, asks_of, IsTimely, IsOneAsk, no_ask, one_ask, Outstanding, asked, dropped, read, IsAbout, Talks}
use Rattle.raid_layers.proofs.Tokens.{IsAskOf, asked_home}
use Rattle.raid_layers.proofs.Worlds.{TalkAll, Landed}
use Rattle.raid_runs.specs.Asked.{AreAsked}
use Rattle.raid_legal_runs.specs.Tell.{HasSeen, AsksSeen}
use Rattle.raid_legal_runs.proofs.Among.{Among, IsAskAmong, each_among}
use Rattle.raid_legal_runs.proofs.Answering.{Chain, hear_chain}
use Rattle.raid_legal_runs.proofs.AtSequencer.{Asks, Sees, same as sees_same, reads as sees_read, chain_grows, chain_sees, chain_asked, free_open}
use Rattle.raid_legal_runs.proofs.AtSite.{Has}
use Rattle.raid_legal_runs.proofs.Seeing.{SeesSame, same_outcome, untrue}

module _ (w : Workload) where
  -- the programs of a site, where it is up in its last session told
  abbrev pub SeenAt : List Noted → ℕ → SiteState → Type 0
  SeenAt p k state = state.up ≡ true → last_session p (site (k + 1)) ≡ state.session → AllByRecursion (Has w p) state.running

  abbrev pub SaysSeen : List Noted → Letter → Type 0
  SaysSeen p l = AsksSeen w p l.message

  -- programs at all sites, what is asked for them, and the history
  pub record AllSeen (h : List Entry) (sites : List SiteState) (links : List (List (List Letter))) : Type 0 where
    pub running : (k : ℕ) (state : SiteState) → slice_get sites k ≡ Some state → SeenAt (noted h) k state
    pub asks : (k : ℕ) → AllByRecursion (SaysSeen (noted h)) (link links 1 (k + 2))
    pub entries : AreAsked w h

  -- what a letter gives to a program for its ask is what its transaction has seen: where a site that is up in its last session told hears it next,
  -- and the transaction isn't over
  abbrev pub GivesSeen : Servers → List (List (List Letter)) → Type 0
  GivesSeen s links =
      (k : ℕ) (state : SiteState) → slice_get s.sites k ≡ Some state → state.up ≡ true → last_session (noted s.sequencer.history) (site (k + 1)) ≡ state.session → (from : ℕ) (letter : Letter) (rest : List Letter) → link links (suc (suc k)) from ≡ letter ∷ rest →
      (r : Running) (ask : ℕ) (x : Item) (q : Option Site) (v : ℤ) → running_of state r.txn ≡ Some r → r.phase ≡ asking ask x q → has_ended (noted s.sequencer.history) r.txn ≡ false → Given w state from letter r.txn ask v →
      seen w (noted s.sequencer.history) r.txn x ≡ Some v

  -- what holds besides: of the world before a step
  pub record Known (s : Servers) (links : List (List (List Letter))) : Type 0 where
    pub landed : Landed w s links
    pub talks : TalkAll w s links
    pub gives : GivesSeen s links

  -- an ask that is kept by a history that goes on
  keeps : (p q : List Noted) → ((t : Txn) → has_ended q t ≡ false → has_ended p t ≡ false) → (message : Message) → ((t : Txn) → IsAskOf t message → has_ended p t ≡ false → SeesSame w t p q) → AsksSeen w p message → AsksSeen w q message
  keeps p q alive_before (letters.ReadAsk t ask x) same h =
      λ alive unread. (let s = same t (same_self t.0) (alive_before t alive) in ap (λ (o : Outcome). o.end) (same_outcome w t p q s) ∙ h (alive_before t alive) (sym (s.reads x) ∙ unread))
  keeps p q alive_before (letters.CommitAsk t request) same h = λ alive y here. (same t (same_self t.0) (alive_before t alive)).seen y ∙ h (alive_before t alive) y here
  keeps p q alive_before (letters.EndAsk t cause told) same h = λ alive y here. (same t (same_self t.0) (alive_before t alive)).seen y ∙ h (alive_before t alive) y here
  keeps p q alive_before other same h = tt

  module _ (s : Servers) (links : List (List (List Letter))) (known : Known s links) (all : AllSeen s.sequencer.history s.sites links) (from clock : ℕ) (letter : Letter) (rest : List Letter) (below : from < w.sites + 2) where
    abbrev p : List Noted
    p = noted s.sequencer.history

    two : (k : ℕ) → suc (suc k) ≡ k + 2
    two k = omega arith

    -- the monitor
    pub monitor_seen : link links 0 from ≡ letter ∷ rest → (outs : List Out) → AllSeen s.sequencer.history s.sites (moved links 0 from 0 clock rest outs)
    monitor_seen front outs = record {
      running = all.running;
      asks = λ k. subst (AllByRecursion (SaysSeen p)) (sym (moved_other (w.sites + 2) links 0 from 0 clock rest outs known.landed.holds.square (omega arith) 1 (k + 2) (omega arith) (λ e. omega (arith, e)) (inl (λ e. omega (arith, e))))) (all.asks k);
      entries = all.entries;
    }

    asks_say : (k : ℕ) → AllByRecursion (λ (l : Letter). AskSays w p (site (k + 1)) l.message) (link links 1 (k + 2))
    asks_say k = subst (λ c. AllByRecursion (λ (l : Letter). AskSays w p (site (k + 1)) l.message) (link links 1 c)) (two k) (firsts_of (link links 1 (suc (suc k))) (known.landed.says 1 (suc (suc k))))
      where
        firsts_of : (ls : List Letter) → QueueSays w p 1 (suc (suc k)) ls → AllByRecursion (λ (l : Letter). AskSays w p (site (k + 1)) l.message) ls
        firsts_of [] a = tt
        firsts_of (l ∷ ls) a = (a.0.0, firsts_of ls a.1)

    -- the sequencer
    module _ (front : link links 1 from ≡ letter ∷ rest) where
      abbrev now : Turn Sequencer
      now = hear_sequencer w s.sequencer from letter

      abbrev q : List Noted
      q = noted (hear_sequencer w s.sequencer from letter).state.history

      abbrev after : List (List (List Letter))
      after = moved links 1 from 0 clock rest (hear_sequencer w s.sequencer from letter).outs

      chain : Chain w from letter s.sequencer.history s.sequencer.history now.state.history
      chain = hear_chain w from letter s.sequencer from refl

      alive_before : (t : Txn) → has_ended q t ≡ false → has_ended p t ≡ false
      alive_before t still = untrue (has_ended p t) (λ over. true≢false (sym (chain_grows w from letter s.sequencer.history chain (λ n. is_end_of t n.entry) over) ∙ still))

      -- the front letter stands on the link from a site
      front_at : (k : ℕ) → from ≡ k + 2 → link links 1 (k + 2) ≡ letter ∷ rest
      front_at k of = ap (link links 1) (sym of) ∙ front

      -- what it asks may be asked for
      abbrev Front : ℕ → Type 0
      Front k = from ≡ k + 2

      fronted : (k : ℕ) → from ≡ k + 2 → AsksSeen w p letter.message
      fronted k of = (subst (AllByRecursion (SaysSeen p)) (front_at k of) (all.asks k)).0

      -- where a transaction that isn't over asks in it, that is all it asks
      alone : (k : ℕ) (t : Txn) (m : Message) → from ≡ k + 2 → letter.message ≡ m → ask_of t m ≡ m ∷ [] → has_ended p t ≡ false → (asks_of t rest ≡ []) × IsTimely p t m
      alone k t m of is asks alive = elim (known.talks.0 k t) [
        | inl over ↦ absurd (true≢false (sym over ∙ alive))
        | inr one ↦ go one
      ]
        where
          list : asks_of t (link links 1 (k + 2)) ≡ m ∷ asks_of t rest
          list = ap (asks_of t) (front_at k of) ∙ ap (λ xs. xs ++ asks_of t rest) (ap (ask_of t) is ∙ asks)

          go : IsOneAsk p t (asks_of t (link links 1 (k + 2))) → (asks_of t rest ≡ []) × IsTimely p t m
          go (no_ask e) = absurd (cc (list, e))
          go (one_ask a e timely) = (let its : a ≡ m = cc (list, e) in (cc (list, e), subst (IsTimely p t) its timely))

      own : (m : Message) (b : Bool) → b ≡ true → (if b then m ∷ [] else []) ≡ m ∷ []
      own m b e = ap (λ c. if c then m ∷ [] else []) e

      may_ask : Asks w from letter s.sequencer.history
      may_ask = record {
        read = λ k t ask x of is free. (let alive = free_open p t free in let one = alone k t (letters.ReadAsk t ask x) of is (own (letters.ReadAsk t ask x) (is_txn t t) (same_self t.0)) alive in asks_read t x alive (subst (AsksSeen w p) is (fronted k of)) one.1);
        commit = λ k t request of is free. subst (AsksSeen w p) is (fronted k of) (free_open p t free);
        end = λ k t cause told of is free. subst (AsksSeen w p) is (fronted k of) (free_open p t free);
      }
        where
          wanted : (t : Txn) (x : Item) → (outcome w p t).end ≡ wants.Read x → is_asked w p t x ≡ true
          wanted t x e = ap (λ z. wants_item x z || is_lost p t x) e ∙ ap (λ b. b || is_lost p t x) (same_self x.0)

          lost : (t : Txn) (x : Item) (b : Bool) → is_lost p t x ≡ true → (b || is_lost p t x) ≡ true
          lost t x true e = refl
          lost t x false e = e

          asks_read : (t : Txn) (x : Item) → has_ended p t ≡ false → (has_ended p t ≡ false → has_read p t x ≡ false → (outcome w p t).end ≡ wants.Read x) → (has_read p t x ≡ false) ⊎ (is_lost p t x ≡ true) → is_asked w p t x ≡ true
          asks_read t x alive h (inl unread) = wanted t x (h alive unread)
          asks_read t x alive h (inr gone) = lost t x (wants_item x (outcome w p t).end) gone

      -- an ask of a transaction, from the site at a place, comes from its home
      numbers : (h j k : ℕ) → (h == j + 1) ≡ true → (h == k + 1) ≡ true → j ≡ k
      numbers h j k a b = (let x = eqb-true h (j + 1) a in let y = eqb-true h (k + 1) b in omega (arith, x, y))

      front_home : (j : ℕ) (t : Txn) → from ≡ j + 2 → IsAskOf t letter.message → is_site (site (j + 1)) (home w t) ≡ true
      front_home j t of asks = asked_home w p (site (j + 1)) t letter.message (subst (AllByRecursion (λ (l : Letter). AskSays w p (site (j + 1)) l.message)) (front_at j of) (asks_say j)).0 asks

      -- what is left on the link from a site
      left_on : (k : ℕ) → (from ≡ k + 2) ⊎ (from ≢ k + 2) → AllByRecursion (SaysSeen q) (link after 1 (k + 2))
      left_on k (inl of) =
          let gone = ap (link after 1) (sym of) ∙ moved_taken (w.sites + 2) links 1 from 0 clock rest now.outs known.landed.holds.square (omega arith) below (λ e. omega (arith, e, of)) in
          subst (AllByRecursion (SaysSeen q)) (sym gone)
          (all_both (IsAskAmong rest) (SaysSeen p) (SaysSeen q) rest (λ l among h. keeps p q alive_before l.message (λ t asks alive. still t l.message asks (among t asks) (chain_sees w from letter s.sequencer.history chain t)) h)
          (each_among rest) (subst (AllByRecursion (SaysSeen p)) (front_at k of) (all.asks k)).1)
        where
          still : (t : Txn) (m : Message) → IsAskOf t m → Among m (asks_of t rest) → Sees w from letter s.sequencer.history t p q → SeesSame w t p q
          still t m asks among (sees_same a) = a
          still t m asks among (sees_read j ask x at is free a) =
              absurd (subst (Among m) (alone k t (letters.ReadAsk t ask x) of is (own (letters.ReadAsk t ask x) (is_txn t t) (same_self t.0)) (free_open p t free)).0 among)
      left_on k (inr other) =
          let same = moved_other (w.sites + 2) links 1 from 0 clock rest now.outs known.landed.holds.square (omega arith) 1 (k + 2) (omega arith) (λ e. omega (arith, e)) (inr (λ e. other (sym e))) in
          subst (AllByRecursion (SaysSeen q)) (sym same)
          (all_both (λ (l : Letter). AskSays w p (site (k + 1)) l.message) (SaysSeen p) (SaysSeen q) (link links 1 (k + 2)) (λ l says h. keeps p q alive_before l.message (λ t asks alive. still t l.message says asks (chain_sees w from letter s.sequencer.history chain t)) h) (asks_say k) (all.asks k))
        where
          still : (t : Txn) (m : Message) → AskSays w p (site (k + 1)) m → IsAskOf t m → Sees w from letter s.sequencer.history t p q → SeesSame w t p q
          still t m says asks (sees_same a) = a
          still t m says asks (sees_read j ask x of is free a) =
              let here : j ≡ k = numbers (home w t).0 j k (front_home j t of (subst (IsAskOf t) (sym is) (same_self t.0))) (asked_home w p (site (k + 1)) t m says asks) in
              absurd (other (of ∙ ap (λ n. n + 2) here))

      -- the programs of a site whose session is told before and after
      module _ (k : ℕ) (state : SiteState) (at : slice_get s.sites k ≡ Some state) (up : state.up ≡ true) (last : last_session p (site (k + 1)) ≡ state.session) where
        program_keeps : (r : Running) → running_of state r.txn ≡ Some r → is_site (site (k + 1)) (home w r.txn) ≡ true → Has w p r → Has w q r
        program_keeps r f mine h alive = by_seen (chain_sees w from letter s.sequencer.history chain r.txn)
          where
            was : HasSeen w p r.txn r.answers r.phase
            was = h (alive_before r.txn alive)

            kept : (phase : Phase) → SeesSame w r.txn p q → HasSeen w p r.txn r.answers phase → HasSeen w q r.txn r.answers phase
            kept (asking ask x o) a b = λ y other here. a.seen y ∙ b y other here
            kept (preparing reads writes awaited) a b = λ y here. a.seen y ∙ b y here
            kept sent a b = tt

            about : IsAbout p links k state.session r.txn r.asks r.answers (asks_of r.txn (link links 1 (k + 2))) r.phase
            about = elim (subst (Talks p links k state.session r.txn (asks_of r.txn (link links 1 (k + 2)))) f (known.talks.1 k state at up last r.txn)).1 [
              | inl over ↦ absurd (true≢false (sym over ∙ alive_before r.txn alive))
              | inr a ↦ a
            ]

            by_seen : Sees w from letter s.sequencer.history r.txn p q → HasSeen w q r.txn r.answers r.phase
            by_seen (sees_same a) = kept r.phase a was
            by_seen (sees_read j ask x of is free a) = go r.phase about was
              where
                here : j ≡ k
                here = numbers (home w r.txn).0 j k (front_home j r.txn of (subst (IsAskOf r.txn) (sym is) (same_self r.txn.0))) mine

                list : asks_of r.txn (link links 1 (k + 2)) ≡ letters.ReadAsk r.txn ask x ∷ asks_of r.txn rest
                list = ap (asks_of r.txn) (front_at k (of ∙ ap (λ n. n + 2) here)) ∙ ap (λ xs. xs ++ asks_of r.txn rest) (ap (ask_of r.txn) is ∙ own (letters.ReadAsk r.txn ask x) (is_txn r.txn r.txn) (same_self r.txn.0))

                waits : (number : ℕ) (y : Item) (o : Option Site) → Outstanding p links k state.session r.txn number y o (asks_of r.txn (link links 1 (k + 2))) → x ≡ y
                waits number y o (asked e none toks) = cc (list, e)
                waits number y o (dropped e none toks) = absurd (cc (list, e))
                waits number y o (read n z e l i has toks server late) = absurd (cc (list, e))

                go : (phase : Phase) → IsAbout p links k state.session r.txn r.asks r.answers (asks_of r.txn (link links 1 (k + 2))) phase → HasSeen w p r.txn r.answers phase → HasSeen w q r.txn r.answers phase
                go (asking number y o) i b = (let its = waits number y o i.1.1.1 in λ z other there. a z (ap (λ (u : Item). is_item u z) its ∙ other) ∙ b z other there)
                go (preparing reads writes awaited) i b = absurd (cc (list, i.0))
                go sent i b = tt

        at_home : (rs : List Running) → AllByRecursion (λ (r : Running). Ours w (site (k + 1)) r.txn) rs → AllByRecursion (λ (r : Running). is_site (site (k + 1)) (home w r.txn) ≡ true) rs
        at_home [] a = tt
        at_home (r ∷ rs) a = (a.0.at, at_home rs a.1)

        programs_keep : AllByRecursion (Has w q) state.running
        programs_keep =
            all_both (λ (r : Running). (running_of state r.txn ≡ Some r) × (is_site (site (k + 1)) (home w r.txn) ≡ true)) (Has w p) (Has w q) state.running (λ r here h. program_keeps r here.0 here.1 h)
            (all_both (λ (r : Running). running_of state r.txn ≡ Some r) (λ (r : Running). is_site (site (k + 1)) (home w r.txn) ≡ true) (λ (r : Running). (running_of state r.txn ≡ Some r) × (is_site (site (k + 1)) (home w r.txn) ≡ true)) state.running
            (λ r f mine. (f, mine)) (each_found state.running (known.landed.homes k state at).ascend) (at_home state.running (known.landed.homes k state at).running))
            (all.running k state at up last)

      nobody : (rs : List Running) → rs ≡ [] → AllByRecursion (Has w q) rs
      nobody rs e = subst (AllByRecursion (Has w q)) (sym e) tt

      programs_after : (k : ℕ) (state : SiteState) → slice_get s.sites k ≡ Some state → SeenAt q k state
      programs_after k state at up last = go (known.landed.waits k state at).stage
        where
          go : {bs : _} {notes : _} → Stage w k p state.up state.session state.running state.next bs notes → AllByRecursion (Has w q) state.running
          go (stopped d e z) = nobody state.running e
          go (asleep u l e z b) = nobody state.running e
          go (cares.fresh u l e z b n) = nobody state.running e
          go (awake u l fine c) = programs_keep k state at up l

      pub sequencer_seen : AllSeen (hear_sequencer w s.sequencer from letter).state.history s.sites (moved links 1 from 0 clock rest (hear_sequencer w s.sequencer from letter).outs)
      sequencer_seen = record {
        running = programs_after;
        asks = λ k. left_on k (same_or_not from (k + 2));
        entries = chain_asked w from letter s.sequencer.history may_ask chain all.entries;
      }
