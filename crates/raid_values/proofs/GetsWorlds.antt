-- Each step of the monitor and of the sequencer keeps what is on its way to answer an ask the value that the transaction has seen.
use Rattle.std.proofs.Common.{◌≡◌, ◌≢◌, ◌⊎◌, inl, inr, ℕ, suc, ◌+◌, ◌-◌, ◌<◌, ◌≤◌, ◌==◌, Bool, true, false, ◌&&◌, List, [], ◌∷◌, ◌++◌, Option, Some, if◌then◌else◌, arith, sym, subst, ap, ◌∙◌, refl}
use Rattle.std.specs.Prelude.{⊤, slice_get}
use Rattle.std.specs.List.{AllByRecursion, list_any}
use Rattle.std.proofs.lemmas.Bool.{and_from, eqb-true, true≢false}
use Rattle.raid_base.specs.declared.names.Txn.{Txn}
use Rattle.raid_base.specs.declared.names.Item.{Item}
use Rattle.raid_base.specs.declared.names.Site.{Site}
use Rattle.raid_base.specs.declared.entry.Entry.{Entry}
use Rattle.raid_base.specs.declared.entry.Entry.TheVariants.{Read, Wait}
use Rattle.raid_base.specs.declared.entry.Noted.{Noted}
use Rattle.raid_base.specs.Names.{is_txn, is_item, is_site, has_site}
use Rattle.raid_base.specs.Sites.{session, site}
use Rattle.raid_workload.specs.declared.workload.Workload.{Workload}
use Rattle.raid_workload.specs.Parts.{home}
use Rattle.raid_rules.specs.Entries.{is_end_of, reads_item}
use Rattle.raid_rules.specs.History.{noted, next, has_ended, version}
use Rattle.raid_rules.specs.Sessions.{last_session, is_copy_locked, is_site_up}
use Rattle.raid_rules.proofs.Push.{noted_push, same_txn}
use Rattle.raid_legal.specs.Seen.{seen, value_of, vector, sources}
use Rattle.raid_message.specs.declared.letter.Message.{Message}
use Rattle.raid_message.specs.declared.letter.Message.TheVariants as letters
use Rattle.raid_message.specs.declared.letter.Letter.{Letter}
use Rattle.raid_steps.specs.State.{Out, Turn, Sequencer, asking, Copy, Running, SiteState, opened, to_site}
use Rattle.raid_steps.specs.Copies.{copy_of}
use Rattle.raid_steps.specs.Programs.{running_of}
use Rattle.raid_steps.specs.Sequencer.{so_far, place, hear_sequencer}
use Rattle.raid_steps.specs.World.{World, link}
use Rattle.raid_placed.specs.Placed.{Placed}
use Rattle.raid_placed.proofs.Sent.{placed_push}
use Rattle.raid_sessions.proofs.Agreed.{told_follows}
use Rattle.raid_sessions.proofs.Ledger.{session_still}
use Rattle.raid_sessions.proofs.Lists.{all_append, all_weaken, get_below, is_same}
use Rattle.raid_sessions.proofs.Mail.{same_or_not, letter_of, letters_to, moved, moved_sent, moved_other}
use Rattle.raid_asks.proofs.Cares as cares
use Rattle.raid_asks.proofs.Cares.{Stage, stopped, asleep, awake}
use Rattle.raid_asks.proofs.Notes.{all_sent}
use Rattle.raid_letters.specs.Says.{NoteSays, AskSays, is_applied}
use Rattle.raid_letters.proofs.Later.{Later}
use Rattle.raid_letters.proofs.Runs.{LetterSays, QueueSays, steps_on}
use Rattle.raid_layers.specs.Asks.{asks_of, ask_of, OfSequencer, AllTokens, IsBelow, Outstanding, asked, dropped, read, IsAbout, Talks, AskOneThing}
use Rattle.raid_layers.proofs.Opening.{First, reads, waits, nothing, Chain, done, places, sends, IsLater, Opens, hear_opens}
use Rattle.raid_layers.proofs.Settled.{Settled, chain_settled, calm_holds}
use Rattle.raid_layers.proofs.SiteWorlds.{none_there}
use Rattle.raid_layers.proofs.Tokens.{SentHolds, step_all, all_weaker}
use Rattle.raid_steps.specs.Fits.{knows_site}
use Rattle.raid_steps.proofs.Parts.{number_known}
use Rattle.raid_moves.proofs.Places.{all_found}
use Rattle.raid_asks.proofs.Least.{Ours}
use Rattle.raid_staged.proofs.Worlds.{Landed}
use Rattle.raid_versions.specs.Versions.{IsVersion, IsLive, LastVersions, Along, after_letter, latest}
use Rattle.raid_versions.proofs.Links.{IsAlike, AreAlike, latest_alike, along_on, AreForOthers, along_others, latest_others}
use Rattle.raid_versions.proofs.Placing.{read_source}
use Rattle.raid_versions.proofs.Steps.{source_unlocked}
use Rattle.raid_versions.proofs.Written.{numbered, version_long}
use Rattle.raid_values.specs.Gets.{Ask, reads_for, ReadsSeen, BringsSeen, IsAnsweredBySeen, GetWhatTheySaw}
use Rattle.raid_values.specs.Values.{committed_value}
use Rattle.raid_values.proofs.Claims.{IsNot, below_not, NoneReads, along_none, none_on, none_read, read_parts, Brought, brought_links, links_brought, none_answers}
use Rattle.raid_values.proofs.Committed.{step_goes}
use Rattle.raid_values.proofs.Pushes.{GoesOn, seen_push, version_value, version_within, positive}

-- what isn't so in a later history wasn't in an earlier one
earlier_not : (p q : List Noted) → ((test : Noted → Bool) → list_any test p ≡ true → list_any test q ≡ true) → (test : Noted → Bool) → list_any test q ≡ false → list_any test p ≡ false
earlier_not p q grows test none = go (list_any test p) refl
  where
    go : (b : Bool) → list_any test p ≡ b → b ≡ false
    go true h = absurd (true≢false (sym (grows test h) ∙ none))
    go false h = refl

-- a letter that is answered by the message that it asks for
own_ask : (t : Txn) (number : ℕ) (x : Item) → ask_of t (letters.ReadAsk t number x) ≡ letters.ReadAsk t number x ∷ []
own_ask t number x = ap (λ b. if b then letters.ReadAsk t number x ∷ [] else []) (self t.0)
  where
    self : (n : ℕ) → (n == n) ≡ true
    self n = grind arith

module _ (w : Workload) where
  -- programs run only at a site that is up in its last session
  pub home_live : (state : World) → Landed w state → (k : ℕ) (s : SiteState) → slice_get state.servers.sites k ≡ Some s → (t : Txn) (r : Running) → running_of s t ≡ Some r → IsLive (noted state.servers.sequencer.history) state.servers.sites k s
  home_live state landed k s at t r f = go (landed.cares k s at).stage
    where
      go : {bs : List Txn} {notes : List Letter} → Stage w k (noted state.servers.sequencer.history) s.up s.session s.running s.next bs notes → IsLive (noted state.servers.sequencer.history) state.servers.sites k s
      go (stopped d e z) = absurd (none_there s.running t r e f)
      go (asleep u l e z b) = absurd (none_there s.running t r e f)
      go (cares.fresh u l e z b n) = absurd (none_there s.running t r e f)
      go (awake u l fine c) = record { at = at; up = u; last = l }

  -- what became of the ask of a program that runs
  pub outstanding : (state : World) → AskOneThing w state → (k : ℕ) (s : SiteState) (r : Running) (number : ℕ) (x : Item) (o : Option Site) → IsLive (noted state.servers.sequencer.history) state.servers.sites k s → running_of s r.txn ≡ Some r → r.phase ≡ asking number x o →
      has_ended (noted state.servers.sequencer.history) r.txn ≡ false → Outstanding (noted state.servers.sequencer.history) state.links k s.session r.txn number x o (asks_of r.txn (link state.links 1 (k + 2)))
  outstanding state talk k s r number x o live f is alive = go (subst (Talks p state.links k s.session r.txn asks) f (talk.talks k s live.at live.up live.last r.txn)).1
    where
      p : List Noted
      p = noted state.servers.sequencer.history

      asks : List Message
      asks = asks_of r.txn (link state.links 1 (k + 2))

      go : (has_ended p r.txn ≡ true) ⊎ IsAbout p state.links k s.session r.txn r.asks r.answers asks r.phase → Outstanding p state.links k s.session r.txn number x o asks
      go (inl over) = absurd (true≢false (sym over ∙ alive))
      go (inr about) = (subst (IsAbout p state.links k s.session r.txn r.asks r.answers asks) is about).1.1.1

  -- along the later part of a sequencer's step nothing is read
  module _ (from : ℕ) (letter : Letter) where
    chain_sees : (a b : Turn Sequencer) → Chain w from letter a b → (t : Txn) (x : Item) → seen w (so_far b) t x ≡ seen w (so_far a) t x
    chain_sees a b done t x = refl
    chain_sees a b (places ask e y rest) t x =
        chain_sees (place w ask a e) b rest t x ∙ ap (λ z. seen w z t x) (noted_push a.state.history e) ∙ seen_push w (so_far a) e t x ∙ ap (λ c. if c then Some (value_of w (so_far a) x) else seen w (so_far a) t x) (unread e y)
      where
        unread : (e : Entry) → IsLater w from letter (so_far a) e → reads_item t x e ≡ false
        unread (Read u z s) y = absurd y
        unread other y = refl
    chain_sees a b (sends {next = next} outs same is other rest) t x = chain_sees next b rest t x ∙ ap (λ h. seen w (noted h) t x) same

    chain_placed : (a b : Turn Sequencer) → Chain w from letter a b → Placed w b.state.history → Placed w a.state.history
    chain_placed a b done l = l
    chain_placed a b (places ask e y rest) l = ((placed_push w a.state.history e).0 (chain_placed (place w ask a e) b rest l)).0
    chain_placed a b (sends {next = next} outs same is other rest) l = subst (Placed w) same (chain_placed next b rest l)

  module _ (state : World) (landed : Landed w state) (versions : LastVersions (noted state.servers.sequencer.history) state.servers.sites state.links) (talk : AskOneThing w state)
      (gets : GetWhatTheySaw w (noted state.servers.sequencer.history) state.servers.sites state.links) (from clock : ℕ) (letter : Letter) (rest : List Letter) where
    abbrev p : List Noted
    p = noted state.servers.sequencer.history

    abbrev sites : List SiteState
    sites = state.servers.sites

    below : (k : ℕ) (s : SiteState) → slice_get sites k ≡ Some s → k + 2 < w.sites + 2
    below k s at = (let b = get_below sites k s at in let long = landed.says.reached.long in omega (arith, b, long))

    known_place : (k : ℕ) (s : SiteState) → slice_get sites k ≡ Some s → knows_site w (site (k + 1)) ≡ true
    known_place k s at = (let b = get_below sites k s at in let long = landed.says.reached.long in number_known w k (omega (arith, b, long)))

    none_sent : (outs : List Out) → AllByRecursion (λ (out : Out). ⊤) outs
    none_sent [] = tt
    none_sent (out ∷ outs) = (tt, none_sent outs)

    -- the monitor
    pub monitor_gets : (outs : List Out) → link state.links 0 from ≡ letter ∷ rest → GetWhatTheySaw w (noted state.servers.sequencer.history) state.servers.sites (moved state.links 0 from 0 clock rest outs)
    monitor_gets outs front k s r number x o live f is alive = record {
      read = λ j z c there has. subst (Along (ReadsSeen w p a) p x z.session c.version) (sym (same j z there.at)) (old.read j z c there has);
      brought = links_brought w p a after (step_all (Brought w p a) 0 from 0 clock letter rest outs state.links front (none_sent outs) (brought_links w p a state.links old.brought));
    }
      where
        after : List (List (List Letter))
        after = moved state.links 0 from 0 clock rest outs

        a : Ask
        a = record { txn = r.txn; place = k; session = s.session; number = number; item = x }

        old : IsAnsweredBySeen w p sites state.links a
        old = gets k s r number x o live f is alive

        same : (j : ℕ) (z : SiteState) → slice_get sites j ≡ Some z → link after (j + 2) 1 ≡ link state.links (j + 2) 1
        same j z there = moved_other (w.sites + 2) state.links 0 from 0 clock rest outs landed.says.reached.square (omega arith) (j + 2) 1 (below j z there) (λ e. omega (arith, e)) (inl (λ e. omega (arith, e)))

    -- the sequencer
    module _ (front : link state.links 1 from ≡ letter ∷ rest) (placed_after : Placed w (hear_sequencer w state.servers.sequencer from letter).state.history) where
      abbrev now : Turn Sequencer
      now = hear_sequencer w state.servers.sequencer from letter

      abbrev q : List Noted
      q = noted (hear_sequencer w state.servers.sequencer from letter).state.history

      abbrev after : List (List (List Letter))
      after = moved state.links 1 from 0 clock rest (hear_sequencer w state.servers.sequencer from letter).outs

      later : Later p q
      later = steps_on w state landed.says from clock letter rest front

      on : GoesOn w p q
      on = step_goes w state.servers.sequencer from letter

      -- what is to be applied is as before
      alike : (j : ℕ) (x : Item) → AreAlike p q x (link state.links (j + 2) 1)
      alike j x = all_weaken (LetterSays w p (j + 2) 1) (λ (l : Letter). IsAlike p q x l.message) (link state.links (j + 2) 1) (λ l says. go l.message l.to says) (landed.says.says (j + 2) 1)
        where
          here : Site
          here = site (j + 2 - 1)

          go : (m : Message) (to : ℕ) → NoteSays w p here to m → IsAlike p q x m
          go (letters.Apply t n) to says = on.written x n ((numbered state.servers.sequencer.history (is_applied t here) n says).1)
          go other to says = tt

      -- a live site was live before, or nothing that was on its way is for its session
      abbrev Was : ℕ → SiteState → Type 0
      Was j z = IsLive p sites j z ⊎ AreForOthers z.session (link state.links (j + 2) 1)

      was : (j : ℕ) (z : SiteState) → IsLive q sites j z → Was j z
      was j z live = go (same_or_not (last_session p (site (j + 1))) z.session)
        where
          other : (a m n : ℕ) → a ≤ m → m ≤ n → (m ≡ n → ⊥) → (a == n) ≡ false
          other a m n low most differ = go (a == n) refl
            where
              go : (b : Bool) → (a == n) ≡ b → b ≡ false
              go true e = absurd (differ (let same = eqb-true a n e in omega (arith, same, low, most)))
              go false e = refl

          go : (last_session p (site (j + 1)) ≡ z.session) ⊎ (last_session p (site (j + 1)) ≢ z.session) → Was j z
          go (inl same) = inl (record { at = live.at; up = live.up; last = same })
          go (inr differ) =
              inr (all_weaken _ (λ (l : Letter). (l.to == z.session) ≡ false) (link state.links (j + 2) 1)
              (λ l h. other l.to (last_session p (site (j + 1))) z.session h.0 (told_follows w state landed.says.reached j z live.at) differ)
              (landed.says.reached.heard j (let b = get_below sites j z live.at in let long = landed.says.reached.long in omega (arith, b, long))))

      notes : (j : ℕ) (z : SiteState) → slice_get sites j ≡ Some z → link after (j + 2) 1 ≡ link state.links (j + 2) 1 ++ letters_to (j + 2) 0 clock now.outs
      notes j z there = moved_sent (w.sites + 2) state.links 1 from 0 clock rest now.outs landed.says.reached.square (omega arith) (j + 2) (below j z there) (λ e. omega (arith, e))

      -- a program that waits for an item, and what is on its way to answer it before the step
      module _ (a : Ask) (old : IsAnsweredBySeen w p sites state.links a) where
        -- nothing was read for it; or nothing was on its way
        abbrev Before : Type 0
        Before = (seen w q a.txn a.item ≡ seen w p a.txn a.item) ⊎ AllTokens state.links a.txn a.place a.session (IsNot a.number)

        -- what is sent is claimed with the version that the copy has behind all that was on its way
        abbrev New : Type 0
        New = (j : ℕ) (z : SiteState) (c : Copy) → IsLive q sites j z → copy_of z a.item ≡ Some c → (v : ℕ) → (IsLive p sites j z → v ≡ latest p a.item z.session c.version (link state.links (j + 2) 1)) →
            Along (ReadsSeen w q a) q a.item z.session v (letters_to (j + 2) 0 clock now.outs)

        module _ (before : Before) (new : New) where
          along : (j : ℕ) (z : SiteState) (c : Copy) → IsLive q sites j z → copy_of z a.item ≡ Some c → Was j z → Along (ReadsSeen w q a) q a.item z.session c.version (link state.links (j + 2) 1 ++ letters_to (j + 2) 0 clock now.outs)
          along j z c live has (inr others) =
              along_others (ReadsSeen w q a) q a.item z.session c.version (link state.links (j + 2) 1) (letters_to (j + 2) 0 clock now.outs) others
              (new j z c live has c.version (λ there. sym (latest_others p a.item z.session c.version (link state.links (j + 2) 1) others)))
          along j z c live has (inl there) = go before
            where
              ls : List Letter
              ls = link state.links (j + 2) 1

              ys : List Letter
              ys = letters_to (j + 2) 0 clock now.outs

              is_version : IsVersion p a.item c.version
              is_version = versions.versions j z there.at a.item c has

              last : Along (ReadsSeen w q a) q a.item z.session (latest q a.item z.session c.version ls) ys
              last = new j z c live has (latest q a.item z.session c.version ls) (λ there. latest_alike p q a.item z.session c.version ls (alike j a.item))

              go : Before → Along (ReadsSeen w q a) q a.item z.session c.version (ls ++ ys)
              go (inl same) =
                  along_on p q a.item z.session (ReadsSeen w p a) (ReadsSeen w q a) ys
                  (λ v message behind is h reads. same ∙ h reads ∙ ap Some (sym (on.values a.item v (version_long state.servers.sequencer.history a.item v is))))
                  c.version is_version ls (alike j a.item) (old.read j z c there has) last
              go (inr none) =
                  along_on p q a.item z.session (ReadsSeen w q a) (ReadsSeen w q a) ys (λ v message behind is h reads. h reads)
                  c.version is_version ls (alike j a.item) (along_none w p q a a.item z.session c.version ls (none_on a state.links j none)) last

          pub answered : IsAnsweredBySeen w q sites after a
          answered = record {
            read = λ j z c live has. subst (Along (ReadsSeen w q a) q a.item z.session c.version) (sym (notes j z live.at)) (along j z c live has (was j z live));
            brought = links_brought w q a after (step_all (Brought w q a) 1 from 0 clock letter rest now.outs state.links front (none_sent now.outs) (brought_links w q a state.links (kept before)));
          }
            where
              brings : seen w q a.txn a.item ≡ seen w p a.txn a.item → (to : ℕ) (m : Message) → BringsSeen w p a to m → BringsSeen w q a to m
              brings same to (letters.Value t number v) h = λ e. same ∙ h e
              brings same to other h = tt

              kept : Before → (j : ℕ) → AllByRecursion (λ (l : Letter). BringsSeen w q a l.to l.message) (link state.links (a.place + 2) (j + 2))
              kept (inl same) j = all_weaken (λ (l : Letter). BringsSeen w p a l.to l.message) (λ (l : Letter). BringsSeen w q a l.to l.message) (link state.links (a.place + 2) (j + 2)) (λ l h. brings same l.to l.message h) (old.brought j)
              kept (inr none) j = (none_answers w q sites state.links a none).brought j

      -- what is sent that has nothing read for the ask
      abbrev NoneSent : Ask → List Out → Type 0
      NoneSent a outs = AllByRecursion (λ (out : Out). reads_for a out.2 ≡ true → ⊥) outs

      none_to : (a : Ask) (j : ℕ) (outs : List Out) → NoneSent a outs → NoneReads a (letters_to (j + 2) 0 clock outs)
      none_to a j outs h = all_sent (λ (l : Letter). reads_for a l.message ≡ true → ⊥) (j + 2) 0 clock outs (all_weaken (λ (out : Out). reads_for a out.2 ≡ true → ⊥) (λ (out : Out). out.0 ≡ j + 2 → reads_for a out.2 ≡ true → ⊥) outs (λ out h to. h) h)

      calm_none : (a : Ask) (outs : List Out) → SentHolds a.txn a.place a.session (IsNot a.number) 1 outs → NoneSent a outs
      calm_none a outs h = all_weaken (λ (out : Out). OfSequencer a.txn a.place a.session (IsNot a.number) out.0 out.1 out.2) (λ (out : Out). reads_for a out.2 ≡ true → ⊥) outs (λ out h. none_read a out.0 out.1 out.2 h) h

      -- a program at a live home
      module _ (k : ℕ) (s : SiteState) (r : Running) (number : ℕ) (x : Item) (o : Option Site) (live_after : IsLive q sites k s) (f : running_of s r.txn ≡ Some r) (is : r.phase ≡ asking number x o) (alive_after : has_ended q r.txn ≡ false) where
        live : IsLive p sites k s
        live = home_live state landed k s live_after.at r.txn r f

        alive : has_ended p r.txn ≡ false
        alive = earlier_not p q later.any (λ n. is_end_of r.txn n.entry) alive_after

        abbrev a : Ask
        a = record { txn = r.txn; place = k; session = s.session; number = number; item = x }

        old : IsAnsweredBySeen w p sites state.links a
        old = gets k s r number x o live f is alive

        abbrev asks : List Message
        asks = asks_of r.txn (link state.links 1 (k + 2))

        stands : Outstanding p state.links k s.session r.txn number x o asks
        stands = outstanding state talk k s r number x o live f is alive

        -- the home asks for its own transactions
        at_home : is_site (site (k + 1)) (home w r.txn) ≡ true
        at_home = all_found (λ (z : Running). is_site (site (k + 1)) (home w z.txn) ≡ true) (λ (z : Running). is_txn r.txn z.txn) s.running r
            (all_weaken (λ (z : Running). Ours w (site (k + 1)) z.txn) (λ (z : Running). is_site (site (k + 1)) (home w z.txn) ≡ true) s.running (λ z h. h.at) (landed.says.homes k s live_after.at).running) f

        comes_home : (j ask : ℕ) (y : Item) → from ≡ j + 2 → letter.message ≡ letters.ReadAsk r.txn ask y → from ≡ k + 2
        comes_home j ask y of message =
            let said = (subst (QueueSays w p 1 (suc (suc j))) (ap (link state.links 1) (let e : suc (suc j) ≡ from = omega (arith, of) in e) ∙ front) (landed.says.says 1 (suc (suc j)))).0.0 in
            let theirs : is_site (site (j + 1)) (home w r.txn) ≡ true = (subst (AskSays w p (site (j + 1))) message said).0.1 in
            let mine = at_home in
            let here = eqb-true (home w r.txn).0 (j + 1) theirs in
            let there = eqb-true (home w r.txn).0 (k + 1) mine in
            omega (arith, of, here, there)

        -- so it is the one that is outstanding, and nothing is on its way that answers it
        its_ask : (ask : ℕ) (y : Item) → from ≡ k + 2 → letter.message ≡ letters.ReadAsk r.txn ask y → (ask ≡ number) × ((y ≡ x) × AllTokens state.links r.txn k s.session (IsNot number))
        its_ask ask y of message = go stands
          where
            asks_are : asks ≡ letters.ReadAsk r.txn ask y ∷ asks_of r.txn rest
            asks_are = ap (asks_of r.txn) (ap (link state.links 1) (sym of) ∙ front) ∙ ap (λ m. ask_of r.txn m ++ asks_of r.txn rest) message ∙ ap (λ ms. ms ++ asks_of r.txn rest) (own_ask r.txn ask y)

            go : Outstanding p state.links k s.session r.txn number x o asks → (ask ≡ number) × ((y ≡ x) × AllTokens state.links r.txn k s.session (IsNot number))
            go (asked e n toks) =
                let same : letters.ReadAsk r.txn ask y ∷ asks_of r.txn rest ≡ letters.ReadAsk r.txn number x ∷ [] = sym asks_are ∙ e in
                (cc same, (cc same, all_weaker r.txn k s.session state.links (IsBelow number) (IsNot number) (λ a token low. below_not number a token low) toks))
            go (dropped e n toks) = absurd (let none = sym asks_are ∙ e in cc none)
            go (read n z e l there has toks server falls) = absurd (let none = sym asks_are ∙ e in cc none)

        -- what the later part of the step sends has nothing read for it
        module _ (first : Turn Sequencer) (chain : Chain w from letter first now) where
          rest_of : (outs : List Out) × ((now.outs ≡ first.outs ++ outs) × Settled w from letter (so_far first) q outs)
          rest_of = chain_settled w from letter first now chain

          none_later : NoneSent a rest_of.0
          none_later = calm_none a rest_of.0 (calm_holds r.txn k s.session (IsNot number) (so_far first) q rest_of.0 rest_of.1.1.calm)

          -- nothing is read for it in the first part either
          unread : seen w (so_far first) r.txn x ≡ seen w p r.txn x → NoneSent a first.outs → IsAnsweredBySeen w q sites after a
          unread same none =
              answered a old (inl (chain_sees from letter first now chain r.txn x ∙ same))
              (λ j z c there has v eq. along_none w q q a x z.session v (letters_to (j + 2) 0 clock now.outs)
              (none_to a j now.outs (subst (NoneSent a) (sym rest_of.1.0) (all_append (λ (out : Out). reads_for a out.2 ≡ true → ⊥) first.outs rest_of.0 none none_later))))

        -- a Read
        module _ (j : ℕ) (u : Txn) (ask : ℕ) (y : Item) (from_site : Site) (of : from ≡ j + 2) (message : letter.message ≡ letters.ReadAsk u ask y)
            (chain : Chain w from letter (place w ask (opened state.servers.sequencer) (Read u y from_site)) now) where
          abbrev h : List Entry
          h = state.servers.sequencer.history

          abbrev first : Turn Sequencer
          first = place w ask (opened state.servers.sequencer) (Read u y from_site)

          abbrev v_now : List ℕ
          v_now = vector w (noted (state.servers.sequencer.history ++ Read u y from_site ∷ []))

          abbrev reads_out : Out
          reads_out = to_site v_now from_site (letters.ReadDo u ask y (home w u) (session v_now (home w u)))

          abbrev others : List Out
          others = if is_site from_site (home w u) then [] else to_site v_now (home w u) (letters.Serving u ask from_site) ∷ []

          none_others : NoneSent a others
          none_others = by (is_site from_site (home w u))
            where
              by : (b : Bool) → NoneSent a (if b then [] else to_site v_now (home w u) (letters.Serving u ask from_site) ∷ [])
              by true = tt
              by false = ((λ q. true≢false (sym q)), tt)

          seen_first : seen w (so_far first) r.txn x ≡ (if is_txn r.txn u && is_item x y then Some (value_of w p x) else seen w p r.txn x)
          seen_first = ap (λ z. seen w z r.txn x) (noted_push h (Read u y from_site)) ∙ seen_push w p (Read u y from_site) r.txn x

          -- of the program's own
          module _ (same : u ≡ r.txn) (mine : is_txn r.txn u ≡ true) where
            message_is : letter.message ≡ letters.ReadAsk r.txn ask y
            message_is = message ∙ ap (λ z. letters.ReadAsk z ask y) same

            its : (ask ≡ number) × ((y ≡ x) × AllTokens state.links r.txn k s.session (IsNot number))
            its = its_ask ask y (comes_home j ask y of message_is) message_is

            is_read : (is_txn r.txn u && is_item x y) ≡ true
            is_read = and_from (is_txn r.txn u) (is_item x y) mine (is_same y.0 x.0 (ap (λ (i : Item). i.0) its.1.0))

            seen_now : seen w q r.txn x ≡ Some (value_of w p x)
            seen_now = chain_sees from letter first now chain r.txn x ∙ seen_first ∙ ap (λ b. if b then Some (value_of w p x) else seen w p r.txn x) is_read

            source : (is_site_up (vector w p) from_site ≡ true) × (is_copy_locked p from_site x ≡ false)
            source = source_unlocked w p x from_site (subst (λ z. has_site (sources w p z) from_site ≡ true) its.1.0 (read_source w p u y from_site ((placed_push w h (Read u y from_site)).0 (chain_placed from letter first now chain placed_after)).1))

            -- where it is meant for a live site, that was live before, and its copy has the last version there
            module _ (i : ℕ) (z : SiteState) (c : Copy) (there : IsLive q sites i z) (has : copy_of z x ≡ Some c) (v : ℕ) (eq : IsLive p sites i z → v ≡ latest p x z.session c.version (link state.links (i + 2) 1)) where
              claimed : from_site.0 + 1 ≡ i + 2 → (session v_now from_site == z.session) ≡ true → seen w q r.txn x ≡ Some (committed_value w q x v)
              claimed to meant = seen_now ∙ ap Some (sym (ap (committed_value w q x) (eq live_there ∙ current) ∙ on.values x (version p x) (version_within w x h) ∙ version_value w x h))
                where
                  here : from_site ≡ site (i + 1)
                  here = ap (λ n. let z : Site = record { 0 = n } in z) (let e : from_site.0 ≡ i + 1 = omega (arith, to) in e)

                  now_is : session (vector w p) (site (i + 1)) ≡ z.session
                  now_is = ap (session (vector w p)) (sym here) ∙ sym (session_still w h (Read u y from_site) from_site refl) ∙ eqb-true (session v_now from_site) z.session meant

                  is_up : 0 < session (vector w p) (site (i + 1))
                  is_up = positive (session (vector w p) (site (i + 1))) (subst (λ z. is_site_up (vector w p) z ≡ true) here source.0)

                  last_is : last_session p (site (i + 1)) ≡ z.session
                  last_is = elim (landed.says.reached.ledger.accounts (site (i + 1)) (known_place i z there.at)).gone [
                    | inl gone ↦ absurd (let none = gone.0 in let up = is_up in omega (arith, none, up))
                    | inr up ↦ sym up.0 ∙ now_is
                  ]

                  live_there : IsLive p sites i z
                  live_there = record { at = there.at; up = there.up; last = last_is }

                  current : latest p x z.session c.version (link state.links (i + 2) 1) ≡ version p x
                  current = (versions.kept i z live_there x c has).current (subst (λ z. is_copy_locked p z x ≡ false) here source.1)

              none_behind : NoneReads a (letters_to (i + 2) 0 clock (others ++ (rest_of first chain).0))
              none_behind = none_to a i (others ++ (rest_of first chain).0) (all_append (λ (out : Out). reads_for a out.2 ≡ true → ⊥) others (rest_of first chain).0 none_others (none_later first chain))

              by_site : (b : Bool) → (from_site.0 + 1 == i + 2) ≡ b →
                  Along (ReadsSeen w q a) q x z.session v (if b then letter_of 0 clock reads_out ∷ letters_to (i + 2) 0 clock (others ++ (rest_of first chain).0) else letters_to (i + 2) 0 clock (others ++ (rest_of first chain).0))
              by_site true e = (
                (λ meant reads. claimed (eqb-true (from_site.0 + 1) (i + 2) e) meant),
                along_none w q q a x z.session (after_letter q x z.session v (letter_of 0 clock reads_out)) (letters_to (i + 2) 0 clock (others ++ (rest_of first chain).0)) none_behind,
              )
              by_site false e = along_none w q q a x z.session v (letters_to (i + 2) 0 clock (others ++ (rest_of first chain).0)) none_behind

              new : Along (ReadsSeen w q a) q x z.session v (letters_to (i + 2) 0 clock now.outs)
              new = subst (λ outs. Along (ReadsSeen w q a) q x z.session v (letters_to (i + 2) 0 clock outs)) (sym (rest_of first chain).1.0) (by_site (from_site.0 + 1 == i + 2) refl)

          was_read : IsAnsweredBySeen w q sites after a
          was_read = by_txn (is_txn r.txn u) refl
            where
              by_txn : (b : Bool) → is_txn r.txn u ≡ b → IsAnsweredBySeen w q sites after a
              by_txn true mine = answered a old (inr (its (same_txn u r.txn mine) mine).1.1) (λ i z c there has v eq. new (same_txn u r.txn mine) mine i z c there has v eq)
              by_txn false other =
                  unread first chain (seen_first ∙ ap (λ b. if b && is_item x y then Some (value_of w p x) else seen w p r.txn x) other)
                  ((λ e. true≢false (sym (read_parts a u ask y (home w u) (session v_now (home w u)) e).own ∙ other)), none_others)

        pub gets_after : IsAnsweredBySeen w q sites after a
        gets_after = go (hear_opens w from letter state.servers.sequencer from refl)
          where
            begun : (first : Turn Sequencer) → First w from letter (opened state.servers.sequencer) first → Chain w from letter first now → IsAnsweredBySeen w q sites after a
            begun f nothing chain = unread (opened state.servers.sequencer) chain refl tt
            begun f (waits j u request of message) chain =
                unread (place w 0 (opened state.servers.sequencer) (Wait u request)) chain (ap (λ h. seen w h r.txn x) (noted_push state.servers.sequencer.history (Wait u request)) ∙ seen_push w p (Wait u request) r.txn x) tt
            begun f (reads j u ask y from_site of message) chain = was_read j u ask y from_site of message chain

            go : Opens w from letter (opened state.servers.sequencer) now → IsAnsweredBySeen w q sites after a
            go (first, (one, chain)) = begun first one chain

      pub sequencer_gets : GetWhatTheySaw w (noted (hear_sequencer w state.servers.sequencer from letter).state.history) state.servers.sites (moved state.links 1 from 0 clock rest (hear_sequencer w state.servers.sequencer from letter).outs)
      sequencer_gets k s r number x o live f is alive = gets_after k s r number x o live f is alive
