-- Each step in the world keeps what programs are about.
use Rattle.std.proofs.Common.{◌≡◌, ◌≢◌, ◌⊎◌, inl, inr, ℕ, ℤ, suc, ◌+◌, ◌<◌, ◌≤◌, ◌==◌, Bool, true, false, List, [], ◌∷◌, ◌++◌, length, find, Option, Some, None, arith, sym, subst, ap, ◌∙◌, refl}
use Rattle.std.specs.Prelude.{slice_get}
use Rattle.std.specs.List.{AllByRecursion}
use Rattle.std.proofs.lemmas.Bool.{eqb-true, true≢false}
use Rattle.raid_base.specs.declared.names.Txn.{Txn}
use Rattle.raid_base.specs.declared.names.Item.{Item}
use Rattle.raid_base.specs.declared.names.Site.{Site}
use Rattle.raid_base.specs.declared.entry.Noted.{Noted}
use Rattle.raid_base.specs.Names.{is_txn, is_site}
use Rattle.raid_base.specs.Sites.{site}
use Rattle.raid_program.specs.Run.{put}
use Rattle.raid_workload.specs.declared.workload.Workload.{Workload}
use Rattle.raid_workload.specs.Parts.{home}
use Rattle.raid_rules.specs.History.{noted, has_ended}
use Rattle.raid_rules.specs.Sessions.{last_session}
use Rattle.raid_message.specs.declared.letter.Message.{Message}
use Rattle.raid_message.specs.declared.letter.Message.TheVariants as letters
use Rattle.raid_message.specs.declared.letter.Letter.{Letter}
use Rattle.raid_steps.specs.State.{Out, Turn, Sequencer, opened, asking, Running, SiteState}
use Rattle.raid_steps.specs.Programs.{running_of}
use Rattle.raid_steps.specs.Sequencer.{is_hello, hear_sequencer}
use Rattle.raid_steps.specs.World.{Servers, link}
use Rattle.raid_sessions.proofs.Holds.{Holds}
use Rattle.raid_sessions.proofs.Lists.{get_below}
use Rattle.raid_sessions.proofs.Mail.{same_or_not, letters_to, moved, moved_taken, moved_sent, moved_other}
use Rattle.raid_sessions.proofs.Sessions.{AllHello, Sent}
use Rattle.raid_moves.specs.Moves.{comes_to, fresh}
use Rattle.raid_moves.proofs.Places.{all_found, found_txn}
use Rattle.raid_asks.specs.Way.{begins_of as begins}
use Rattle.raid_asks.proofs.Cares.{Stage, stopped, asleep, awake, Cares, begins_append, begins_told}
use Rattle.raid_asks.proofs.Cares as cares
use Rattle.raid_asks.proofs.Facts.{placed_order}
use Rattle.raid_asks.proofs.Homes.{Homes}
use Rattle.raid_asks.proofs.Least.{Ours}
use Rattle.raid_asks.proofs.Waits.{Waits}
use Rattle.raid_letters.specs.Says.{AskSays}
use Rattle.raid_letters.proofs.Runs.{QueueSays, LinksSay}
use Rattle.raid_layers.specs.Asks.{ask_of, asks_of, IsOneAsk, Claim, AllTokens, FallsLater, Talks}
use Rattle.raid_layers.proofs.AtSequencer.{Firsts, ComesHome, firsts, Taken, left, took, one_after, talks_none, talks_some}
use Rattle.raid_layers.proofs.Opening.{Opens, hear_opens}
use Rattle.raid_layers.proofs.Settled.{Settled, chain_settled}
use Rattle.raid_layers.proofs.SiteTokens.{IsClosed, talks_so}
use Rattle.raid_layers.proofs.Tokens.{SentHolds, tokens_step, asked_home, some_home}

-- letters that are of two sessions are Hellos; and these ask for nothing
all_hello : (a b : ℕ) → a ≢ b → (ls : List Letter) → Sent a ls → Sent b ls → AllHello ls
all_hello a b differ [] f g = tt
all_hello a b differ (l ∷ ls) f g = go (is_hello l.message) refl
  where
    go : (c : Bool) → is_hello l.message ≡ c → AllHello (l ∷ ls)
    go true q = (q, f.0 q)
    go false q = absurd (differ (sym (f.1 q).0 ∙ (g.1 q).0))

left_hello : (a b : ℕ) → a ≢ b → (l : Letter) (ls : List Letter) → Sent a (l ∷ ls) → Sent b ls → AllHello ls
left_hello a b differ l ls f g = go (is_hello l.message) refl
  where
    go : (c : Bool) → is_hello l.message ≡ c → AllHello ls
    go true q = f.0 q
    go false q = all_hello a b differ ls (f.1 q).1 g

hello_asks : (t : Txn) (message : Message) → is_hello message ≡ true → ask_of t message ≡ []
hello_asks t letters.Hello q = refl
hello_asks t other q = absurd (true≢false (sym q))

hellos_ask : (t : Txn) (ls : List Letter) → AllHello ls → asks_of t ls ≡ []
hellos_ask t [] a = refl
hellos_ask t (l ∷ ls) a = ap (λ xs. xs ++ asks_of t ls) (hello_asks t l.message a.0) ∙ hellos_ask t ls a.1

all_trivial : (t : Txn) (k m : ℕ) (P : Claim) (outs : List Out) → SentHolds t k m P 0 outs
all_trivial t k m P [] = tt
all_trivial t k m P (out ∷ outs) = (tt, all_trivial t k m P outs)

nothing_found : (t : Txn) (rs : List Running) → rs ≡ [] → find (λ (r : Running). is_txn t r.txn) rs ≡ None
nothing_found t rs e = ap (find (λ (r : Running). is_txn t r.txn)) e

module _ (w : Workload) where
  abbrev pub OneEach : List Noted → List (List (List Letter)) → Type 0
  OneEach p links = (k : ℕ) (t : Txn) → (has_ended p t ≡ true) ⊎ IsOneAsk p t (asks_of t (link links 1 (k + 2)))

  abbrev pub TalksAt : List Noted → List (List (List Letter)) → ℕ → SiteState → Type 0
  TalksAt p links k state = state.up ≡ true → last_session p (site (k + 1)) ≡ state.session → (t : Txn) → Talks p links k state.session t (asks_of t (link links 1 (k + 2))) (running_of state t)

  abbrev pub TalkAll : Servers → List (List (List Letter)) → Type 0
  TalkAll s links = OneEach (noted s.sequencer.history) links × ((k : ℕ) (state : SiteState) → slice_get s.sites k ≡ Some state → TalksAt (noted s.sequencer.history) links k state)

  -- what holds besides, of the servers and links of each run
  pub record Landed (s : Servers) (links : List (List (List Letter))) : Type 0 where
    pub holds : Holds w s links
    pub homes : Homes w s links
    pub waits : Waits w s links
    pub says : LinksSay w (noted s.sequencer.history) links
    pub begun : (t : Txn) → (comes_to w (fresh t)).reads ≡ []
    pub given : (k : ℕ) (state : SiteState) → slice_get s.sites k ≡ Some state → (r : Running) (ask : ℕ) (x : Item) (q : Option Site) (v : ℤ) → running_of state r.txn ≡ Some r → r.phase ≡ asking ask x q →
        (comes_to w (record r { answers = put r.answers x v })).reads ≡ put r.answers x v

  module _ (s : Servers) (links : List (List (List Letter))) (landed : Landed s links) (all : TalkAll s links) (from clock : ℕ) (letter : Letter) (rest : List Letter) (known : from < w.sites + 2) where
    abbrev p : List Noted
    p = noted s.sequencer.history

    abbrev n : ℕ
    n = w.sites + 2

    below : (k : ℕ) (state : SiteState) → slice_get s.sites k ≡ Some state → k < w.sites
    below k state at = (let b = get_below s.sites k state at in let l = landed.holds.long in omega (arith, b, l))

    room : (k : ℕ) (state : SiteState) → slice_get s.sites k ≡ Some state → k + 2 < w.sites + 2
    room k state at = (let b = below k state at in omega (arith, b))

    -- programs where nothing changes but what is on its way
    pub moves_only : (after : List (List (List Letter))) (k : ℕ) (state : SiteState) → link after 1 (k + 2) ≡ link links 1 (k + 2) → ((t : Txn) (P : Claim) → IsClosed P → AllTokens links t k state.session P → AllTokens after t k state.session P) →
        ((t : Txn) (ask : ℕ) (x : Site) (at : ℕ) (b : Bool) → FallsLater p t state.session ask x at b (link links (k + 2) 1) → FallsLater p t state.session ask x at b (link after (k + 2) 1)) → TalksAt p links k state → TalksAt p after k state
    moves_only after k state same tokens falls talks up last t =
        subst (λ ls. Talks p after k state.session t (asks_of t ls) (running_of state t)) (sym same) (talks_so p links after k state.session t (tokens t) (falls t) (asks_of t (link links 1 (k + 2))) (running_of state t) (talks up last t))

    -- the monitor
    module _ (front : link links 0 from ≡ letter ∷ rest) (fired : ℕ) (outs : List Out) where
      pub monitor_talks : TalkAll (record s { fired = fired }) (moved links 0 from 0 clock rest outs)
      monitor_talks = (
        (λ k t. subst (λ ls. (has_ended p t ≡ true) ⊎ IsOneAsk p t (asks_of t ls)) (sym (asks_same k)) (all.0 k t)),
        (λ k state at. moves_only (moved links 0 from 0 clock rest outs) k state (asks_same k)
            (λ t P closed h. tokens_step t k state.session P 0 from 0 clock letter rest outs links front (all_trivial t k state.session P outs) h)
            (λ t ask x z b h. subst (FallsLater p t state.session ask x z b) (sym (moved_other (w.sites + 2) links 0 from 0 clock rest outs landed.holds.square (omega arith) (k + 2) 1 (room k state at) (λ e. omega (arith, e)) (inl (λ e. omega (arith, e))))) h)
            (all.1 k state at)),
      )
        where
          asks_same : (k : ℕ) → link (moved links 0 from 0 clock rest outs) 1 (k + 2) ≡ link links 1 (k + 2)
          asks_same k = moved_other (w.sites + 2) links 0 from 0 clock rest outs landed.holds.square (omega arith) 1 (k + 2) (omega arith) (λ e. omega (arith, e)) (inl (λ e. omega (arith, e)))

    -- the sequencer
    module _ (front : link links 1 from ≡ letter ∷ rest) (after_holds : Holds w (record s { sequencer = (hear_sequencer w s.sequencer from letter).state }) (moved links 1 from 0 clock rest (hear_sequencer w s.sequencer from letter).outs)) where
      abbrev now : Turn Sequencer
      now = hear_sequencer w s.sequencer from letter

      abbrev q : List Noted
      q = noted (hear_sequencer w s.sequencer from letter).state.history

      abbrev after : List (List (List Letter))
      after = moved links 1 from 0 clock rest (hear_sequencer w s.sequencer from letter).outs

      asks_say : (k : ℕ) → AllByRecursion (λ (l : Letter). AskSays w p (site (k + 1)) l.message) (link links 1 (k + 2))
      asks_say k = subst (λ c. AllByRecursion (λ (l : Letter). AskSays w p (site (k + 1)) l.message) (link links 1 c)) (two k) (firsts_of (link links 1 (suc (suc k))) (landed.says 1 (suc (suc k))))
        where
          two : (k : ℕ) → suc (suc k) ≡ k + 2
          two k = omega arith

          firsts_of : (ls : List Letter) → QueueSays w p 1 (suc (suc k)) ls → AllByRecursion (λ (l : Letter). AskSays w p (site (k + 1)) l.message) ls
          firsts_of [] a = tt
          firsts_of (l ∷ ls) a = (a.0.0, firsts_of ls a.1)

      -- an ask that is taken comes from its transaction's home
      comes : (t : Txn) (k : ℕ) → is_site (site (k + 1)) (home w t) ≡ true → ComesHome w from clock letter t k
      comes t k mine j of asks =
          let said = (subst (AllByRecursion (λ (l : Letter). AskSays w p (site (j + 1)) l.message)) (ap (link links 1) (sym of) ∙ front) (asks_say j)).0 in
          numbers (home w t).0 (asked_home w p (site (j + 1)) t letter.message said asks) mine
        where
          numbers : (h : ℕ) → (h == j + 1) ≡ true → (h == k + 1) ≡ true → j ≡ k
          numbers h a b = (let x = eqb-true h (j + 1) a in let y = eqb-true h (k + 1) b in omega (arith, x, y))

      taken_so : (k : ℕ) (t : Txn) → Taken w from clock letter t k (asks_of t (link links 1 (k + 2))) (asks_of t (link after 1 (k + 2)))
      taken_so k t = go (same_or_not from (k + 2))
        where
          go : (from ≡ k + 2) ⊎ (from ≢ k + 2) → Taken w from clock letter t k (asks_of t (link links 1 (k + 2))) (asks_of t (link after 1 (k + 2)))
          go (inl of) =
              let gone = ap (link after 1) (sym of) ∙ moved_taken (w.sites + 2) links 1 from 0 clock rest now.outs landed.holds.square (omega arith) known (λ e. omega (arith, e, of)) in
              took of (ap (asks_of t) (ap (link links 1) (sym of) ∙ front) ∙ ap (λ ls. ask_of t letter.message ++ asks_of t ls) (sym gone))
          go (inr other) = left other (ap (asks_of t) (moved_other (w.sites + 2) links 1 from 0 clock rest now.outs landed.holds.square (omega arith) 1 (k + 2) (omega arith) (λ e. omega (arith, e)) (inr (λ e. other (sym e)))))

      pub sequencer_talks : TalkAll (record s { sequencer = (hear_sequencer w s.sequencer from letter).state }) (moved links 1 from 0 clock rest (hear_sequencer w s.sequencer from letter).outs)
      sequencer_talks = go (hear_opens w from letter s.sequencer from refl)
        where
          go : Opens w from letter (opened s.sequencer) now → TalkAll (record s { sequencer = now.state }) after
          go (next, (one, chain)) = with_both (firsts w from clock letter (opened s.sequencer) next one) (chain_settled w from letter next now chain)
            where
              with_both : Firsts w from clock letter (opened s.sequencer) next → (outs : List Out) × ((now.outs ≡ next.outs ++ outs) × Settled w from letter (noted next.state.history) q outs) → TalkAll (record s { sequencer = now.state }) after
              with_both (outs, (is, (starts, does))) (later, (more, settled)) = (
                (λ k t. one_after w from clock letter t k 0 p (noted next.state.history) q outs later starts settled (asks_of t (link links 1 (k + 2))) (asks_of t (link after 1 (k + 2))) (λ x xs e. does t k 0 (comes t k (some_home w p (site (k + 1)) t (link links 1 (k + 2)) x xs (asks_say k) e))) (taken_so k t) (all.0 k t)),
                (λ k state at up last t. talk k state at up last t (same_or_not (last_session p (site (k + 1))) state.session)),
              )
                where
                  sent_is : now.outs ≡ outs ++ later
                  sent_is = more ∙ ap (λ xs. xs ++ later) is

                  tokens : (t : Txn) (k m : ℕ) (P : Claim) → SentHolds t k m P 1 (outs ++ later) → AllTokens links t k m P → AllTokens after t k m P
                  tokens t k m P sends h = tokens_step t k m P 1 from 0 clock letter rest now.outs links front (subst (SentHolds t k m P 1) (sym sent_is) sends) h

                  notes : (k : ℕ) → k + 2 < w.sites + 2 → link after (k + 2) 1 ≡ link links (k + 2) 1 ++ letters_to (k + 2) 0 clock (outs ++ later)
                  notes k inside = moved_sent (w.sites + 2) links 1 from 0 clock rest now.outs landed.holds.square (omega arith) (k + 2) inside (λ e. omega (arith, e)) ∙ ap (λ xs. link links (k + 2) 1 ++ letters_to (k + 2) 0 clock xs) sent_is

                  talk : (k : ℕ) (state : SiteState) → slice_get s.sites k ≡ Some state → state.up ≡ true → last_session q (site (k + 1)) ≡ state.session → (t : Txn) → (last_session p (site (k + 1)) ≡ state.session) ⊎ (last_session p (site (k + 1)) ≢ state.session) →
                      Talks q after k state.session t (asks_of t (link after 1 (k + 2))) (running_of state t)
                  talk k state at up last t (inr differ) = subst (Talks q after k state.session t (asks_of t (link after 1 (k + 2)))) (sym (none (landed.waits k state at).stage)) (inr (hellos_ask t (link after 1 (k + 2)) hellos))
                    where
                      none : Stage w k p state.up state.session state.running state.next (begins state.session (link links 1 (k + 2))) (link links (k + 2) 1) → running_of state t ≡ None
                      none (stopped d r z) = nothing_found t state.running r
                      none (asleep u l r z b) = nothing_found t state.running r
                      none (cares.fresh u l r z b e) = nothing_found t state.running r
                      none (awake u l f c) = absurd (differ l)

                      apart : last_session p (site (k + 1)) ≢ last_session q (site (k + 1))
                      apart e = differ (e ∙ last)

                      sent_now : Sent (last_session q (site (k + 1))) (link after 1 (k + 2))
                      sent_now = (after_holds.each k state at).sent

                      sent_before : Sent (last_session p (site (k + 1))) (link links 1 (k + 2))
                      sent_before = (landed.holds.each k state at).sent

                      hellos : AllHello (link after 1 (k + 2))
                      hellos = by_sender (same_or_not from (k + 2))
                        where
                          by_sender : (from ≡ k + 2) ⊎ (from ≢ k + 2) → AllHello (link after 1 (k + 2))
                          by_sender (inl of) =
                              let gone = ap (link after 1) (sym of) ∙ moved_taken (w.sites + 2) links 1 from 0 clock rest now.outs landed.holds.square (omega arith) known (λ e. omega (arith, e, of)) in
                              subst AllHello (sym gone) (left_hello (last_session p (site (k + 1))) (last_session q (site (k + 1))) apart letter rest (subst (Sent (last_session p (site (k + 1)))) (ap (link links 1) (sym of) ∙ front) sent_before) (subst (Sent (last_session q (site (k + 1)))) gone sent_now))
                          by_sender (inr other) =
                              let same = moved_other (w.sites + 2) links 1 from 0 clock rest now.outs landed.holds.square (omega arith) 1 (k + 2) (omega arith) (λ e. omega (arith, e)) (inr (λ e. other (sym e))) in
                              all_hello (last_session p (site (k + 1))) (last_session q (site (k + 1))) apart (link after 1 (k + 2)) (subst (Sent (last_session p (site (k + 1)))) (sym same) sent_before) sent_now
                  talk k state at up last t (inl same) = found (running_of state t) refl
                    where
                      before : Talks p links k state.session t (asks_of t (link links 1 (k + 2))) (running_of state t)
                      before = all.1 k state at up same t

                      numbered : AllByRecursion (λ (z : Noted). z.at ≤ length p) p
                      numbered = (placed_order w s.sequencer.history landed.holds.placed).numbered

                      found : (o : Option Running) → running_of state t ≡ o → Talks q after k state.session t (asks_of t (link after 1 (k + 2))) (running_of state t)
                      found None f =
                          subst (Talks q after k state.session t (asks_of t (link after 1 (k + 2)))) (sym f)
                          (talks_none w from clock letter t k state.session p (noted next.state.history) q outs later links after numbered starts settled (tokens t k state.session) (notes k (room k state at)) (asks_of t (link links 1 (k + 2))) (asks_of t (link after 1 (k + 2))) (taken_so k t)
                          (subst (Talks p links k state.session t (asks_of t (link links 1 (k + 2)))) f before))
                      found (Some r) f =
                          let its : r.txn ≡ t = found_txn t state.running r f in
                          let mine = subst (λ z. is_site (site (k + 1)) (home w z) ≡ true) its (all_found (λ (r : Running). is_site (site (k + 1)) (home w r.txn) ≡ true) (λ (r : Running). is_txn t r.txn) state.running r (at_home state.running (landed.homes k state at).running) f) in
                          subst (Talks q after k state.session t (asks_of t (link after 1 (k + 2)))) (sym f)
                          (talks_some w from clock letter t k state.session p (noted next.state.history) q outs later links after numbered starts settled (tokens t k state.session) (notes k (room k state at)) (asks_of t (link links 1 (k + 2))) (asks_of t (link after 1 (k + 2))) (comes t k mine) (does t k state.session (comes t k mine)) (taken_so k t) r
                          (subst (Talks p links k state.session t (asks_of t (link links 1 (k + 2)))) f before))
                        where
                          at_home : (rs : List Running) → AllByRecursion (λ (r : Running). Ours w (site (k + 1)) r.txn) rs → AllByRecursion (λ (r : Running). is_site (site (k + 1)) (home w r.txn) ≡ true) rs
                          at_home [] a = tt
                          at_home (r ∷ rs) a = (a.0.at, at_home rs a.1)
