-- Each step of the monitor and of the sequencer keeps what is staged before it is to be applied.
use Rattle.std.proofs.Common.{◌≡◌, inl, inr, ℕ, ℤ, zero, suc, ◌+◌, ◌-◌, ◌≤◌, ◌==◌, Bool, true, false, List, [], ◌∷◌, ◌++◌, Some, if◌then◌else◌, arith, sym, subst, ap, ◌∙◌, refl, append-nil}
use Rattle.std.specs.Prelude.{⊤, slice_get}
use Rattle.std.specs.List.{AllByRecursion}
use Rattle.std.proofs.lemmas.Bool.{eqb-true}
use Rattle.raid_base.specs.declared.names.Txn.{Txn}
use Rattle.raid_base.specs.declared.names.Item.{Item}
use Rattle.raid_base.specs.declared.names.Site.{Site}
use Rattle.raid_base.specs.declared.request.Request.{Request}
use Rattle.raid_base.specs.declared.entry.Answer.TheVariants.{Yes}
use Rattle.raid_base.specs.declared.entry.Entry.TheVariants.{Read}
use Rattle.raid_base.specs.declared.entry.Noted.{Noted}
use Rattle.raid_base.specs.Names.{is_site}
use Rattle.raid_base.specs.Sites.{session, site}
use Rattle.raid_workload.specs.declared.workload.Workload.{Workload}
use Rattle.raid_workload.specs.Parts.{home}
use Rattle.raid_rules.specs.Entries.{is_end_of}
use Rattle.raid_rules.specs.History.{noted}
use Rattle.raid_rules.specs.Sessions.{last_session}
use Rattle.raid_legal.specs.Seen.{vector}
use Rattle.raid_message.specs.declared.letter.Message.{Message}
use Rattle.raid_message.specs.declared.letter.Message.TheVariants as letters
use Rattle.raid_message.specs.declared.letter.Letter.{Letter}
use Rattle.raid_steps.specs.Fits.{knows_site}
use Rattle.raid_steps.specs.State.{Out, Turn, opened, Phase, asking, preparing, sent, Running, Sequencer, SiteState, to_site}
use Rattle.raid_steps.specs.Programs.{running_of}
use Rattle.raid_steps.specs.Sequencer.{so_far, read_sends, hear_sequencer}
use Rattle.raid_steps.specs.World.{World, link}
use Rattle.raid_steps.proofs.Parts.{number_known}
use Rattle.raid_sessions.proofs.Holds.{last_of, IsHeard}
use Rattle.raid_sessions.proofs.Lists.{all_append, all_weaken, get_below}
use Rattle.raid_sessions.proofs.Mail.{moved}
use Rattle.raid_moves.proofs.Places.{all_both}
use Rattle.raid_asks.proofs.Cares.{Stage, stopped, asleep, awake}
use Rattle.raid_asks.proofs.Cares as cares
use Rattle.raid_asks.proofs.Waits.{Waits}
use Rattle.raid_letters.specs.Says.{AreReached, AskSays, PeerSays}
use Rattle.raid_letters.proofs.Later.{Later}
use Rattle.raid_letters.proofs.Runs.{LetterSays, QueueSays, WorldSays, steps_on}
use Rattle.raid_letters.proofs.Waits.{WaitSays, all_noted}
use Rattle.raid_layers.proofs.Histories.{HasWait}
use Rattle.raid_layers.proofs.Opening.{IsAskedFor, First, reads, waits, nothing as nothing_first, Opens, hear_opens}
use Rattle.raid_layers.proofs.SiteWorlds.{none_there}
use Rattle.raid_layers.proofs.Tokens.{OnLinks, step_all}
use Rattle.raid_staged.specs.Staged.{IsStagedAt, AreStaged, VoteStaged, AskStaged, ApplyStaged, IsPrepared}
use Rattle.raid_staged.proofs.Applied.{chain_fit, chain_waits, first_waits, first_grows}

-- what holds of each element for each of some things
pub all_given : {X A : Type 0} (P : A → X → Type 0) (xs : List X) → ((a : A) → AllByRecursion (P a) xs) → AllByRecursion (λ x. (a : A) → P a x) xs
all_given P [] f = tt
all_given P (x ∷ xs) f = ((λ a. (f a).0), all_given P xs (λ a. (f a).1))

-- a request that was made to wait
wait_says : (w : Workload) (p ns : List Noted) (t : Txn) (r : Request) → AllByRecursion (λ (n : Noted). WaitSays w p n.entry) ns → HasWait ns t r → AreReached w p r.under
wait_says w p [] t r a h = absurd h
wait_says w p (n ∷ ns) t r a (inl is) = subst (WaitSays w p) is a.0
wait_says w p (n ∷ ns) t r a (inr more) = wait_says w p ns t r a.1 more

module _ (w : Workload) where
  -- a letter of the sequencer to a server: what it applies is staged, where it is meant for a site that is up in its last session
  abbrev pub FitsAt : List Noted → List SiteState → ℕ → ℕ → Message → Type 0
  FitsAt p sites server to message = (j : ℕ) (s : SiteState) → slice_get sites j ≡ Some s → s.up ≡ true → server ≡ j + 2 → (to == s.session) ≡ true → last_session p (site (j + 1)) ≡ s.session → ApplyStaged s message

  -- a letter on the link to a server from another
  abbrev pub LetterStaged : List Noted → List SiteState → ℕ → ℕ → Letter → Type 0
  LetterStaged p sites server zero l = ⊤
  LetterStaged p sites server (suc zero) l = FitsAt p sites server l.to l.message
  LetterStaged p sites server (suc (suc j)) l = VoteStaged p sites j l.from l.message × AskStaged w p sites l.message

  -- the programs of a site
  abbrev pub PreparedAt : List Noted → List SiteState → ℕ → SiteState → Type 0
  PreparedAt p sites k s = s.up ≡ true → last_session p (site (k + 1)) ≡ s.session → (t : Txn) (r : Running) → running_of s t ≡ Some r → IsPrepared w p sites k s t r.phase

  -- all of it
  pub record AllStaged (p : List Noted) (sites : List SiteState) (links : List (List (List Letter))) : Type 0 where
    pub on_links : OnLinks (LetterStaged p sites) links
    pub waits : (t : Txn) (r : Request) → HasWait p t r → AreStaged w p sites t r.writes r.under
    pub prepared : (k : ℕ) (s : SiteState) → slice_get sites k ≡ Some s → PreparedAt p sites k s

  -- what holds besides in each run
  pub record Landed (state : World) : Type 0 where
    pub says : WorldSays w state
    pub cares : Waits w state.servers state.links

  module _ (state : World) (landed : Landed state) (all : AllStaged (noted state.servers.sequencer.history) state.servers.sites state.links) (from clock : ℕ) (letter : Letter) (rest : List Letter) where
    abbrev p : List Noted
    p = noted state.servers.sequencer.history

    abbrev sites : List SiteState
    sites = state.servers.sites

    pub known_place : (k : ℕ) (s : SiteState) → slice_get state.servers.sites k ≡ Some s → knows_site w (site (k + 1)) ≡ true
    known_place k s at = (let b = get_below state.servers.sites k s at in let long = landed.says.reached.long in number_known w k (omega (arith, b, long)))

    -- programs run only at a site that is up in its last session
    pub before : (k : ℕ) (s : SiteState) → slice_get state.servers.sites k ≡ Some s → (t : Txn) (r : Running) → running_of s t ≡ Some r → IsPrepared w (noted state.servers.sequencer.history) state.servers.sites k s t r.phase
    before k s at t r f = go (landed.cares k s at).stage
      where
        go : {bs : List Txn} {notes : List Letter} → Stage w k p s.up s.session s.running s.next bs notes → IsPrepared w p sites k s t r.phase
        go (stopped d e z) = absurd (none_there s.running t r e f)
        go (asleep u l e z b) = absurd (none_there s.running t r e f)
        go (cares.fresh u l e z b n) = absurd (none_there s.running t r e f)
        go (awake u l fine c) = all.prepared k s at u l t r f

    pub monitor_staged : (outs : List Out) → link state.links 0 from ≡ letter ∷ rest → AllStaged (noted state.servers.sequencer.history) state.servers.sites (moved state.links 0 from 0 clock rest outs)
    monitor_staged outs front = record { on_links = step_all (LetterStaged p sites) 0 from 0 clock letter rest outs state.links front (none outs) all.on_links; waits = all.waits; prepared = all.prepared }
      where
        none : (outs : List Out) → AllByRecursion (λ (out : Out). ⊤) outs
        none [] = tt
        none (out ∷ outs) = (tt, none outs)

    -- the sequencer
    module _ (front : link state.links 1 from ≡ letter ∷ rest) where
      abbrev now : Turn Sequencer
      now = hear_sequencer w state.servers.sequencer from letter

      abbrev q : List Noted
      q = noted (hear_sequencer w state.servers.sequencer from letter).state.history

      later : Later p q
      later = steps_on w state landed.says from clock letter rest front

      -- what is staged at a site in a session that the history had is staged still
      later_at : (t : Txn) (j n : ℕ) → ((s : SiteState) → slice_get sites j ≡ Some s → n ≤ last_session p (site (j + 1))) → IsStagedAt p sites t j n → IsStagedAt q sites t j n
      later_at t j n low (inl over) = inl (later.any (λ z. is_end_of t z.entry) over)
      later_at t j n low (inr has) = inr (λ s at up same last. has s at up same (let a = low s at in let b = later.last (site (j + 1)) in omega (arith, a, b, last)))

      later_are : (t : Txn) (writes : List (Item × ℤ)) (v : List ℕ) → AreReached w p v → AreStaged w p sites t writes v → AreStaged w q sites t writes v
      later_are t writes v reached h j holds = later_at t j (session v (site (j + 1))) (λ s at. reached (site (j + 1)) (known_place j s at)) (h j holds)

      later_vote : (j n : ℕ) (here : Site) (m : Message) → PeerSays w p here (site (j + 1)) n m → VoteStaged p sites j n m → VoteStaged q sites j n m
      later_vote j n here (letters.Vote t Yes) says h = later_at t j n (λ s at. says.1) h
      later_vote j n here other says h = tt

      later_ask : (here : Site) (m : Message) → AskSays w p here m → AskStaged w p sites m → AskStaged w q sites m
      later_ask here (letters.CommitAsk t r) says h = later_are t r.writes r.under says.1 h
      later_ask here other says h = tt

      later_prepared : (k : ℕ) (s : SiteState) → AreReached w p s.vector → (t : Txn) (phase : Phase) → IsPrepared w p sites k s t phase → IsPrepared w q sites k s t phase
      later_prepared k s reached t (asking i x o) h = tt
      later_prepared k s reached t (preparing told writes awaited) h = (
        (λ holds. elim (h.0 holds) [ inl over ↦ inl (later.any (λ z. is_end_of t z.entry) over) | inr has ↦ inr has ]),
        (λ j differ holds none. later_at t j (session s.vector (site (j + 1))) (λ r at. reached (site (j + 1)) (known_place j r at)) (h.1 j differ holds none)),
      )
      later_prepared k s reached t sent h = tt

      -- the letters that were on their way: none to a site is meant for a session that the history didn't have
      abbrev Addressee : ℕ → Type 0
      Addressee c = (j : ℕ) × ((s : SiteState) × ((slice_get sites j ≡ Some s) × (c ≡ j + 2)))

      abbrev IsLate : ℕ → Letter → Type 0
      IsLate c l = (a : Addressee c) → l.to ≤ last_session p (site (a.0 + 1))

      late : (c : ℕ) → AllByRecursion (IsLate c) (link state.links c 1)
      late c = all_given (λ (a : Addressee c) (l : Letter). l.to ≤ last_session p (site (a.0 + 1))) (link state.links c 1) each
        where
          each : (a : Addressee c) → AllByRecursion (λ (l : Letter). l.to ≤ last_session p (site (a.0 + 1))) (link state.links c 1)
          each (j, (s, (at, is))) =
              let low = get_below sites j s at in
              let long = landed.says.reached.long in
              subst (λ z. AllByRecursion (λ (l : Letter). l.to ≤ last_session p (site (j + 1))) (link state.links z 1)) (sym is)
              (all_weaken (IsHeard w (last_of state.servers.sequencer.history) j) (λ (l : Letter). l.to ≤ last_session p (site (j + 1))) (link state.links (j + 2) 1) (λ l h. h.0) (landed.says.reached.heard j (omega (arith, low, long))))

      later_links : OnLinks (LetterStaged q sites) state.links
      later_links c zero = all_weaken (LetterStaged p sites c zero) (λ (l : Letter). ⊤) (link state.links c zero) (λ l h. tt) (all.on_links c zero)
      later_links c (suc zero) =
          all_both (IsLate c) (LetterStaged p sites c 1) (LetterStaged q sites c 1) (link state.links c 1)
          (λ l low h j s at up is fits last. h j s at up is fits (let a = low (j, (s, (at, is))) in let to = eqb-true l.to s.session fits in let more = later.last (site (j + 1)) in omega (arith, a, to, more, last))) (late c) (all.on_links c 1)
      later_links c (suc (suc j)) =
          all_both (LetterSays w p c (suc (suc j))) (LetterStaged p sites c (suc (suc j))) (LetterStaged q sites c (suc (suc j))) (link state.links c (suc (suc j)))
          (λ l says h. (later_vote j l.from (site (c - 1)) l.message says.1 h.0, later_ask (site (j + 1)) l.message says.0 h.1)) (landed.says.says c (suc (suc j))) (all.on_links c (suc (suc j)))

      -- what is asked for in the letter, and what was made to wait
      abbrev IsGood : Txn → Request → Type 0
      IsGood t r = AreStaged w p sites t r.writes r.under × AreReached w p r.under

      asked : (t : Txn) (r : Request) → IsAskedFor w from letter t r → IsGood t r
      asked t r (k, (of, is)) =
          let there : link state.links 1 (suc (suc k)) ≡ letter ∷ rest = ap (link state.links 1) (let e : suc (suc k) ≡ from = omega (arith, of) in e) ∙ front in (
            subst (AskStaged w p sites) is (subst (AllByRecursion (LetterStaged p sites 1 (suc (suc k)))) there (all.on_links 1 (suc (suc k)))).0.1,
            (subst (AskSays w p (site (k + 1))) is (subst (QueueSays w p 1 (suc (suc k))) there (landed.says.says 1 (suc (suc k)))).0.0).1,
          )

      waited : (t : Txn) (r : Request) → HasWait p t r → IsGood t r
      waited t r h = (all.waits t r h, wait_says w p p t r (all_noted w (WaitSays w p) [] state.servers.sequencer.history tt landed.says.waits) h)

      -- the first part applies nothing
      first_fit : {a b : Turn Sequencer} → First w from letter a b → AllByRecursion (λ (out : Out). FitsAt q sites out.0 out.1 out.2) a.outs → AllByRecursion (λ (out : Out). FitsAt q sites out.0 out.1 out.2) b.outs
      first_fit {a = a} (reads k t ask x s of is) fit =
          all_append (λ (out : Out). FitsAt q sites out.0 out.1 out.2) a.outs (read_sends w (noted (a.state.history ++ Read t x s ∷ [])) ask t x s) fit
          ((λ j z at up is fits last. tt), serving (vector w (noted (a.state.history ++ Read t x s ∷ []))) (is_site s (home w t)))
        where
          serving : (v : List ℕ) (b : Bool) → AllByRecursion (λ (out : Out). FitsAt q sites out.0 out.1 out.2) (if b then [] else to_site v (home w t) (letters.Serving t ask s) ∷ [])
          serving v true = tt
          serving v false = ((λ j z at up is fits last. tt), tt)
      first_fit {a = a} (waits k t request of is) fit = subst (AllByRecursion (λ (out : Out). FitsAt q sites out.0 out.1 out.2)) (sym (append-nil a.outs)) fit
      first_fit nothing_first fit = fit

      pub sequencer_staged : AllStaged (noted (hear_sequencer w state.servers.sequencer from letter).state.history) state.servers.sites (moved state.links 1 from 0 clock rest (hear_sequencer w state.servers.sequencer from letter).outs)
      sequencer_staged = go (hear_opens w from letter state.servers.sequencer from refl)
        where
          go : Opens w from letter (opened state.servers.sequencer) now → AllStaged q sites (moved state.links 1 from 0 clock rest now.outs)
          go (first, (one, chain)) = record {
            on_links = step_all (LetterStaged q sites) 1 from 0 clock letter rest now.outs state.links front (chain_fit w from letter p q sites known_place later.last asked first now chain (first_grows w from letter one) good (first_fit one tt)) later_links;
            waits = λ t r h. (let g = good t r (chain_waits w from letter first now chain t r h) in later_are t r.writes r.under g.1 g.0);
            prepared = λ k s at up last t r f. later_prepared k s (landed.says.reached.vectors k s at) t r.phase (before k s at t r f);
          }
            where
              good : (t : Txn) (r : Request) → HasWait (so_far first) t r → IsGood t r
              good t r h = elim (first_waits w from letter one t r h) [ inl old ↦ waited t r old | inr new ↦ asked t r new ]
