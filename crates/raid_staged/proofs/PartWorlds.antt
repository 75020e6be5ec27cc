-- Each step of the monitor and of the sequencer keeps the parts of writes those of the writes that are to be committed.
use Rattle.std.proofs.Common.{◌≡◌, ◌≢◌, ◌⊎◌, inl, inr, ℕ, ℤ, zero, suc, ◌+◌, ◌-◌, Bool, true, false, not, List, [], ◌∷◌, ◌++◌, Option, Some, None, arith, sym, subst, ap, ◌∙◌, refl}
use Rattle.std.specs.Prelude.{⊤, slice_get}
use Rattle.std.specs.List.{AllByRecursion, list_any}
use Rattle.std.proofs.lemmas.Bool.{and_parts, true≢false}
use Rattle.raid_base.specs.declared.names.Txn.{Txn}
use Rattle.raid_base.specs.declared.names.Item.{Item}
use Rattle.raid_base.specs.declared.names.Site.{Site}
use Rattle.raid_base.specs.declared.request.Request.{Request}
use Rattle.raid_base.specs.declared.entry.Entry.TheVariants.{Read, Wait, Commit}
use Rattle.raid_base.specs.declared.entry.Noted.{Noted}
use Rattle.raid_base.specs.Names.{is_txn}
use Rattle.raid_base.specs.Sites.{site}
use Rattle.raid_workload.specs.declared.workload.Workload.{Workload}
use Rattle.raid_rules.specs.Entries.{is_begin_of, is_end_of}
use Rattle.raid_rules.specs.History.{noted, add, next, has_begun, has_ended}
use Rattle.raid_rules.specs.Sessions.{last_session}
use Rattle.raid_rules.proofs.Push.{noted_push}
use Rattle.raid_message.specs.declared.letter.Message.TheVariants as letters
use Rattle.raid_message.specs.declared.letter.Letter.{Letter}
use Rattle.raid_steps.specs.State.{Out, Turn, opened, Phase, asking, preparing, sent, Running, Sequencer, SiteState}
use Rattle.raid_steps.specs.Programs.{running_of}
use Rattle.raid_steps.specs.Sequencer.{so_far, place, hear_sequencer}
use Rattle.raid_steps.specs.World.{World, link}
use Rattle.raid_sessions.proofs.Mail.{same_or_not, moved, moved_taken, moved_other}
use Rattle.raid_sessions.proofs.Reached.{from_below}
use Rattle.raid_asks.proofs.Cares.{Stage, stopped, asleep, awake}
use Rattle.raid_asks.proofs.Cares as cares
use Rattle.raid_letters.proofs.Later.{Later}
use Rattle.raid_letters.proofs.Runs.{steps_on}
use Rattle.raid_layers.proofs.Histories.{Grows, HasWait, any_kept}
use Rattle.raid_layers.proofs.Opening.{IsAskedFor, IsLater, Chain, First, reads, waits as waits_first, nothing as nothing_first, Opens, hear_opens}
use Rattle.raid_layers.proofs.Opening as chains
use Rattle.raid_layers.proofs.SiteWorlds.{none_there}
use Rattle.raid_layers.proofs.Tokens.{OnLinks, step_all}
use Rattle.raid_staged.specs.Agree.{first_writes, IsPartOf, AsksPart}
use Rattle.raid_staged.proofs.Applied.{no_wait, chain_waits, first_waits, first_grows}
use Rattle.raid_staged.proofs.Worlds.{Landed}

-- a letter asks for a commit of the transaction, with this request
abbrev pub HasAskOn : List Letter → Txn → Request → Type 0
HasAskOn [] t r = ⊥
HasAskOn (l ∷ ls) t r = (l.message ≡ letters.CommitAsk t r) ⊎ HasAskOn ls t r

-- the history has a Commit of the transaction with this request
abbrev pub HasCommit : List Noted → Txn → Request → Type 0
HasCommit [] t r = ⊥
HasCommit (n ∷ ns) t r = ((applied : List Site) × (n.entry ≡ Commit t r applied)) ⊎ HasCommit ns t r

last_commit : (ns : List Noted) (n : Noted) (t : Txn) (r : Request) → HasCommit (ns ++ n ∷ []) t r → HasCommit ns t r ⊎ ((applied : List Site) × (n.entry ≡ Commit t r applied))
last_commit [] n t r (inl is) = inr is
last_commit [] n t r (inr more) = inl more
last_commit (z ∷ ns) n t r (inl is) = inl (inl is)
last_commit (z ∷ ns) n t r (inr more) = elim (last_commit ns n t r more) [ inl old ↦ inl (inr old) | inr now ↦ inr now ]

not_over : (b : Bool) → not b ≡ true → b ≡ false
not_over true q = absurd (true≢false (sym q))
not_over false q = refl

-- what isn't so in a later history wasn't in an earlier one
not_yet : (p q : List Noted) → Grows p q → (test : Noted → Bool) → list_any test q ≡ false → list_any test p ≡ false
not_yet p q grows test none = go (list_any test p) refl
  where
    go : (b : Bool) → list_any test p ≡ b → b ≡ false
    go true h = absurd (true≢false (sym (grows test h) ∙ none))
    go false h = refl

module _ (w : Workload) where
  abbrev Writes : Type 0
  Writes = List (Item × ℤ)

  -- the parts of a transaction's writes that are staged, or asked to be by a site
  abbrev pub LinkPart : Txn → Option (List (Item × ℤ)) → ℕ → ℕ → Letter → Type 0
  LinkPart t o server zero l = ⊤
  LinkPart t o server (suc zero) l = ⊤
  LinkPart t o server (suc (suc j)) l = AsksPart w t o (site (server - 1)) l.message

  pub record PartsIn (sites : List SiteState) (links : List (List (List Letter))) (t : Txn) (o : Option (List (Item × ℤ))) : Type 0 where
    pub staged : (k : ℕ) (s : SiteState) → slice_get sites k ≡ Some s → AllByRecursion (λ (e : Txn × List (Item × ℤ)). is_txn t e.0 ≡ true → IsPartOf w (site (k + 1)) o e.1) s.staged
    pub on_links : OnLinks (LinkPart t o) links

  -- what is told of a transaction's writes
  pub data Told (p : List Noted) (links : List (List (List Letter))) (t : Txn) (o : Option (List (Item × ℤ))) : Type 0 where
    unbegun : has_begun p t ≡ false → o ≡ first_writes w t → Told p links t o
    asked : (k : ℕ) (r : Request) → HasAskOn (link links 1 (k + 2)) t r → has_ended p t ≡ false → o ≡ Some r.writes → Told p links t o
    waits : (r : Request) → HasWait p t r → has_ended p t ≡ false → o ≡ Some r.writes → Told p links t o
    committed : (r : Request) → HasCommit p t r → o ≡ Some r.writes → Told p links t o

  -- a program that asks or prepares
  abbrev pub RunParts : List Noted → List SiteState → List (List (List Letter)) → Txn → Option (List (Item × ℤ)) → Type 0
  RunParts p sites links t o = (has_ended p t ≡ false → PartsIn sites links t o) × (has_begun p t ≡ false → o ≡ first_writes w t)

  abbrev pub OpenParts : List Noted → List SiteState → List (List (List Letter)) → Txn → Phase → Type 0
  OpenParts p sites links t (asking ask x q) = RunParts p sites links t None
  OpenParts p sites links t (preparing told writes awaited) = RunParts p sites links t (Some writes)
  OpenParts p sites links t sent = ⊤

  pub record AllParts (p : List Noted) (sites : List SiteState) (links : List (List (List Letter))) : Type 0 where
    pub told : (t : Txn) (o : Option (List (Item × ℤ))) → Told p links t o → PartsIn sites links t o × (has_begun p t ≡ false → o ≡ first_writes w t)
    pub runs : (k : ℕ) (s : SiteState) → slice_get sites k ≡ Some s → s.up ≡ true → last_session p (site (k + 1)) ≡ s.session → (t : Txn) (r : Running) → running_of s t ≡ Some r → OpenParts p sites links t r.phase

  -- the entries of a chain: a Commit is of who wasn't over, and of a request that waited or that is asked for
  module _ (from : ℕ) (letter : Letter) where
    abbrev Source : List Noted → Txn → Request → Type 0
    Source p t r = (has_ended p t ≡ false) × (HasWait p t r ⊎ IsAskedFor w from letter t r)

    chain_commits : (a b : Turn Sequencer) → Chain w from letter a b → (t : Txn) (r : Request) → HasCommit (so_far b) t r → HasCommit (so_far a) t r ⊎ Source (so_far a) t r
    chain_commits a b chains.done t r h = inl h
    chain_commits a b (chains.places ask e y rest) t r h = elim (chain_commits (place w ask a e) b rest t r h) [ inl old ↦ here (subst (λ z. HasCommit z t r) (noted_push a.state.history e) old) | inr source ↦ inr (earlier source) ]
      where
        here : HasCommit (add (so_far a) e) t r → HasCommit (so_far a) t r ⊎ Source (so_far a) t r
        here c = elim (last_commit (so_far a) (next (so_far a) e) t r c) [
          | inl old ↦ inl old
          | inr now ↦ inr (let later = subst (IsLater w from letter (so_far a)) now.1 y in (not_over (has_ended (so_far a) t) (and_parts (has_begun (so_far a) t) (not (has_ended (so_far a) t)) later.0).1, later.1.1))
        ]

        grows : Grows (so_far a) (so_far (place w ask a e))
        grows test c = subst (λ z. list_any test z ≡ true) (sym (noted_push a.state.history e)) (any_kept test (so_far a) (next (so_far a) e) c)

        earlier : Source (so_far (place w ask a e)) t r → Source (so_far a) t r
        earlier (alive, source) = (
          not_yet (so_far a) (so_far (place w ask a e)) grows (λ n. is_end_of t n.entry) alive,
          elim source [
            | inl wait ↦ inl (no_wait w from letter (so_far a) e y t r (subst (λ z. HasWait z t r) (noted_push a.state.history e) wait))
            | inr now ↦ inr now
          ],
        )
    chain_commits a b (chains.sends {next = next} outs same is other rest) t r h =
        elim (chain_commits next b rest t r h) [ inl old ↦ inl (subst (λ z. HasCommit (noted z) t r) same old) | inr source ↦ inr (subst (λ z. Source (noted z) t r) same source) ]

    -- the first part has no Commit
    first_commits : {a b : Turn Sequencer} → First w from letter a b → (t : Txn) (r : Request) → HasCommit (so_far b) t r → HasCommit (so_far a) t r
    first_commits {a = a} (reads k u ask x s of is) t r h =
        elim (last_commit (so_far a) (next (so_far a) (Read u x s)) t r (subst (λ z. HasCommit z t r) (noted_push a.state.history (Read u x s)) h)) [ inl old ↦ old | inr now ↦ absurd (let e = now.1 in cc e) ]
    first_commits {a = a} (waits_first k u request of is) t r h =
        elim (last_commit (so_far a) (next (so_far a) (Wait u request)) t r (subst (λ z. HasCommit z t r) (noted_push a.state.history (Wait u request)) h)) [ inl old ↦ old | inr now ↦ absurd (let e = now.1 in cc e) ]
    first_commits nothing_first t r h = h

  module _ (state : World) (landed : Landed w state) (all : AllParts (noted state.servers.sequencer.history) state.servers.sites state.links) (from clock : ℕ) (letter : Letter) (rest : List Letter) where
    abbrev p : List Noted
    p = noted state.servers.sequencer.history

    abbrev sites : List SiteState
    sites = state.servers.sites

    pub opens : (k : ℕ) (s : SiteState) → slice_get state.servers.sites k ≡ Some s → (t : Txn) (r : Running) → running_of s t ≡ Some r →
        (s.up ≡ true) × ((last_session (noted state.servers.sequencer.history) (site (k + 1)) ≡ s.session) × OpenParts (noted state.servers.sequencer.history) state.servers.sites state.links t r.phase)
    opens k s at t r f = go (landed.cares k s at).stage
      where
        go : {bs : List Txn} {notes : List Letter} → Stage w k p s.up s.session s.running s.next bs notes → (s.up ≡ true) × ((last_session p (site (k + 1)) ≡ s.session) × OpenParts p sites state.links t r.phase)
        go (stopped d e z) = absurd (none_there s.running t r e f)
        go (asleep u l e z b) = absurd (none_there s.running t r e f)
        go (cares.fresh u l e z b n) = absurd (none_there s.running t r e f)
        go (awake u l fine c) = (u, (l, all.runs k s at u l t r f))

    none_sent : (outs : List Out) → AllByRecursion (λ (out : Out). ⊤) outs
    none_sent [] = tt
    none_sent (out ∷ outs) = (tt, none_sent outs)

    -- the same claims with other links, and a later history
    later_open : (q : List Noted) (links : List (List (List Letter))) → Grows p q → ((t : Txn) (o : Option Writes) → PartsIn sites state.links t o → PartsIn sites links t o) → (t : Txn) (phase : Phase) → OpenParts p sites state.links t phase → OpenParts q sites links t phase
    later_open q links grows parts t (asking ask x o) h = ((λ alive. parts t None (h.0 (not_yet p q grows (λ n. is_end_of t n.entry) alive))), (λ new. h.1 (not_yet p q grows (λ n. is_begin_of t n.entry) new)))
    later_open q links grows parts t (preparing told writes awaited) h = ((λ alive. parts t (Some writes) (h.0 (not_yet p q grows (λ n. is_end_of t n.entry) alive))), (λ new. h.1 (not_yet p q grows (λ n. is_begin_of t n.entry) new)))
    later_open q links grows parts t sent h = tt

    later_all : (q : List Noted) (links : List (List (List Letter))) → Grows p q → ((t : Txn) (o : Option Writes) → PartsIn sites state.links t o → PartsIn sites links t o) → ((t : Txn) (o : Option Writes) → Told q links t o → Told p state.links t o) → AllParts q sites links
    later_all q links grows parts back = record {
      told = λ t o h. (let old = all.told t o (back t o h) in (parts t o old.0, (λ new. old.1 (not_yet p q grows (λ n. is_begin_of t n.entry) new))));
      runs = λ k s at up last t r f. later_open q links grows parts t r.phase (opens k s at t r f).1.1;
    }

    pub monitor_parts : (outs : List Out) → link state.links 0 from ≡ letter ∷ rest → AllParts (noted state.servers.sequencer.history) state.servers.sites (moved state.links 0 from 0 clock rest outs)
    monitor_parts outs front = later_all p after (λ test h. h) (λ t o h. record { staged = h.staged; on_links = step_all (LinkPart t o) 0 from 0 clock letter rest outs state.links front (none_sent outs) h.on_links }) back
      where
        after : List (List (List Letter))
        after = moved state.links 0 from 0 clock rest outs

        same : (k : ℕ) → link after 1 (k + 2) ≡ link state.links 1 (k + 2)
        same k = moved_other (w.sites + 2) state.links 0 from 0 clock rest outs landed.says.reached.square (omega arith) 1 (k + 2) (omega arith) (λ e. omega (arith, e)) (inl (λ e. omega (arith, e)))

        back : (t : Txn) (o : Option Writes) → Told p after t o → Told p state.links t o
        back t o (unbegun new is) = unbegun new is
        back t o (asked k r h alive is) = asked k r (subst (λ ls. HasAskOn ls t r) (same k) h) alive is
        back t o (waits r h alive is) = waits r h alive is
        back t o (committed r h is) = committed r h is

    -- the sequencer
    module _ (front : link state.links 1 from ≡ letter ∷ rest) where
      abbrev now : Turn Sequencer
      now = hear_sequencer w state.servers.sequencer from letter

      abbrev q : List Noted
      q = noted (hear_sequencer w state.servers.sequencer from letter).state.history

      abbrev after : List (List (List Letter))
      after = moved state.links 1 from 0 clock rest (hear_sequencer w state.servers.sequencer from letter).outs

      later : Later p q
      later = steps_on w state landed.says from clock letter rest front

      asked_before : (k : ℕ) (t : Txn) (r : Request) → HasAskOn (link after 1 (k + 2)) t r → HasAskOn (link state.links 1 (k + 2)) t r
      asked_before k t r h = go (same_or_not from (k + 2))
        where
          go : (from ≡ k + 2) ⊎ (from ≢ k + 2) → HasAskOn (link state.links 1 (k + 2)) t r
          go (inl of) =
              let known = from_below (w.sites + 2) state.links 1 from letter rest landed.says.reached.square front in
              let gone = ap (link after 1) (sym of) ∙ moved_taken (w.sites + 2) state.links 1 from 0 clock rest now.outs landed.says.reached.square (omega arith) known (λ e. omega (arith, e, of)) in
              subst (λ ls. HasAskOn ls t r) (sym (ap (link state.links 1) (sym of) ∙ front)) (inr (subst (λ ls. HasAskOn ls t r) gone h))
          go (inr other) = subst (λ ls. HasAskOn ls t r) (moved_other (w.sites + 2) state.links 1 from 0 clock rest now.outs landed.says.reached.square (omega arith) 1 (k + 2) (omega arith) (λ e. omega (arith, e)) (inr (λ e. other (sym e)))) h

      from_letter : (t : Txn) (r : Request) (o : Option Writes) → IsAskedFor w from letter t r → has_ended p t ≡ false → o ≡ Some r.writes → Told p state.links t o
      from_letter t r o (k, (of, is)) alive same = asked k r (subst (λ ls. HasAskOn ls t r) (sym (ap (link state.links 1) (sym of) ∙ front)) (inl is)) alive same

      pub sequencer_parts : AllParts (noted (hear_sequencer w state.servers.sequencer from letter).state.history) state.servers.sites (moved state.links 1 from 0 clock rest (hear_sequencer w state.servers.sequencer from letter).outs)
      sequencer_parts = go (hear_opens w from letter state.servers.sequencer from refl)
        where
          go : Opens w from letter (opened state.servers.sequencer) now → AllParts q sites after
          go (first, (one, chain)) = later_all q after later.any (λ t o h. record { staged = h.staged; on_links = step_all (LinkPart t o) 1 from 0 clock letter rest now.outs state.links front (none_sent now.outs) h.on_links }) back
            where
              alive_before : (t : Txn) → has_ended q t ≡ false → has_ended p t ≡ false
              alive_before t alive = not_yet p q later.any (λ n. is_end_of t n.entry) alive

              waited : (t : Txn) (r : Request) (o : Option Writes) → HasWait (so_far first) t r → has_ended p t ≡ false → o ≡ Some r.writes → Told p state.links t o
              waited t r o h alive same = elim (first_waits w from letter one t r h) [ inl old ↦ waits r old alive same | inr now ↦ from_letter t r o now alive same ]

              back : (t : Txn) (o : Option Writes) → Told q after t o → Told p state.links t o
              back t o (unbegun new is) = unbegun (not_yet p q later.any (λ n. is_begin_of t n.entry) new) is
              back t o (asked k r h alive is) = asked k r (asked_before k t r h) (alive_before t alive) is
              back t o (waits r h alive is) = waited t r o (chain_waits w from letter first now chain t r h) (alive_before t alive) is
              back t o (committed r h is) = elim (chain_commits from letter first now chain t r h) [
                | inl old ↦ committed r (first_commits from letter one t r old) is
                | inr source ↦ elim source.1 [
                  | inl wait ↦ waited t r o wait (not_yet p (so_far first) (first_grows w from letter one) (λ n. is_end_of t n.entry) source.0) is
                  | inr asks ↦ from_letter t r o asks (not_yet p (so_far first) (first_grows w from letter one) (λ n. is_end_of t n.entry) source.0) is
                ]
              ]
