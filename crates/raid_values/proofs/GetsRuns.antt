-- In every run, what is on its way to answer an ask is the value that the transaction has seen.
use Rattle.std.proofs.Common.{◌≡◌, ℕ, zero, suc, ◌+◌, true, false, List, [], ◌∷◌, ◌++◌, Option, Some, None, arith, sym, subst, ap, ◌∙◌, refl, append-nil, append_assoc}
use Rattle.std.specs.Prelude.{max, slice_get, slice_set, slice_index}
use Rattle.std.specs.Option.{option_map_or}
use Rattle.std.proofs.lemmas.List.Sums.{fold-append}
use Rattle.raid_base.specs.declared.names.Item.{Item}
use Rattle.raid_base.specs.declared.names.Site.{Site}
use Rattle.raid_base.specs.Sites.{site}
use Rattle.raid_workload.specs.declared.workload.Workload.{Workload}
use Rattle.raid_rules.specs.History.{noted, has_ended}
use Rattle.raid_message.specs.declared.letter.Letter.{Letter}
use Rattle.raid_message.specs.declared.letter.Pick.{Pick}
use Rattle.raid_steps.specs.State.{asking, Copy, Running, SiteState}
use Rattle.raid_steps.specs.Copies.{copy_of}
use Rattle.raid_steps.specs.Monitor.{hear_monitor}
use Rattle.raid_steps.specs.Programs.{running_of}
use Rattle.raid_steps.specs.Site.{hear_site}
use Rattle.raid_steps.specs.World.{World, hear, hear_at, session_of, link, take_front, pick, run, open_world}
use Rattle.raid_placed.specs.Placed.{Placed}
use Rattle.raid_sessions.proofs.Lists.{get_below, get_set}
use Rattle.raid_sessions.proofs.Mail.{moved}
use Rattle.raid_sessions.proofs.Reached.{server_below, reached}
use Rattle.raid_moves.proofs.Places.{nothing}
use Rattle.raid_asks.proofs.Reached.{first_state}
use Rattle.raid_letters.specs.Says.{is_held}
use Rattle.raid_layers.specs.Asks.{AskOneThing}
use Rattle.raid_layers.proofs.Laws.{asks_one}
use Rattle.raid_layers.proofs.Runs.{nobody}
use Rattle.raid_layers.proofs.Worlds.{TalkAll}
use Rattle.raid_staged.specs.Agree.{PartsAgree}
use Rattle.raid_staged.specs.Staged.{StagedFirst}
use Rattle.raid_staged.proofs.PartRuns.{runs_agree}
use Rattle.raid_staged.proofs.Runs.{landed, runs_stage}
use Rattle.raid_staged.proofs.Worlds.{Landed}
use Rattle.raid_versions.specs.Versions.{IsLive, HaveLastVersions}
use Rattle.raid_versions.proofs.Held.{runs_hold}
use Rattle.raid_versions.proofs.Runs.{runs_last}
use Rattle.raid_versions.proofs.SiteCopies.{found_held}
use Rattle.raid_values.specs.Gets.{IsAnsweredBySeen, GetWhatTheySaw, ProgramsGetWhatTheySaw}
use Rattle.raid_values.proofs.Committed.{AllOf}
use Rattle.raid_values.proofs.GetsSites.{site_gets}
use Rattle.raid_values.proofs.GetsWorlds.{monitor_gets, sequencer_gets}
use Rattle.raid_values.proofs.Runs.{runs_of}

module _ (w : Workload) where
  abbrev At : World → Type 0
  At state = GetWhatTheySaw w (noted state.servers.sequencer.history) state.servers.sites state.links

  -- what holds besides in each run
  record Around (state : World) : Type 0 where
    landed : Landed w state
    agree : PartsAgree w state
    staged : StagedFirst w state
    copies : AllOf w (noted state.servers.sequencer.history) state.servers.sites state.links
    holds : (k : ℕ) (s : SiteState) → slice_get state.servers.sites k ≡ Some s → (x : Item) (c : Copy) → copy_of s x ≡ Some c → is_held w (site (k + 1)) x ≡ true
    versions : HaveLastVersions state
    talk : AskOneThing w state

  module _ (state : World) (around : Around state) (all : At state) (from clock : ℕ) (l : Letter) (rest : List Letter) where
    -- the world after the letter was heard, by its servers and links
    abbrev after : ℕ → List (List (List Letter))
    after server = moved state.links server from (session_of (hear w state.servers server from l).0 server) clock rest (hear w state.servers server from l).1

    abbrev Heard : ℕ → Type 0
    Heard server = GetWhatTheySaw w (noted (hear w state.servers server from l).0.sequencer.history) (hear w state.servers server from l).0.sites (after server)

    at_site : (k : ℕ) → link state.links (suc (suc k)) from ≡ l ∷ rest → (o : Option SiteState) → slice_get state.servers.sites k ≡ o →
        TalkAll w (hear_at w state.servers k from l o).0 (moved state.links (suc (suc k)) from (session_of (hear_at w state.servers k from l o).0 (suc (suc k))) clock rest (hear_at w state.servers k from l o).1) →
        GetWhatTheySaw w (noted (hear_at w state.servers k from l o).0.sequencer.history) (hear_at w state.servers k from l o).0.sites
        (moved state.links (suc (suc k)) from (session_of (hear_at w state.servers k from l o).0 (suc (suc k))) clock rest (hear_at w state.servers k from l o).1)
    at_site k front None none talks =
        absurd (nobody state.servers.sites k none (let inside = server_below (w.sites + 2) state.links (suc (suc k)) from l rest around.landed.says.reached.square front in let long = around.landed.says.reached.long in omega (arith, inside, long)))
    at_site k front (Some own) at talks =
        let turn = hear_site w own from l in
        let here = get_set state.servers.sites k turn.state (get_below state.servers.sites k own at) in
        let same = ap (λ (o : Option SiteState). option_map_or (λ (s : SiteState). s.session) o 0) here in
        let talks_after = subst (λ z. TalkAll w (record (state.servers) { sites = slice_set state.servers.sites k turn.state }) (moved state.links (suc (suc k)) from z clock rest turn.outs)) same talks in
        subst (λ z. GetWhatTheySaw w (noted state.servers.sequencer.history) (slice_set state.servers.sites k turn.state) (moved state.links (suc (suc k)) from z clock rest turn.outs)) (sym same)
        (site_gets w state around.landed around.agree around.staged around.copies around.holds around.versions around.talk all from clock l rest k own at front (talks_after.1 k turn.state here))

    heard : (server : ℕ) → link state.links server from ≡ l ∷ rest → Placed w (hear w state.servers server from l).0.sequencer.history → TalkAll w (hear w state.servers server from l).0 (after server) → Heard server
    heard zero front placed talks = monitor_gets w state around.landed around.versions around.talk all from clock l rest (hear_monitor w state.servers.fired from l).outs front
    heard (suc zero) front placed talks = sequencer_gets w state around.landed around.versions around.talk all from clock l rest front placed
    heard (suc (suc k)) front placed talks = at_site k front (slice_get state.servers.sites k) refl talks

  front_gets : (state : World) (server from : ℕ) (queue : List Letter) → link state.links server from ≡ queue → Around state → At state → Placed w (take_front w state server from queue).servers.sequencer.history →
      TalkAll w (take_front w state server from queue).servers (take_front w state server from queue).links → At (take_front w state server from queue)
  front_gets state server from [] q around all placed talks = all
  front_gets state server from (l ∷ rest) q around all placed talks = heard state around all from (1 + max (slice_index state.clocks server) l.clock) l rest server q placed talks

  -- at the start no program runs
  abbrev OpenAt : ℕ → SiteState → Type 0
  OpenAt k s = (r : Running) (number : ℕ) (x : Item) (q : Option Site) → IsLive [] (open_world w).servers.sites k s → running_of s r.txn ≡ Some r → r.phase ≡ asking number x q → has_ended [] r.txn ≡ false →
      IsAnsweredBySeen w [] (open_world w).servers.sites (open_world w).links (record { txn = r.txn; place = k; session = s.session; number = number; item = x })

  open_gets : At (open_world w)
  open_gets k s r number x q live f is alive = subst (OpenAt k) (first_state w 1 w.sites k s live.at) (λ r number x q live f is alive. absurd (nothing f)) r number x q live f is alive

  around : (schedule : List Pick) → Around (run w schedule)
  around schedule = record {
    landed = landed w schedule;
    agree = runs_agree w schedule;
    staged = runs_stage w schedule;
    copies = runs_of w schedule;
    holds = λ k s at x c has. sym (runs_hold w schedule k s at x) ∙ found_held s x c has;
    versions = runs_last w schedule;
    talk = asks_one w schedule;
  }

  talk_of : (schedule : List Pick) → TalkAll w (run w schedule).servers (run w schedule).links
  talk_of schedule = (let a = asks_one w schedule in (a.one, a.talks))

  step : (schedule : List Pick) (p : Pick) → At (run w schedule) → At (run w (schedule ++ p ∷ []))
  step schedule p all =
      let s = run w schedule in
      let same = fold-append (pick w) (open_world w) schedule (p ∷ []) in
      subst At (sym same)
      (front_gets s p.server p.from (link s.links p.server p.from) refl (around schedule) all
      (subst (λ (z : World). Placed w z.servers.sequencer.history) same (reached w (schedule ++ p ∷ [])).placed) (subst (λ (z : World). TalkAll w z.servers z.links) same (talk_of (schedule ++ p ∷ []))))

  steps : (before more : List Pick) → At (run w before) → At (run w (before ++ more))
  steps before [] all = subst (λ z. At (run w z)) (sym (append-nil before)) all
  steps before (p ∷ more) all = subst (λ z. At (run w z)) (append_assoc before (p ∷ []) more) (steps (before ++ p ∷ []) more (step before p all))

  pub runs_get : (schedule : List Pick) → ProgramsGetWhatTheySaw w (run w schedule)
  runs_get schedule = steps [] schedule open_gets
