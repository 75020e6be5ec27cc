-- In every run, copies have the last versions.
use Rattle.std.proofs.Common.{◌≡◌, ℕ, zero, suc, ◌+◌, List, [], ◌∷◌, ◌++◌, Option, Some, None, arith, sym, subst, ap, refl, append-nil, append_assoc}
use Rattle.std.specs.Prelude.{max, slice_get, slice_set, slice_index}
use Rattle.std.specs.Option.{option_map_or}
use Rattle.std.proofs.lemmas.Bool.{true≢false}
use Rattle.std.proofs.lemmas.List.Sums.{fold-append}
use Rattle.raid_base.specs.declared.entry.Entry.{Entry}
use Rattle.raid_workload.specs.declared.workload.Workload.{Workload}
use Rattle.raid_rules.specs.History.{noted}
use Rattle.raid_message.specs.declared.letter.Letter.{Letter}
use Rattle.raid_message.specs.declared.letter.Pick.{Pick}
use Rattle.raid_steps.specs.State.{SiteState}
use Rattle.raid_steps.specs.Monitor.{hear_monitor}
use Rattle.raid_steps.specs.Site.{hear_site}
use Rattle.raid_steps.specs.World.{World, hear, hear_at, session_of, link, take_front, pick, run, open_world}
use Rattle.raid_sessions.proofs.Lists.{get_below, get_set}
use Rattle.raid_sessions.proofs.Mail.{moved}
use Rattle.raid_sessions.proofs.Reached.{server_below}
use Rattle.raid_asks.proofs.Begins.{reached_all}
use Rattle.raid_letters.proofs.Runs.{reaches}
use Rattle.raid_layers.proofs.Runs.{nobody}
use Rattle.raid_staged.proofs.PartRuns.{runs_agree}
use Rattle.raid_staged.proofs.Runs.{runs_stage}
use Rattle.raid_versions.specs.Versions.{LastVersions, HaveLastVersions}
use Rattle.raid_versions.proofs.Chain.{OwersAreUp, sequencer_versions}
use Rattle.raid_versions.proofs.Held.{runs_hold}
use Rattle.raid_versions.proofs.Opening.{open_versions, monitor_versions}
use Rattle.raid_versions.proofs.Owed.{Known}
use Rattle.raid_versions.proofs.SiteVersions.{site_versions}

module _ (w : Workload) where
  pub known : (schedule : List Pick) → Known w (run w schedule)
  known schedule = record { says = reaches w schedule; cares = (reached_all w schedule).1.1; staged = runs_stage w schedule; agree = runs_agree w schedule; held = runs_hold w schedule }

  -- and who owes an Ack is up
  pub record Last (state : World) : Type 0 where
    pub versions : HaveLastVersions state
    pub owers : OwersAreUp w (noted state.servers.sequencer.history)

  module _ (state : World) (knows : Known w state) (all : Last state) (from clock : ℕ) (l : Letter) (rest : List Letter) where
    abbrev InWorld : List Entry → List SiteState → List (List (List Letter)) → Type 0
    InWorld h sites links = LastVersions (noted h) sites links × OwersAreUp w (noted h)

    -- the world after the letter was heard, by its servers and links
    abbrev Heard : ℕ → Type 0
    Heard server = InWorld (hear w state.servers server from l).0.sequencer.history (hear w state.servers server from l).0.sites
        (moved state.links server from (session_of (hear w state.servers server from l).0 server) clock rest (hear w state.servers server from l).1)

    at_site : (k : ℕ) → link state.links (suc (suc k)) from ≡ l ∷ rest → (o : Option SiteState) → slice_get state.servers.sites k ≡ o →
        InWorld (hear_at w state.servers k from l o).0.sequencer.history (hear_at w state.servers k from l o).0.sites
        (moved state.links (suc (suc k)) from (session_of (hear_at w state.servers k from l o).0 (suc (suc k))) clock rest (hear_at w state.servers k from l o).1)
    at_site k front None none =
        absurd (nobody state.servers.sites k none (let inside = server_below (w.sites + 2) state.links (suc (suc k)) from l rest knows.says.reached.square front in let long = knows.says.reached.long in omega (arith, inside, long)))
    at_site k front (Some own) at =
        let turn = hear_site w own from l in
        let same = ap (λ (o : Option SiteState). option_map_or (λ (s : SiteState). s.session) o 0) (get_set state.servers.sites k turn.state (get_below state.servers.sites k own at)) in (
          subst (λ z. LastVersions (noted state.servers.sequencer.history) (slice_set state.servers.sites k turn.state) (moved state.links (suc (suc k)) from z clock rest turn.outs)) (sym same)
              (site_versions w state knows all.versions from clock l rest k own at front),
          all.owers,
        )

    heard : (server : ℕ) → link state.links server from ≡ l ∷ rest → Heard server
    heard zero front = (monitor_versions (noted state.servers.sequencer.history) state.servers.sites state.links from clock rest (hear_monitor w state.servers.fired from l).outs all.versions, all.owers)
    heard (suc zero) front = sequencer_versions w state knows all.owers all.versions from clock l rest front
    heard (suc (suc k)) front = at_site k front (slice_get state.servers.sites k) refl

  front_last : (state : World) (server from : ℕ) (queue : List Letter) → link state.links server from ≡ queue → Known w state → Last state → Last (take_front w state server from queue)
  front_last state server from [] q knows all = all
  front_last state server from (l ∷ rest) q knows all = (let both = heard state knows all from (1 + max (slice_index state.clocks server) l.clock) l rest server q in record { versions = both.0; owers = both.1 })

  step : (schedule : List Pick) (p : Pick) → Last (run w schedule) → Last (run w (schedule ++ p ∷ []))
  step schedule p all =
      let s = run w schedule in
      subst Last (sym (fold-append (pick w) (open_world w) schedule (p ∷ []))) (front_last s p.server p.from (link s.links p.server p.from) refl (known schedule) all)

  pub steps : (before more : List Pick) → Last (run w before) → Last (run w (before ++ more))
  steps before [] all = subst (λ z. Last (run w z)) (sym (append-nil before)) all
  steps before (p ∷ more) all = subst (λ z. Last (run w z)) (append_assoc before (p ∷ []) more) (steps (before ++ p ∷ []) more (step before p all))

  pub runs_last : (schedule : List Pick) → HaveLastVersions (run w schedule)
  runs_last schedule = (steps [] schedule (record { versions = open_versions w; owers = λ k low t owed. absurd (true≢false (sym owed)) })).versions
