-- In every run, where programs get what was seen, they tell what they have seen, and all that is placed was asked for.
use Rattle.std.proofs.Common.{◌≡◌, ℕ, zero, suc, ◌+◌, ◌<◌, List, [], ◌∷◌, ◌++◌, Option, Some, None, arith, sym, subst, ap, refl, append-nil, append_assoc}
use Rattle.std.specs.Prelude.{max, slice_get, slice_set, slice_index}
use Rattle.std.specs.List.{AllByRecursion}
use Rattle.std.specs.Option.{option_map_or}
use Rattle.std.proofs.lemmas.List.Sums.{fold-append}
use Rattle.raid_workload.specs.declared.workload.Workload.{Workload}
use Rattle.raid_rules.specs.History.{noted}
use Rattle.raid_message.specs.declared.letter.Letter.{Letter}
use Rattle.raid_message.specs.declared.letter.Pick.{Pick}
use Rattle.raid_steps.specs.State.{Turn, SiteState}
use Rattle.raid_steps.specs.Monitor.{hear_monitor}
use Rattle.raid_steps.specs.Site.{hear_site}
use Rattle.raid_steps.specs.World.{World, hear, hear_at, session_of, link, take_front, pick, run, open_world}
use Rattle.raid_sessions.proofs.Lists.{get_below, get_set}
use Rattle.raid_sessions.proofs.Mail.{moved}
use Rattle.raid_sessions.proofs.Reached.{from_below, server_below}
use Rattle.raid_stands.specs.Stands.{AreStanding}
use Rattle.raid_stands.proofs.Runs.{runs_stand}
use Rattle.raid_asks.proofs.Reached.{first_state}
use Rattle.raid_layers.proofs.Laws.{reads, gives, asks_one}
use Rattle.raid_layers.proofs.Runs.{empty_at, nobody, landed}
use Rattle.raid_layers.proofs.Worlds.{TalkAll}
use Rattle.raid_legal_runs.specs.Tell.{TellSeen}
use Rattle.raid_legal_runs.proofs.SiteWorlds.{site_seen}
use Rattle.raid_legal_runs.proofs.Worlds.{SeenAt, SaysSeen, AllSeen, GivesSeen, Known, monitor_seen, sequencer_seen}

got : {X : Type 0} (P : X → Type 0) (xs : List X) (k : ℕ) (x : X) → AllByRecursion P xs → slice_get xs k ≡ Some x → P x
got P [] k x a q = absurd (cc q)
got P (y ∷ xs) zero x a q = (let same : y ≡ x = cc q in subst P same a.0)
got P (y ∷ xs) (suc k) x a q = got P xs k x a.1 q

module _ (w : Workload) where
  abbrev pub At : World → Type 0
  At state = AllSeen w state.servers.sequencer.history state.servers.sites state.links

  module _ (state : World) (known : Known w state.servers state.links) (all : At state) (from clock : ℕ) (l : Letter) (rest : List Letter) where
    -- the world after the letter was heard, by its servers and links
    abbrev Heard : ℕ → Type 0
    Heard server = AllSeen w (hear w state.servers server from l).0.sequencer.history (hear w state.servers server from l).0.sites
        (moved state.links server from (session_of (hear w state.servers server from l).0 server) clock rest (hear w state.servers server from l).1)

    -- what is known of it: its programs ask one thing at a time, and stand where their answers lead
    abbrev Later : ℕ → Type 0
    Later server = TalkAll w (hear w state.servers server from l).0 (moved state.links server from (session_of (hear w state.servers server from l).0 server) clock rest (hear w state.servers server from l).1)
        × AllByRecursion (AreStanding w) (hear w state.servers server from l).0.sites

    sender : (server : ℕ) → link state.links server from ≡ l ∷ rest → from < w.sites + 2
    sender server front = from_below (w.sites + 2) state.links server from l rest known.landed.holds.square front

    at_site : (k : ℕ) → link state.links (suc (suc k)) from ≡ l ∷ rest → (o : Option SiteState) → slice_get state.servers.sites k ≡ o →
        TalkAll w (hear_at w state.servers k from l o).0 (moved state.links (suc (suc k)) from (session_of (hear_at w state.servers k from l o).0 (suc (suc k))) clock rest (hear_at w state.servers k from l o).1)
        × AllByRecursion (AreStanding w) (hear_at w state.servers k from l o).0.sites →
        AllSeen w (hear_at w state.servers k from l o).0.sequencer.history (hear_at w state.servers k from l o).0.sites
        (moved state.links (suc (suc k)) from (session_of (hear_at w state.servers k from l o).0 (suc (suc k))) clock rest (hear_at w state.servers k from l o).1)
    at_site k front None none later =
        absurd (nobody state.servers.sites k none (let inside = server_below (w.sites + 2) state.links (suc (suc k)) from l rest known.landed.holds.square front in let long = known.landed.holds.long in omega (arith, inside, long)))
    at_site k front (Some own) at later =
        subst (λ z. AllSeen w state.servers.sequencer.history (slice_set state.servers.sites k turn.state) (moved state.links (suc (suc k)) from z clock rest turn.outs)) (sym same)
        (site_seen w state.servers state.links known all from clock l rest (sender (suc (suc k)) front) k own at front (talks.0 k) (talks.1 k turn.state there) (got (AreStanding w) (slice_set state.servers.sites k turn.state) k turn.state later.1 there))
      where
        turn : Turn SiteState
        turn = hear_site w own from l

        there : slice_get (slice_set state.servers.sites k turn.state) k ≡ Some turn.state
        there = get_set state.servers.sites k turn.state (get_below state.servers.sites k own at)

        same : session_of (hear_at w state.servers k from l (Some own)).0 (suc (suc k)) ≡ turn.state.session
        same = ap (λ (o : Option SiteState). option_map_or (λ (s : SiteState). s.session) o 0) there

        talks : TalkAll w (record (state.servers) { sites = slice_set state.servers.sites k turn.state }) (moved state.links (suc (suc k)) from turn.state.session clock rest turn.outs)
        talks = subst (λ z. TalkAll w (record (state.servers) { sites = slice_set state.servers.sites k turn.state }) (moved state.links (suc (suc k)) from z clock rest turn.outs)) same later.0

    heard : (server : ℕ) → link state.links server from ≡ l ∷ rest → Later server → Heard server
    heard zero front later = monitor_seen w state.servers state.links known all from clock l rest (sender 0 front) front (hear_monitor w state.servers.fired from l).outs
    heard (suc zero) front later = sequencer_seen w state.servers state.links known all from clock l rest (sender 1 front) front
    heard (suc (suc k)) front later = at_site k front (slice_get state.servers.sites k) refl later

  front_seen : (state : World) (server from : ℕ) (queue : List Letter) → link state.links server from ≡ queue → Known w state.servers state.links → At state →
      TalkAll w (take_front w state server from queue).servers (take_front w state server from queue).links × AllByRecursion (AreStanding w) (take_front w state server from queue).servers.sites → At (take_front w state server from queue)
  front_seen state server from [] q known all later = all
  front_seen state server from (l ∷ rest) q known all later = heard state known all from (1 + max (slice_index state.clocks server) l.clock) l rest server q later

  -- at the start there is no ask, and no program runs
  open_seen : At (open_world w)
  open_seen = record {
    running = λ k state at. subst (SeenAt w (noted (open_world w).servers.sequencer.history) k) (first_state w 1 w.sites k state at) (λ up last. tt);
    asks = λ k. subst (AllByRecursion (SaysSeen w (noted (open_world w).servers.sequencer.history))) (sym (empty_at (w.sites + 2) (k + 2))) tt;
    entries = tt;
  }

  -- along a schedule, where what programs get is what was seen in each world before
  module _ (given : (schedule : List Pick) → GivesSeen w (run w schedule).servers (run w schedule).links) where
    talks : (schedule : List Pick) → TalkAll w (run w schedule).servers (run w schedule).links
    talks schedule = (let one = asks_one w schedule in (one.one, one.talks))

    known : (schedule : List Pick) → Known w (run w schedule).servers (run w schedule).links
    known schedule = record { landed = landed w (reads w) (gives w) schedule; talks = talks schedule; gives = given schedule }

    abbrev Later_in : World → Type 0
    Later_in state = TalkAll w state.servers state.links × AllByRecursion (AreStanding w) state.servers.sites

    step : (schedule : List Pick) (p : Pick) → At (run w schedule) → At (run w (schedule ++ p ∷ []))
    step schedule p all =
        let s = run w schedule in
        let is : run w (schedule ++ p ∷ []) ≡ pick w s p = fold-append (pick w) (open_world w) schedule (p ∷ []) in
        subst At (sym is) (front_seen s p.server p.from (link s.links p.server p.from) refl (known schedule) all (subst Later_in is (talks (schedule ++ p ∷ []), runs_stand w (schedule ++ p ∷ []))))

    steps : (before more : List Pick) → At (run w before) → At (run w (before ++ more))
    steps before [] all = subst (λ z. At (run w z)) (sym (append-nil before)) all
    steps before (p ∷ more) all = subst (λ z. At (run w z)) (append_assoc before (p ∷ []) more) (steps (before ++ p ∷ []) more (step before p all))

    pub runs_see : (schedule : List Pick) → At (run w schedule)
    runs_see schedule = steps [] schedule open_seen

    pub runs_tell : (schedule : List Pick) → TellSeen w (run w schedule)
    runs_tell schedule = (let all = runs_see schedule in record { running = all.running; asks = all.asks })
