-- In every reached world, programs ask one thing at a time.
use Rattle.std.proofs.Common.{◌≡◌, inr, ℕ, ℤ, zero, suc, ◌+◌, ◌<◌, List, [], ◌∷◌, ◌++◌, length, replicate, Option, Some, None, arith, sym, subst, ap, refl, append-nil, append_assoc}
use Rattle.std.specs.Prelude.{max, slice_get, slice_set, slice_index, slice_index_or}
use Rattle.std.specs.Option.{option_map_or}
use Rattle.std.proofs.lemmas.List.Sums.{fold-append}
use Rattle.raid_base.specs.declared.names.Txn.{Txn}
use Rattle.raid_base.specs.declared.names.Item.{Item}
use Rattle.raid_base.specs.declared.names.Site.{Site}
use Rattle.raid_program.specs.Run.{put}
use Rattle.raid_workload.specs.declared.workload.Workload.{Workload}
use Rattle.raid_rules.specs.History.{noted}
use Rattle.raid_message.specs.declared.letter.Letter.{Letter}
use Rattle.raid_message.specs.declared.letter.Pick.{Pick}
use Rattle.raid_steps.specs.State.{asking, Running, SiteState}
use Rattle.raid_steps.specs.Programs.{running_of}
use Rattle.raid_steps.specs.Monitor.{hear_monitor}
use Rattle.raid_steps.specs.Site.{hear_site}
use Rattle.raid_steps.specs.World.{World, Servers, hear, hear_at, session_of, link, take_front, pick, run, open_world}
use Rattle.raid_sessions.proofs.Holds.{Holds}
use Rattle.raid_sessions.proofs.Lists.{get_below, get_set}
use Rattle.raid_sessions.proofs.Mail.{moved}
use Rattle.raid_sessions.proofs.Reached.{from_below, server_below, reached}
use Rattle.raid_moves.specs.Moves.{comes_to, fresh}
use Rattle.raid_asks.proofs.Begins.{reached_all}
use Rattle.raid_asks.proofs.Reached.{first_state}
use Rattle.raid_asks.proofs.Waits.{Waits}
use Rattle.raid_letters.proofs.Runs.{reaches}
use Rattle.raid_layers.specs.Asks.{asks_of, no_ask, AskOneThing}
use Rattle.raid_layers.proofs.SiteWorlds.{site_talks}
use Rattle.raid_layers.proofs.Worlds.{TalksAt, TalkAll, Landed, monitor_talks, sequencer_talks}

pub empty_at : (n k : ℕ) → slice_index_or (replicate {A = List Letter} n []) k [] ≡ []
empty_at zero k = refl
empty_at (suc n) zero = refl
empty_at (suc n) (suc k) = empty_at n k

pub nobody : (xs : List SiteState) (k : ℕ) → slice_get xs k ≡ None → k < length xs → ⊥
nobody [] k q below = omega (arith, below)
nobody (x ∷ xs) zero q below = cc q
nobody (x ∷ xs) (suc k) q below = nobody xs k q (omega (arith, below))

module _ (w : Workload) where
  -- a program that begins has read nothing; and one that is given what it waits for has read just what it was answered
  abbrev pub Reads : Type 0
  Reads = (t : Txn) → (comes_to w (fresh t)).reads ≡ []

  abbrev pub Gives : Servers → Type 0
  Gives s = (k : ℕ) (state : SiteState) → slice_get s.sites k ≡ Some state → (r : Running) (ask : ℕ) (x : Item) (q : Option Site) (v : ℤ) → running_of state r.txn ≡ Some r → r.phase ≡ asking ask x q →
      (comes_to w (record r { answers = put r.answers x v })).reads ≡ put r.answers x v

  at_site : (s : Servers) (links : List (List (List Letter))) (k from clock : ℕ) (l : Letter) (rest : List Letter) → link links (suc (suc k)) from ≡ l ∷ rest → Landed w s links → TalkAll w s links → (o : Option SiteState) → slice_get s.sites k ≡ o →
      Waits w (hear_at w s k from l o).0 (moved links (suc (suc k)) from (session_of (hear_at w s k from l o).0 (suc (suc k))) clock rest (hear_at w s k from l o).1) →
      TalkAll w (hear_at w s k from l o).0 (moved links (suc (suc k)) from (session_of (hear_at w s k from l o).0 (suc (suc k))) clock rest (hear_at w s k from l o).1)
  at_site s links k from clock l rest front landed all None none waits =
      absurd (nobody s.sites k none (let inside = server_below (w.sites + 2) links (suc (suc k)) from l rest landed.holds.square front in let long = landed.holds.long in omega (arith, inside, long)))
  at_site s links k from clock l rest front landed all (Some state) at waits =
      let turn = hear_site w state from l in
      let same = ap (λ (o : Option SiteState). option_map_or (λ (state : SiteState). state.session) o 0) (get_set s.sites k turn.state (get_below s.sites k state at)) in
      subst (λ z. TalkAll w (record s { sites = slice_set s.sites k turn.state }) (moved links (suc (suc k)) from z clock rest turn.outs)) (sym same)
      (site_talks w s links landed all from clock l rest (from_below (w.sites + 2) links (suc (suc k)) from l rest landed.holds.square front) k state at front
      (subst (λ z. Waits w (record s { sites = slice_set s.sites k turn.state }) (moved links (suc (suc k)) from z clock rest turn.outs)) same waits))

  hear_talks : (s : Servers) (links : List (List (List Letter))) (server from clock : ℕ) (l : Letter) (rest : List Letter) → link links server from ≡ l ∷ rest → Landed w s links → TalkAll w s links →
      Holds w (hear w s server from l).0 (moved links server from (session_of (hear w s server from l).0 server) clock rest (hear w s server from l).1) →
      Waits w (hear w s server from l).0 (moved links server from (session_of (hear w s server from l).0 server) clock rest (hear w s server from l).1) →
      TalkAll w (hear w s server from l).0 (moved links server from (session_of (hear w s server from l).0 server) clock rest (hear w s server from l).1)
  hear_talks s links zero from clock l rest front landed all holds waits =
      monitor_talks w s links landed all from clock l rest (from_below (w.sites + 2) links 0 from l rest landed.holds.square front) front (hear_monitor w s.fired from l).state (hear_monitor w s.fired from l).outs
  hear_talks s links (suc zero) from clock l rest front landed all holds waits = sequencer_talks w s links landed all from clock l rest (from_below (w.sites + 2) links 1 from l rest landed.holds.square front) front holds
  hear_talks s links (suc (suc k)) from clock l rest front landed all holds waits = at_site s links k from clock l rest front landed all (slice_get s.sites k) refl waits

  front_talks : (s : World) (server from : ℕ) (queue : List Letter) → link s.links server from ≡ queue → Landed w s.servers s.links → TalkAll w s.servers s.links →
      Holds w (take_front w s server from queue).servers (take_front w s server from queue).links → Waits w (take_front w s server from queue).servers (take_front w s server from queue).links →
      TalkAll w (take_front w s server from queue).servers (take_front w s server from queue).links
  front_talks s server from [] q landed all holds waits = all
  front_talks s server from (l ∷ rest) q landed all holds waits = hear_talks s.servers s.links server from (1 + max (slice_index s.clocks server) l.clock) l rest q landed all holds waits

  open_talks : TalkAll w (open_world w).servers (open_world w).links
  open_talks = ((λ k t. inr (no_ask (none k t))), talks)
    where
      none : (k : ℕ) (t : Txn) → asks_of t (link (open_world w).links 1 (k + 2)) ≡ []
      none k t = ap (asks_of t) (empty_at (w.sites + 2) (k + 2))

      talks : (k : ℕ) (state : SiteState) → slice_get (open_world w).servers.sites k ≡ Some state → TalksAt w (noted (open_world w).servers.sequencer.history) (open_world w).links k state
      talks k state at = subst (TalksAt w (noted (open_world w).servers.sequencer.history) (open_world w).links k) (first_state w 1 w.sites k state at) (λ up last t. inr (none k t))

  module _ (reads : Reads) (gives : (schedule : List Pick) → Gives (run w schedule).servers) where
    pub landed : (schedule : List Pick) → Landed w (run w schedule).servers (run w schedule).links
    landed schedule = record {
      holds = reached w schedule;
      homes = (reached_all w schedule).1.0;
      waits = (reached_all w schedule).1.1;
      says = (reaches w schedule).says;
      begun = reads;
      given = gives schedule;
    }

    abbrev At : List Pick → Type 0
    At schedule = TalkAll w (run w schedule).servers (run w schedule).links

    one_more : (schedule : List Pick) (p : Pick) → run w (schedule ++ p ∷ []) ≡ pick w (run w schedule) p
    one_more schedule p = fold-append (pick w) (open_world w) schedule (p ∷ [])

    step : (schedule : List Pick) (p : Pick) → At schedule → At (schedule ++ p ∷ [])
    step schedule p all =
        let s = run w schedule in
        subst (λ s. TalkAll w s.servers s.links) (sym (one_more schedule p))
        (front_talks s p.server p.from (link s.links p.server p.from) refl (landed schedule) all
        (subst (λ s. Holds w s.servers s.links) (one_more schedule p) (reached w (schedule ++ p ∷ []))) (subst (λ s. Waits w s.servers s.links) (one_more schedule p) (reached_all w (schedule ++ p ∷ [])).1.1))

    steps : (before more : List Pick) → At before → At (before ++ more)
    steps before [] all = subst At (sym (append-nil before)) all
    steps before (p ∷ more) all = subst At (append_assoc before (p ∷ []) more) (steps (before ++ p ∷ []) more (step before p all))

    pub runs_ask : (schedule : List Pick) → AskOneThing w (run w schedule)
    runs_ask schedule = (let all = steps [] schedule open_talks in record { one = all.0; talks = all.1 })
