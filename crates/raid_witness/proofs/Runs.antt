-- In every run, the programs of transactions that run are at their homes.
use Rattle.std.proofs.Common.{◌≡◌, inl, inr, ℕ, zero, suc, ◌+◌, List, [], ◌∷◌, ◌++◌, Option, Some, None, arith, sym, subst, ap, ◌∙◌, refl, append-nil, append_assoc}
use Rattle.std.specs.Prelude.{max, slice_get, slice_set, slice_index}
use Rattle.std.specs.Option.{option_map_or}
use Rattle.std.proofs.lemmas.Bool.{true≢false}
use Rattle.std.proofs.lemmas.List.Sums.{fold-append}
use Rattle.raid_base.specs.Names.{has_txn}
use Rattle.raid_workload.specs.declared.workload.Workload.{Workload}
use Rattle.raid_message.specs.declared.letter.Letter.{Letter}
use Rattle.raid_message.specs.declared.letter.Pick.{Pick}
use Rattle.raid_steps.specs.State.{SiteState}
use Rattle.raid_steps.specs.Monitor.{hear_monitor}
use Rattle.raid_steps.specs.Site.{hear_site}
use Rattle.raid_steps.specs.World.{World, Servers, hear, hear_at, session_of, link, take_front, pick, run, open_world}
use Rattle.raid_sessions.proofs.Lists.{get_below, get_set}
use Rattle.raid_sessions.proofs.Mail.{moved}
use Rattle.raid_sessions.proofs.Reached.{from_below, server_below, reached}
use Rattle.raid_asks.specs.Way.{begins_of as begins}
use Rattle.raid_asks.proofs.Begins.{reached_all}
use Rattle.raid_asks.proofs.Waits.{Waits}
use Rattle.raid_letters.proofs.Runs.{reaches}
use Rattle.raid_layers.proofs.Runs.{empty_at, nobody}
use Rattle.raid_witness.specs.AtHome.{AreAtHome}
use Rattle.raid_witness.proofs.Histories.{home_up}
use Rattle.raid_witness.proofs.Worlds.{HomeAll, Below, monitor_homes, sequencer_homes, site_homes}

module _ (w : Workload) where
  at_site : (s : Servers) (links : List (List (List Letter))) (k from clock : ℕ) (l : Letter) (rest : List Letter) → link links (suc (suc k)) from ≡ l ∷ rest → Below w s links → HomeAll w s links → (o : Option SiteState) → slice_get s.sites k ≡ o →
      Waits w (hear_at w s k from l o).0 (moved links (suc (suc k)) from (session_of (hear_at w s k from l o).0 (suc (suc k))) clock rest (hear_at w s k from l o).1) →
      HomeAll w (hear_at w s k from l o).0 (moved links (suc (suc k)) from (session_of (hear_at w s k from l o).0 (suc (suc k))) clock rest (hear_at w s k from l o).1)
  at_site s links k from clock l rest front low all None none waits =
      absurd (nobody s.sites k none (let inside = server_below (w.sites + 2) links (suc (suc k)) from l rest low.holds.square front in let long = low.holds.long in omega (arith, inside, long)))
  at_site s links k from clock l rest front low all (Some state) at waits =
      let turn = hear_site w state from l in
      let same = ap (λ (o : Option SiteState). option_map_or (λ (state : SiteState). state.session) o 0) (get_set s.sites k turn.state (get_below s.sites k state at)) in
      subst (λ z. HomeAll w (record s { sites = slice_set s.sites k turn.state }) (moved links (suc (suc k)) from z clock rest turn.outs)) (sym same)
      (site_homes w s links low all from clock l rest (from_below (w.sites + 2) links (suc (suc k)) from l rest low.holds.square front) k state at front
      (subst (λ z. Waits w (record s { sites = slice_set s.sites k turn.state }) (moved links (suc (suc k)) from z clock rest turn.outs)) same waits))

  hear_homes : (s : Servers) (links : List (List (List Letter))) (server from clock : ℕ) (l : Letter) (rest : List Letter) → link links server from ≡ l ∷ rest → Below w s links → HomeAll w s links →
      Waits w (hear w s server from l).0 (moved links server from (session_of (hear w s server from l).0 server) clock rest (hear w s server from l).1) →
      HomeAll w (hear w s server from l).0 (moved links server from (session_of (hear w s server from l).0 server) clock rest (hear w s server from l).1)
  hear_homes s links zero from clock l rest front low all waits =
      monitor_homes w s links low all from clock l rest (from_below (w.sites + 2) links 0 from l rest low.holds.square front) (hear_monitor w s.fired from l).state (hear_monitor w s.fired from l).outs
  hear_homes s links (suc zero) from clock l rest front low all waits = sequencer_homes w s links low all from clock l rest (from_below (w.sites + 2) links 1 from l rest low.holds.square front) front
  hear_homes s links (suc (suc k)) from clock l rest front low all waits = at_site s links k from clock l rest front low all (slice_get s.sites k) refl waits

  front_homes : (s : World) (server from : ℕ) (queue : List Letter) → link s.links server from ≡ queue → Below w s.servers s.links → HomeAll w s.servers s.links →
      Waits w (take_front w s server from queue).servers (take_front w s server from queue).links → HomeAll w (take_front w s server from queue).servers (take_front w s server from queue).links
  front_homes s server from [] q low all waits = all
  front_homes s server from (l ∷ rest) q low all waits = hear_homes s.servers s.links server from (1 + max (slice_index s.clocks server) l.clock) l rest q low all waits

  below : (schedule : List Pick) → Below w (run w schedule).servers (run w schedule).links
  below schedule = record { holds = reached w schedule; homes = (reached_all w schedule).1.0; waits = (reached_all w schedule).1.1; says = (reaches w schedule).says }

  abbrev At : List Pick → Type 0
  At schedule = HomeAll w (run w schedule).servers (run w schedule).links

  open_homes : At []
  open_homes k state at up last t (inl way) = absurd (true≢false (sym way ∙ ap (λ ls. has_txn (begins state.session ls) t) (empty_at (w.sites + 2) (k + 2))))
  open_homes k state at up last t (inr runs) = absurd (true≢false (sym runs.0))

  one_more : (schedule : List Pick) (p : Pick) → run w (schedule ++ p ∷ []) ≡ pick w (run w schedule) p
  one_more schedule p = fold-append (pick w) (open_world w) schedule (p ∷ [])

  step : (schedule : List Pick) (p : Pick) → At schedule → At (schedule ++ p ∷ [])
  step schedule p all =
      let s = run w schedule in
      subst (λ s. HomeAll w s.servers s.links) (sym (one_more schedule p))
      (front_homes s p.server p.from (link s.links p.server p.from) refl (below schedule) all
      (subst (λ s. Waits w s.servers s.links) (one_more schedule p) (reached_all w (schedule ++ p ∷ [])).1.1))

  steps : (before more : List Pick) → At before → At (before ++ more)
  steps before [] all = subst At (sym (append-nil before)) all
  steps before (p ∷ more) all = subst At (append_assoc before (p ∷ []) more) (steps (before ++ p ∷ []) more (step before p all))

  pub runs_home : (schedule : List Pick) → AreAtHome w (run w schedule)
  runs_home schedule = record {
    up = λ t runs. home_up w (run w schedule).servers.sequencer.history (reached w schedule).placed (reached w schedule).quiet t runs;
    runs = λ k s awake t runs mine. all k s awake.at awake.up awake.last t (inr (runs, mine));
    begins = λ k s awake t way. all k s awake.at awake.up awake.last t (inl way);
  }
    where
      all : At schedule
      all = steps [] schedule open_homes
