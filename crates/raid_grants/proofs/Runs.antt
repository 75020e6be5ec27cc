-- In every run, what was granted comes.
use Rattle.std.proofs.Common.{◌≡◌, ◌≢◌, inl, ℕ, zero, suc, ◌+◌, ◌<◌, true, ◌||◌, List, [], ◌∷◌, ◌++◌, Option, Some, None, arith, sym, subst, ap, ◌∙◌, refl, append-nil, append_assoc}
use Rattle.std.specs.Prelude.{max, slice_get, slice_set, slice_index, is_some}
use Rattle.std.specs.List.{list_any}
use Rattle.std.specs.Option.{option_map_or}
use Rattle.std.proofs.lemmas.List.Sums.{fold-append}
use Rattle.raid_base.specs.Names.{is_site}
use Rattle.raid_base.specs.Sites.{session, site}
use Rattle.raid_workload.specs.declared.workload.Workload.{Workload}
use Rattle.raid_rules.specs.History.{noted}
use Rattle.raid_legal.specs.Seen.{vector}
use Rattle.raid_message.specs.declared.letter.Letter.{Letter}
use Rattle.raid_message.specs.declared.letter.Pick.{Pick}
use Rattle.raid_steps.specs.State.{Out, SiteState}
use Rattle.raid_steps.specs.Monitor.{hear_monitor}
use Rattle.raid_steps.specs.Programs.{running_of}
use Rattle.raid_steps.specs.Site.{hear_site}
use Rattle.raid_steps.specs.World.{World, hear, hear_at, session_of, link, take_front, pick, run, open_world, first_site}
use Rattle.raid_sessions.proofs.Holds.{Holds}
use Rattle.raid_sessions.proofs.Lists.{get_below, get_set, within}
use Rattle.raid_sessions.proofs.Mail.{moved, moved_other}
use Rattle.raid_sessions.proofs.Reached.{from_below, server_below, reached}
use Rattle.raid_asks.proofs.Begins.{reached_all}
use Rattle.raid_asks.proofs.Reached.{first_state}
use Rattle.raid_asks.proofs.Waits.{Waits}
use Rattle.raid_layers.specs.Asks.{asks_of, tells_server}
use Rattle.raid_layers.proofs.Laws.{reads, gives, asks_one}
use Rattle.raid_layers.proofs.Runs.{landed, nobody}
use Rattle.raid_versions.proofs.Runs as versions
use Rattle.raid_grants.specs.Grants.{note_comes, is_to_read, brings_value, told, brought, ended, IsUnderWay, GrantsCome}
use Rattle.raid_grants.proofs.AtHome.{site_stands}
use Rattle.raid_grants.proofs.AtSequencer.{sequencer_stands}
use Rattle.raid_grants.proofs.Standing.{comes_still, Standing, waiting, granted, StandAll, Below}

module _ (w : Workload) where
  abbrev Stands : World → Type 0
  Stands world = StandAll w (noted world.servers.sequencer.history) world.servers.sites world.links

  below : (schedule : List Pick) → Below w (run w schedule)
  below schedule = record {
    known = versions.known w schedule;
    landed = landed w (reads w) (gives w) schedule;
    talks = (let one = asks_one w schedule in (one.one, λ k s at up last t. one.talks k s at up last t));
  }

  open_stands : Stands (open_world w)
  open_stands k state at up last t r found ask x o phase still = absurd (nobody_runs (first_state w 1 w.sites k state at))
    where
      nobody_runs : first_site w (site (1 + k)) ≡ state → ⊥
      nobody_runs e = none (ap (λ s. running_of s t) e ∙ found)
        where
          none : None ≡ Some r → ⊥
          none e = cc e

  module _ (world : World) (low : Below w world) (all : Stands world) (from clock : ℕ) (letter : Letter) (rest : List Letter) where
    abbrev links : List (List (List Letter))
    links = world.links

    -- the monitor
    monitor_stands : (fired : ℕ) (outs : List Out) → StandAll w (noted world.servers.sequencer.history) world.servers.sites (moved world.links 0 from 0 clock rest outs)
    monitor_stands fired outs k state at up last t r found ask x o phase still = go (all k state at up last t r found ask x o phase still)
      where
        after : List (List (List Letter))
        after = moved world.links 0 from 0 clock rest outs

        below_k : k < w.sites
        below_k = (let b = get_below world.servers.sites k state at in let l = low.landed.holds.long in omega (arith, b, l))

        left : (c d : ℕ) → c < w.sites + 2 → c ≢ 0 → d ≢ 0 → link after c d ≡ link links c d
        left c d room some other = moved_other (w.sites + 2) links 0 from 0 clock rest outs low.landed.holds.square (omega arith) c d room other (inl some)

        asks_same : link after 1 (k + 2) ≡ link links 1 (k + 2)
        asks_same = left 1 (k + 2) (omega arith) (λ e. omega (arith, e)) (λ e. omega (arith, e))

        notes_same : link after (k + 2) 1 ≡ link links (k + 2) 1
        notes_same = left (k + 2) 1 (let b = below_k in omega (arith, b)) (λ e. omega (arith, e)) (λ e. omega (arith, e))

        go : Standing w (noted world.servers.sequencer.history) world.servers.sites links k state.session t ask x o (asks_of t (link links 1 (k + 2))) → Standing w (noted world.servers.sequencer.history) world.servers.sites after k state.session t ask x o (asks_of t (link after 1 (k + 2)))
        go (waiting few) = waiting few
        go (granted none count u) = granted (ap (asks_of t) asks_same ∙ none) count (record {
          read = u.read;
          server = u.server;
          last = u.last;
          is = u.is;
          known = u.known;
          up = u.up;
          comes = λ unfallen.
              comes_still world.servers.sites world.servers.sites links after k state.session (session (vector w (noted world.servers.sequencer.history)) u.server) t ask u.server
              (λ e. told (subst (λ ls. list_any (is_to_read (session (vector w (noted world.servers.sequencer.history)) u.server) k state.session t ask) ls ≡ true) (sym (left (u.server.0 + 1) 1 (let b = (within w.sites u.server.0 u.known).1 in omega (arith, b)) (λ e. omega (arith, e)) (λ e. omega (arith, e)))) e))
              (λ e. brought (subst (λ ls. list_any (brings_value state.session t ask) ls ≡ true) (sym (left (k + 2) (u.server.0 + 1) (let b = below_k in omega (arith, b)) (λ e. omega (arith, e)) (λ e. omega (arith, e)))) e))
              (λ e. ended e) (u.comes unfallen);
          falls = λ fell. subst (λ ls. note_comes state.session t ask u.server (is_some o) ls ≡ true) (sym notes_same) (u.falls fell);
          serves = subst (λ ls. (is_site u.server (site (k + 1)) || (is_some o || list_any (tells_server t state.session ask) ls)) ≡ true) (sym notes_same) u.serves;
        })

    abbrev Heard : ℕ → Type 0
    Heard server = StandAll w (noted (hear w world.servers server from letter).0.sequencer.history) (hear w world.servers server from letter).0.sites
        (moved world.links server from (session_of (hear w world.servers server from letter).0 server) clock rest (hear w world.servers server from letter).1)

    at_site : (k : ℕ) → link links (suc (suc k)) from ≡ letter ∷ rest → (o : Option SiteState) → slice_get world.servers.sites k ≡ o →
        Waits w (hear_at w world.servers k from letter o).0 (moved world.links (suc (suc k)) from (session_of (hear_at w world.servers k from letter o).0 (suc (suc k))) clock rest (hear_at w world.servers k from letter o).1) →
        StandAll w (noted (hear_at w world.servers k from letter o).0.sequencer.history) (hear_at w world.servers k from letter o).0.sites
        (moved world.links (suc (suc k)) from (session_of (hear_at w world.servers k from letter o).0 (suc (suc k))) clock rest (hear_at w world.servers k from letter o).1)
    at_site k front None none waits =
        absurd (nobody world.servers.sites k none (let inside = server_below (w.sites + 2) links (suc (suc k)) from letter rest low.landed.holds.square front in let long = low.landed.holds.long in omega (arith, inside, long)))
    at_site k front (Some own) at waits =
        let turn = hear_site w own from letter in
        let same = ap (λ (o : Option SiteState). option_map_or (λ (s : SiteState). s.session) o 0) (get_set world.servers.sites k turn.state (get_below world.servers.sites k own at)) in
        subst (λ z. StandAll w (noted world.servers.sequencer.history) (slice_set world.servers.sites k turn.state) (moved world.links (suc (suc k)) from z clock rest turn.outs)) (sym same)
        (site_stands w world low all from clock letter rest (from_below (w.sites + 2) links (suc (suc k)) from letter rest low.landed.holds.square front) k own at front
        (subst (λ z. Waits w (record (world.servers) { sites = slice_set world.servers.sites k turn.state }) (moved world.links (suc (suc k)) from z clock rest turn.outs)) same waits))

    heard : (server : ℕ) → link links server from ≡ letter ∷ rest → Holds w (hear w world.servers server from letter).0 (moved world.links server from (session_of (hear w world.servers server from letter).0 server) clock rest (hear w world.servers server from letter).1) →
        Waits w (hear w world.servers server from letter).0 (moved world.links server from (session_of (hear w world.servers server from letter).0 server) clock rest (hear w world.servers server from letter).1) → Heard server
    heard zero front holds waits = monitor_stands (hear_monitor w world.servers.fired from letter).state (hear_monitor w world.servers.fired from letter).outs
    heard (suc zero) front holds waits = sequencer_stands w world low from clock letter rest front holds all
    heard (suc (suc k)) front holds waits = at_site k front (slice_get world.servers.sites k) refl waits

  front_stands : (world : World) (server from : ℕ) (queue : List Letter) → link world.links server from ≡ queue → Below w world → Stands world → Holds w (take_front w world server from queue).servers (take_front w world server from queue).links →
      Waits w (take_front w world server from queue).servers (take_front w world server from queue).links → Stands (take_front w world server from queue)
  front_stands world server from [] q low all holds waits = all
  front_stands world server from (l ∷ rest) q low all holds waits = heard world low all from (1 + max (slice_index world.clocks server) l.clock) l rest server q holds waits

  step : (schedule : List Pick) (p : Pick) → Stands (run w schedule) → Stands (run w (schedule ++ p ∷ []))
  step schedule p all =
      let s = run w schedule in
      let more = fold-append (pick w) (open_world w) schedule (p ∷ []) in
      subst Stands (sym more)
      (front_stands s p.server p.from (link s.links p.server p.from) refl (below schedule) all (subst (λ (x : World). Holds w x.servers x.links) more (reached w (schedule ++ p ∷ [])))
      (subst (λ (x : World). Waits w x.servers x.links) more (reached_all w (schedule ++ p ∷ [])).1.1))

  steps : (before more : List Pick) → Stands (run w before) → Stands (run w (before ++ more))
  steps before [] all = subst (λ z. Stands (run w z)) (sym (append-nil before)) all
  steps before (p ∷ more) all = subst (λ z. Stands (run w z)) (append_assoc before (p ∷ []) more) (steps (before ++ p ∷ []) more (step before p all))

  pub runs_grant : (schedule : List Pick) → GrantsCome w (run w schedule)
  runs_grant schedule k s awake t r found ask x q phase still none count = go (steps [] schedule open_stands k s awake.at awake.up awake.last t r found ask x q phase still)
    where
      go : Standing w (noted (run w schedule).servers.sequencer.history) (run w schedule).servers.sites (run w schedule).links k s.session t ask x q (asks_of t (link (run w schedule).links 1 (k + 2))) → IsUnderWay w (noted (run w schedule).servers.sequencer.history) (run w schedule).servers.sites (run w schedule).links k s.session t ask x q
      go (waiting few) = absurd (omega (arith, few, count))
      go (granted e c u) = u
