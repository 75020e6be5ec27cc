-- What holds of each site and of what it asks the sequencer holds in every run, where it holds at the start and each step of the sequencer
-- and of the site keeps it. Of the world before the step and after it is known what holds in every run.
use Rattle.std.proofs.Common.{◌≡◌, ◌≢◌, ◌⊎◌, inl, inr, ℕ, zero, suc, ◌+◌, ◌<◌, List, [], ◌∷◌, ◌++◌, Option, Some, None, arith, sym, subst, ap, ◌∙◌, refl, append-nil, append_assoc}
use Rattle.std.specs.Prelude.{max, slice_get, slice_set, slice_index}
use Rattle.std.specs.List.{AllByRecursion}
use Rattle.std.specs.Option.{option_map_or}
use Rattle.std.proofs.lemmas.List.Sums.{fold-append}
use Rattle.raid_base.specs.declared.entry.Noted.{Noted}
use Rattle.raid_workload.specs.declared.workload.Workload.{Workload}
use Rattle.raid_rules.specs.History.{noted}
use Rattle.raid_message.specs.declared.letter.Letter.{Letter}
use Rattle.raid_message.specs.declared.letter.Pick.{Pick}
use Rattle.raid_steps.specs.State.{Out, Turn, Sequencer, SiteState}
use Rattle.raid_steps.specs.Monitor.{hear_monitor}
use Rattle.raid_steps.specs.Sequencer.{hear_sequencer}
use Rattle.raid_steps.specs.Site.{hear_site}
use Rattle.raid_steps.specs.World.{World, Servers, hear, hear_at, session_of, link, take_front, pick, run, open_world}
use Rattle.raid_sessions.proofs.Lists.{get_below, get_set, get_other, some_is}
use Rattle.raid_sessions.proofs.Mail.{same_or_not, letters_to, moved, moved_taken, moved_sent, moved_other}
use Rattle.raid_sessions.proofs.Reached.{from_below, server_below}
use Rattle.raid_layers.proofs.Laws.{reads, gives, asks_one}
use Rattle.raid_layers.proofs.Runs as layers
use Rattle.raid_layers.proofs.Worlds.{TalkAll, Landed}
use Rattle.raid_witness.specs.Fit.{AskFits}
use Rattle.raid_witness.proofs.FitRuns.{runs_fit}

module _ (w : Workload) where
  -- what is known of the servers and links of each run
  pub record Found (s : Servers) (links : List (List (List Letter))) : Type 0 where
    pub landed : Landed w s links
    pub talks : TalkAll w s links
    pub fit : (k : ℕ) → AllByRecursion (λ (l : Letter). AskFits w l.message) (link links 1 (k + 2))

  pub found : (schedule : List Pick) → Found (run w schedule).servers (run w schedule).links
  found schedule = (let asks = asks_one w schedule in record { landed = layers.landed w (reads w) (gives w) schedule; talks = (asks.one, asks.talks); fit = runs_fit w schedule })

-- what the sequencer hasn't taken of a site's asks: nothing was taken, or the first
pub data Asked (from k : ℕ) (letter : Letter) (asks after : List Letter) : Type 0 where
  left : from ≢ k + 2 → after ≡ asks → Asked from k letter asks after
  took : from ≡ k + 2 → asks ≡ letter ∷ after → Asked from k letter asks after

module _ (w : Workload) (J : ℕ → List Noted → SiteState → List Letter → Type 0) where
  abbrev pub Each : Servers → List (List (List Letter)) → Type 0
  Each s links = (k : ℕ) (state : SiteState) → slice_get s.sites k ≡ Some state → J k (noted s.sequencer.history) state (link links 1 (k + 2))

  -- the sequencer's step keeps it
  abbrev pub AtSequencer : Type 0
  AtSequencer =
      (s : Servers) (links : List (List (List Letter))) → Found w s links → (from clock : ℕ) (letter : Letter) (rest : List Letter) → link links 1 from ≡ letter ∷ rest →
      Found w (record s { sequencer = (hear_sequencer w s.sequencer from letter).state }) (moved links 1 from 0 clock rest (hear_sequencer w s.sequencer from letter).outs) → (k : ℕ) (state : SiteState) → slice_get s.sites k ≡ Some state →
      Asked from k letter (link links 1 (k + 2)) (link (moved links 1 from 0 clock rest (hear_sequencer w s.sequencer from letter).outs) 1 (k + 2)) → J k (noted s.sequencer.history) state (link links 1 (k + 2)) →
      J k (noted (hear_sequencer w s.sequencer from letter).state.history) state (link (moved links 1 from 0 clock rest (hear_sequencer w s.sequencer from letter).outs) 1 (k + 2))

  -- the site's own step keeps it
  abbrev pub AtSite : Type 0
  AtSite =
      (s : Servers) (links : List (List (List Letter))) → Found w s links → (from clock : ℕ) (letter : Letter) (rest : List Letter) (k : ℕ) (state : SiteState) → slice_get s.sites k ≡ Some state → link links (suc (suc k)) from ≡ letter ∷ rest →
      Found w (record s { sites = slice_set s.sites k (hear_site w state from letter).state }) (moved links (suc (suc k)) from (hear_site w state from letter).state.session clock rest (hear_site w state from letter).outs) →
      J k (noted s.sequencer.history) state (link links 1 (k + 2)) →
      J k (noted s.sequencer.history) (hear_site w state from letter).state (link links 1 (k + 2) ++ letters_to 1 (hear_site w state from letter).state.session clock (hear_site w state from letter).outs)

  module _ (s : Servers) (links : List (List (List Letter))) (was : Found w s links) (each : Each s links) (from clock : ℕ) (letter : Letter) (rest : List Letter) where
    abbrev p : List Noted
    p = noted s.sequencer.history

    at_monitor : (fired : ℕ) (outs : List Out) → Each (record s { fired = fired }) (moved links 0 from 0 clock rest outs)
    at_monitor fired outs k state at =
        subst (J k p state) (sym (moved_other (w.sites + 2) links 0 from 0 clock rest outs was.landed.holds.square (omega arith) 1 (k + 2) (omega arith) (λ e. omega (arith, e)) (inl (λ e. omega (arith, e))))) (each k state at)

    abbrev heard : Turn Sequencer
    heard = hear_sequencer w s.sequencer from letter

    at_sequencer : AtSequencer → link links 1 from ≡ letter ∷ rest → Found w (record s { sequencer = (hear_sequencer w s.sequencer from letter).state }) (moved links 1 from 0 clock rest (hear_sequencer w s.sequencer from letter).outs) →
        Each (record s { sequencer = (hear_sequencer w s.sequencer from letter).state }) (moved links 1 from 0 clock rest (hear_sequencer w s.sequencer from letter).outs)
    at_sequencer keeps front is k state at = keeps s links was from clock letter rest front is k state at (asked (same_or_not from (k + 2))) (each k state at)
      where
        low : from < w.sites + 2
        low = from_below (w.sites + 2) links 1 from letter rest was.landed.holds.square front

        asked : (from ≡ k + 2) ⊎ (from ≢ k + 2) → Asked from k letter (link links 1 (k + 2)) (link (moved links 1 from 0 clock rest (hear_sequencer w s.sequencer from letter).outs) 1 (k + 2))
        asked (inl of) =
            took of (ap (link links 1) (sym of) ∙ front ∙ ap (λ ls. letter ∷ ls) (sym (ap (link (moved links 1 from 0 clock rest heard.outs) 1) (sym of) ∙ moved_taken (w.sites + 2) links 1 from 0 clock rest heard.outs was.landed.holds.square (omega arith) low (λ e. omega (arith, e, of)))))
        asked (inr other) = left other (moved_other (w.sites + 2) links 1 from 0 clock rest heard.outs was.landed.holds.square (omega arith) 1 (k + 2) (omega arith) (λ e. omega (arith, e)) (inr (λ e. other (sym e))))

    module _ (keeps : AtSite) (j : ℕ) (state : SiteState) (at : slice_get s.sites j ≡ Some state) (front : link links (suc (suc j)) from ≡ letter ∷ rest) where
      abbrev turn : Turn SiteState
      turn = hear_site w state from letter

      at_site : Found w (record s { sites = slice_set s.sites j (hear_site w state from letter).state }) (moved links (suc (suc j)) from (hear_site w state from letter).state.session clock rest (hear_site w state from letter).outs) →
          Each (record s { sites = slice_set s.sites j (hear_site w state from letter).state }) (moved links (suc (suc j)) from (hear_site w state from letter).state.session clock rest (hear_site w state from letter).outs)
      at_site is k other there = go (same_or_not k j)
        where
          after : List (List (List Letter))
          after = moved links (suc (suc j)) from turn.state.session clock rest turn.outs

          place : suc (suc j) ≡ j + 2
          place = omega arith

          inside : suc (suc j) < w.sites + 2
          inside = (let b = get_below s.sites j state at in let l = was.landed.holds.long in omega (arith, b, l))

          asks : link (moved links (suc (suc j)) from turn.state.session clock rest turn.outs) 1 (j + 2) ≡ link links 1 (j + 2) ++ letters_to 1 turn.state.session clock turn.outs
          asks =
              ap (link (moved links (suc (suc j)) from turn.state.session clock rest turn.outs) 1) (sym place) ∙ moved_sent (w.sites + 2) links (suc (suc j)) from turn.state.session clock rest turn.outs was.landed.holds.square inside 1 (omega arith) (λ e. omega (arith, e))
              ∙ ap (λ d. link links 1 d ++ letters_to 1 turn.state.session clock turn.outs) place

          go : (k ≡ j) ⊎ (k ≢ j) → J k p other (link (moved links (suc (suc j)) from turn.state.session clock rest turn.outs) 1 (k + 2))
          go (inl e) =
              let same : turn.state ≡ other = some_is turn.state other (sym (get_set s.sites j turn.state (get_below s.sites j state at)) ∙ ap (slice_get (slice_set s.sites j turn.state)) (sym e) ∙ there) in
              subst (λ z. J z p other (link (moved links (suc (suc j)) from turn.state.session clock rest turn.outs) 1 (z + 2))) (sym e)
              (subst (λ z. J j p z (link (moved links (suc (suc j)) from turn.state.session clock rest turn.outs) 1 (j + 2))) same (subst (J j p turn.state) (sym asks) (keeps s links was from clock letter rest j state at front is (each j state at))))
          go (inr differ) =
              subst (J k p other) (sym (moved_other (w.sites + 2) links (suc (suc j)) from turn.state.session clock rest turn.outs was.landed.holds.square inside 1 (k + 2) (omega arith) (λ e. differ (omega (arith, e))) (inl (λ e. omega (arith, e)))))
              (each k other (sym (get_other s.sites j k turn.state differ) ∙ there))

    -- the site at a place, if there is one
    maybe : AtSite → (k : ℕ) → link links (suc (suc k)) from ≡ letter ∷ rest → (o : Option SiteState) → slice_get s.sites k ≡ o →
        Found w (hear_at w s k from letter o).0 (moved links (suc (suc k)) from (session_of (hear_at w s k from letter o).0 (suc (suc k))) clock rest (hear_at w s k from letter o).1) →
        Each (hear_at w s k from letter o).0 (moved links (suc (suc k)) from (session_of (hear_at w s k from letter o).0 (suc (suc k))) clock rest (hear_at w s k from letter o).1)
    maybe keeps k front None none is =
        absurd (layers.nobody s.sites k none (let inside = server_below (w.sites + 2) links (suc (suc k)) from letter rest was.landed.holds.square front in let long = was.landed.holds.long in omega (arith, inside, long)))
    maybe keeps k front (Some state) at is =
        let turn = hear_site w state from letter in
        let same = ap (λ (o : Option SiteState). option_map_or (λ (state : SiteState). state.session) o 0) (get_set s.sites k turn.state (get_below s.sites k state at)) in
        subst (λ z. Each (record s { sites = slice_set s.sites k turn.state }) (moved links (suc (suc k)) from z clock rest turn.outs)) (sym same)
        (at_site keeps k state at front (subst (λ z. Found w (record s { sites = slice_set s.sites k turn.state }) (moved links (suc (suc k)) from z clock rest turn.outs)) same is))

    heard_each : AtSequencer → AtSite → (server : ℕ) → link links server from ≡ letter ∷ rest →
        Found w (hear w s server from letter).0 (moved links server from (session_of (hear w s server from letter).0 server) clock rest (hear w s server from letter).1) →
        Each (hear w s server from letter).0 (moved links server from (session_of (hear w s server from letter).0 server) clock rest (hear w s server from letter).1)
    heard_each sequencer site zero front is = at_monitor (hear_monitor w s.fired from letter).state (hear_monitor w s.fired from letter).outs
    heard_each sequencer site (suc zero) front is = at_sequencer sequencer front is
    heard_each sequencer site (suc (suc k)) front is = maybe site k front (slice_get s.sites k) refl is

  module _ (sequencer : AtSequencer) (site : AtSite) where
    front_each : (s : World) (server from : ℕ) (queue : List Letter) → link s.links server from ≡ queue → Found w s.servers s.links → Each s.servers s.links → Found w (take_front w s server from queue).servers (take_front w s server from queue).links →
        Each (take_front w s server from queue).servers (take_front w s server from queue).links
    front_each s server from [] q was each is = each
    front_each s server from (l ∷ rest) q was each is = heard_each s.servers s.links was each from (1 + max (slice_index s.clocks server) l.clock) l rest sequencer site server q is

    abbrev At : List Pick → Type 0
    At schedule = Each (run w schedule).servers (run w schedule).links

    one_more : (schedule : List Pick) (p : Pick) → run w (schedule ++ p ∷ []) ≡ pick w (run w schedule) p
    one_more schedule p = fold-append (pick w) (open_world w) schedule (p ∷ [])

    step : (schedule : List Pick) (p : Pick) → At schedule → At (schedule ++ p ∷ [])
    step schedule p each =
        let s = run w schedule in
        subst (λ (s : World). Each s.servers s.links) (sym (one_more schedule p))
        (front_each s p.server p.from (link s.links p.server p.from) refl (found w schedule) each (subst (λ (s : World). Found w s.servers s.links) (one_more schedule p) (found w (schedule ++ p ∷ []))))

    steps : (before more : List Pick) → At before → At (before ++ more)
    steps before [] each = subst At (sym (append-nil before)) each
    steps before (p ∷ more) each = subst At (append_assoc before (p ∷ []) more) (steps (before ++ p ∷ []) more (step before p each))

    pub in_runs : At [] → (schedule : List Pick) → At schedule
    in_runs opens schedule = steps [] schedule opens
