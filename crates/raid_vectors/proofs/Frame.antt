-- What holds of each site, of what it asks the sequencer and of what that tells it, holds in every
-- run where it holds at the start and each step of the sequencer and of the site keeps it.
use Rattle.std.proofs.Common.{◌≡◌, ◌≢◌, ◌⊎◌, inl, inr, ℕ, zero, suc, ◌+◌, ◌<◌, ◌==◌, Bool, true, false, List, [], ◌∷◌, ◌++◌, Option, Some, None, if◌then◌else◌, arith, sym, subst, ap, ◌∙◌, refl, append-nil, append_assoc}
use Rattle.std.specs.Prelude.{max, slice_get, slice_set, slice_index}
use Rattle.std.specs.Option.{option_map_or}
use Rattle.std.proofs.lemmas.Bool.{eqb-true}
use Rattle.std.proofs.lemmas.List.Sums.{fold-append}
use Rattle.raid_base.specs.declared.entry.Noted.{Noted}
use Rattle.raid_workload.specs.declared.workload.Workload.{Workload}
use Rattle.raid_rules.specs.History.{noted}
use Rattle.raid_message.specs.declared.letter.Letter.{Letter}
use Rattle.raid_message.specs.declared.letter.Pick.{Pick}
use Rattle.raid_steps.specs.State.{Out, Turn, Sequencer, SiteState}
use Rattle.raid_steps.specs.Monitor.{hear_monitor}
use Rattle.raid_steps.specs.Sequencer.{hear_sequencer}
use Rattle.raid_steps.specs.Site.{hear_site}
use Rattle.raid_steps.specs.World.{World, Servers, hear, hear_at, session_of, link, take_front, pick, run, open_world}
use Rattle.raid_sessions.proofs.Lists.{get_below, get_set, get_other, is_same, some_is}
use Rattle.raid_sessions.proofs.Mail.{AreSquare, same_or_not, letters_to, moved, moved_taken, moved_sent, moved_other}
use Rattle.raid_sessions.proofs.Reached.{from_below, server_below}
use Rattle.raid_versions.proofs.Owed.{Known}
use Rattle.raid_versions.proofs.Runs as below

differs : (a b : ℕ) → a ≢ b → (a == b) ≡ false
differs a b other = not_same (a == b) refl
  where
    not_same : (c : Bool) → (a == b) ≡ c → (a == b) ≡ false
    not_same true e = absurd (other (eqb-true a b e))
    not_same false e = e

module _ (w : Workload) (J : ℕ → List Noted → SiteState → List Letter → List Letter → Type 0) where
  abbrev pub Each : Servers → List (List (List Letter)) → Type 0
  Each s links =
      (k : ℕ) (state : SiteState) → slice_get s.sites k ≡ Some state → J k (noted s.sequencer.history) state (link links 1 (k + 2)) (link links (k + 2) 1)

  -- the sequencer's step keeps it
  abbrev pub AtSequencer : Type 0
  AtSequencer =
      (world : World) → Known w world → (from clock : ℕ) (letter : Letter) (rest : List Letter) → link world.links 1 from ≡ letter ∷ rest →
      (k : ℕ) (s : SiteState) → slice_get world.servers.sites k ≡ Some s →
      J k (noted world.servers.sequencer.history) s (link world.links 1 (k + 2)) (link world.links (k + 2) 1) →
      J k (noted (hear_sequencer w world.servers.sequencer from letter).state.history) s (if from == k + 2 then rest else link world.links 1 (k + 2))
      (link world.links (k + 2) 1 ++ letters_to (k + 2) 0 clock (hear_sequencer w world.servers.sequencer from letter).outs)

  -- the site's own step keeps it
  abbrev pub AtSite : Type 0
  AtSite =
      (world : World) → Known w world → (from clock : ℕ) (letter : Letter) (rest : List Letter) (k : ℕ) (s : SiteState) →
      slice_get world.servers.sites k ≡ Some s → link world.links (k + 2) from ≡ letter ∷ rest →
      J k (noted world.servers.sequencer.history) s (link world.links 1 (k + 2)) (link world.links (k + 2) 1) →
      J k (noted world.servers.sequencer.history) (hear_site w s from letter).state
      (link world.links 1 (k + 2) ++ letters_to 1 (hear_site w s from letter).state.session clock (hear_site w s from letter).outs)
      (if from == 1 then rest else link world.links (k + 2) 1)

  with_links : (k : ℕ) (p : List Noted) (s : SiteState) {A B C D : List Letter} → C ≡ A → D ≡ B → J k p s A B → J k p s C D
  with_links k p s {A} {B} {C} {D} q r j = subst (λ x. J k p s x D) (sym q) (subst (λ x. J k p s A x) (sym r) j)

  module _ (world : World) (knows : Known w world) (each : Each world.servers world.links) (from clock : ℕ) (letter : Letter) (rest : List Letter) where
    abbrev links : List (List (List Letter))
    links = world.links

    square : AreSquare (w.sites + 2) links
    square = knows.says.reached.square

    room : (k : ℕ) (s : SiteState) → slice_get world.servers.sites k ≡ Some s → k + 2 < w.sites + 2
    room k s at = (let b = get_below world.servers.sites k s at in let l = knows.says.reached.long in omega (arith, b, l))

    at_monitor : (fired : ℕ) (outs : List Out) → Each (record (world.servers) { fired = fired }) (moved links 0 from 0 clock rest outs)
    at_monitor fired outs k s at =
        with_links k (noted world.servers.sequencer.history) s
        (moved_other (w.sites + 2) links 0 from 0 clock rest outs square (omega arith) 1 (k + 2) (omega arith) (λ e. omega (arith, e)) (inl (λ e. omega (arith, e))))
        (moved_other (w.sites + 2) links 0 from 0 clock rest outs square (omega arith) (k + 2) 1 (room k s at) (λ e. omega (arith, e)) (inl (λ e. omega (arith, e))))
        (each k s at)

    abbrev heard : Turn Sequencer
    heard = hear_sequencer w world.servers.sequencer from letter

    at_sequencer : AtSequencer → link links 1 from ≡ letter ∷ rest → Each (record (world.servers) { sequencer = (hear_sequencer w world.servers.sequencer from letter).state }) (moved links 1 from 0 clock rest (hear_sequencer w world.servers.sequencer from letter).outs)
    at_sequencer keeps front k s at = with_links k (noted heard.state.history) s (asks (same_or_not from (k + 2))) notes (keeps world knows from clock letter rest front k s at (each k s at))
      where
        low : from < w.sites + 2
        low = from_below (w.sites + 2) links 1 from letter rest square front

        after : List (List (List Letter))
        after = moved links 1 from 0 clock rest heard.outs

        notes : link (moved links 1 from 0 clock rest heard.outs) (k + 2) 1 ≡ link links (k + 2) 1 ++ letters_to (k + 2) 0 clock heard.outs
        notes = moved_sent (w.sites + 2) links 1 from 0 clock rest heard.outs square (omega arith) (k + 2) (room k s at) (λ e. omega (arith, e))

        asks : (from ≡ k + 2) ⊎ (from ≢ k + 2) → link (moved links 1 from 0 clock rest heard.outs) 1 (k + 2) ≡ (if from == k + 2 then rest else link links 1 (k + 2))
        asks (inl of) =
            ap (link (moved links 1 from 0 clock rest heard.outs) 1) (sym of) ∙ moved_taken (w.sites + 2) links 1 from 0 clock rest heard.outs square (omega arith) low (λ r. omega (arith, of, r))
            ∙ ap (λ b. if b then rest else link links 1 (k + 2)) (sym (is_same from (k + 2) of))
        asks (inr other) =
            moved_other (w.sites + 2) links 1 from 0 clock rest heard.outs square (omega arith) 1 (k + 2) (omega arith) (λ r. omega (arith, r)) (inr (λ r. other (sym r)))
            ∙ ap (λ b. if b then rest else link links 1 (k + 2)) (sym (differs from (k + 2) other))

    module _ (keeps : AtSite) (k : ℕ) (own : SiteState) (at : slice_get world.servers.sites k ≡ Some own) (front : link links (k + 2) from ≡ letter ∷ rest) where
      abbrev turn : Turn SiteState
      turn = hear_site w own from letter

      at_site : Each (record (world.servers) { sites = slice_set world.servers.sites k (hear_site w own from letter).state }) (moved links (k + 2) from (hear_site w own from letter).state.session clock rest (hear_site w own from letter).outs)
      at_site j other there = go (same_or_not j k)
        where
          p : List Noted
          p = noted world.servers.sequencer.history

          after : List (List (List Letter))
          after = moved links (k + 2) from turn.state.session clock rest turn.outs

          low : from < w.sites + 2
          low = from_below (w.sites + 2) links (k + 2) from letter rest square front

          asks : link (moved links (k + 2) from turn.state.session clock rest turn.outs) 1 (k + 2) ≡ link links 1 (k + 2) ++ letters_to 1 turn.state.session clock turn.outs
          asks = moved_sent (w.sites + 2) links (k + 2) from turn.state.session clock rest turn.outs square (room k own at) 1 (omega arith) (λ q. omega (arith, q))

          notes : (from ≡ 1) ⊎ (from ≢ 1) → link (moved links (k + 2) from turn.state.session clock rest turn.outs) (k + 2) 1 ≡ (if from == 1 then rest else link links (k + 2) 1)
          notes (inl of) =
              ap (link (moved links (k + 2) from turn.state.session clock rest turn.outs) (k + 2)) (sym of) ∙ moved_taken (w.sites + 2) links (k + 2) from turn.state.session clock rest turn.outs square (room k own at) low (λ r. omega (arith, of, r))
              ∙ ap (λ b. if b then rest else link links (k + 2) 1) (sym (is_same from 1 of))
          notes (inr differ) =
              moved_other (w.sites + 2) links (k + 2) from turn.state.session clock rest turn.outs square (room k own at) (k + 2) 1 (room k own at) (λ r. omega (arith, r)) (inr (λ r. differ (sym r)))
              ∙ ap (λ b. if b then rest else link links (k + 2) 1) (sym (differs from 1 differ))

          go : (j ≡ k) ⊎ (j ≢ k) → J j (noted world.servers.sequencer.history) other (link (moved links (k + 2) from turn.state.session clock rest turn.outs) 1 (j + 2)) (link (moved links (k + 2) from turn.state.session clock rest turn.outs) (j + 2) 1)
          go (inl q) =
              let same : turn.state ≡ other = some_is turn.state other (sym (get_set world.servers.sites k turn.state (get_below world.servers.sites k own at)) ∙ ap (slice_get (slice_set world.servers.sites k turn.state)) (sym q) ∙ there) in
              subst (λ i. J i (noted world.servers.sequencer.history) other (link (moved links (k + 2) from turn.state.session clock rest turn.outs) 1 (i + 2)) (link (moved links (k + 2) from turn.state.session clock rest turn.outs) (i + 2) 1)) (sym q)
              (subst (λ x. J k (noted world.servers.sequencer.history) x (link (moved links (k + 2) from turn.state.session clock rest turn.outs) 1 (k + 2)) (link (moved links (k + 2) from turn.state.session clock rest turn.outs) (k + 2) 1)) same
              (with_links k (noted world.servers.sequencer.history) turn.state asks (notes (same_or_not from 1)) (keeps world knows from clock letter rest k own at front (each k own at))))
          go (inr q) =
              let was = sym (get_other world.servers.sites k j turn.state q) ∙ there in
              with_links j (noted world.servers.sequencer.history) other
              (moved_other (w.sites + 2) links (k + 2) from turn.state.session clock rest turn.outs square (room k own at) 1 (j + 2) (omega arith) (λ e. q (omega (arith, e))) (inl (λ e. omega (arith, e))))
              (moved_other (w.sites + 2) links (k + 2) from turn.state.session clock rest turn.outs square (room k own at) (j + 2) 1 (room j other was) (λ e. omega (arith, e)) (inl (λ e. q (omega (arith, e)))))
              (each j other was)

    -- the site at a place, if there is one
    maybe : AtSite → (k : ℕ) → link links (suc (suc k)) from ≡ letter ∷ rest → (o : Option SiteState) → slice_get world.servers.sites k ≡ o →
        Each (hear_at w world.servers k from letter o).0 (moved links (suc (suc k)) from (session_of (hear_at w world.servers k from letter o).0 (suc (suc k))) clock rest (hear_at w world.servers k from letter o).1)
    maybe keeps k front None none = unheard
      where
        beyond : suc (suc k) < w.sites + 2
        beyond = server_below (w.sites + 2) links (suc (suc k)) from letter rest square front

        nothing : (s : SiteState) → Some s ≡ None → ⊥
        nothing s e = cc e

        unheard : Each world.servers (moved links (suc (suc k)) from (session_of world.servers (suc (suc k))) clock rest [])
        unheard j s there =
            let apart : j ≢ k = (λ q. nothing s (sym there ∙ ap (slice_get world.servers.sites) q ∙ none)) in
            with_links j (noted world.servers.sequencer.history) s
            (moved_other (w.sites + 2) links (suc (suc k)) from (session_of world.servers (suc (suc k))) clock rest [] square beyond 1 (j + 2) (omega arith) (λ e. apart (omega (arith, e))) (inl (λ e. omega (arith, e))))
            (moved_other (w.sites + 2) links (suc (suc k)) from (session_of world.servers (suc (suc k))) clock rest [] square beyond (j + 2) 1 (room j s there) (λ e. omega (arith, e)) (inl (λ e. apart (omega (arith, e)))))
            (each j s there)
    maybe keeps k front (Some own) at =
        let turn = hear_site w own from letter in
        let place : suc (suc k) ≡ k + 2 = omega arith in
        let stepped = at_site keeps k own at (ap (λ c. link links c from) (sym place) ∙ front) in
        let same = ap (λ (o : Option SiteState). option_map_or (λ (s : SiteState). s.session) o 0) (get_set world.servers.sites k turn.state (get_below world.servers.sites k own at)) in
        subst (λ n. Each (record (world.servers) { sites = slice_set world.servers.sites k turn.state }) (moved links (suc (suc k)) from n clock rest turn.outs)) (sym same)
        (subst (λ c. Each (record (world.servers) { sites = slice_set world.servers.sites k turn.state }) (moved links c from turn.state.session clock rest turn.outs)) (sym place) stepped)

    heard_each : AtSequencer → AtSite → (server : ℕ) → link links server from ≡ letter ∷ rest →
        Each (hear w world.servers server from letter).0 (moved links server from (session_of (hear w world.servers server from letter).0 server) clock rest (hear w world.servers server from letter).1)
    heard_each sequencer site zero front = at_monitor (hear_monitor w world.servers.fired from letter).state (hear_monitor w world.servers.fired from letter).outs
    heard_each sequencer site (suc zero) front = at_sequencer sequencer front
    heard_each sequencer site (suc (suc k)) front = maybe site k front (slice_get world.servers.sites k) refl

  module _ (sequencer : AtSequencer) (site : AtSite) where
    front_each : (world : World) (server from : ℕ) (queue : List Letter) → link world.links server from ≡ queue → Known w world → Each world.servers world.links → Each (take_front w world server from queue).servers (take_front w world server from queue).links
    front_each world server from [] q knows each = each
    front_each world server from (l ∷ rest) q knows each = heard_each world knows each from (1 + max (slice_index world.clocks server) l.clock) l rest sequencer site server q

    abbrev Holds : List Pick → Type 0
    Holds schedule = Each (run w schedule).servers (run w schedule).links

    step : (schedule : List Pick) (p : Pick) → Holds schedule → Holds (schedule ++ p ∷ [])
    step schedule p each =
        let s = run w schedule in
        subst (λ (x : World). Each x.servers x.links) (sym (fold-append (pick w) (open_world w) schedule (p ∷ [])))
        (front_each s p.server p.from (link s.links p.server p.from) refl (below.known w schedule) each)

    steps : (before more : List Pick) → Holds before → Holds (before ++ more)
    steps before [] each = subst (λ z. Each (run w z).servers (run w z).links) (sym (append-nil before)) each
    steps before (p ∷ more) each = subst (λ z. Each (run w z).servers (run w z).links) (append_assoc before (p ∷ []) more) (steps (before ++ p ∷ []) more (step before p each))

    pub in_runs : Each (open_world w).servers (open_world w).links → (schedule : List Pick) → Each (run w schedule).servers (run w schedule).links
    in_runs opens schedule = steps [] schedule opens
