-- In every reached world, the programs at each site are of that site's own transactions, each once.
use Rattle.std.proofs.Common.{◌≡◌, inl, ℕ, zero, suc, ◌+◌, ◌<◌, List, [], ◌∷◌, length, map, fold, Option, Some, None, arith, sym, subst, ap, ◌∙◌, refl}
use Rattle.std.specs.Prelude.{max, slice_get, slice_set, slice_index, slice_index_or}
use Rattle.std.specs.List.{AllByRecursion}
use Rattle.std.specs.Option.{option_map_or}
use Rattle.raid_base.specs.Sites.{site}
use Rattle.raid_workload.specs.declared.workload.Workload.{Workload}
use Rattle.raid_workload.specs.Parts.{count_from}
use Rattle.raid_message.specs.declared.letter.Letter.{Letter}
use Rattle.raid_message.specs.declared.letter.Pick.{Pick}
use Rattle.raid_steps.specs.State.{Running, SiteState}
use Rattle.raid_steps.specs.Monitor.{hear_monitor}
use Rattle.raid_steps.specs.Site.{hear_site}
use Rattle.raid_steps.specs.World.{World, Servers, hear, hear_at, session_of, link, take_front, pick, run, open_world, first_links, first_letter, first_site}
use Rattle.raid_sessions.proofs.Holds.{Holds}
use Rattle.raid_sessions.proofs.Lists.{get_below, get_set}
use Rattle.raid_sessions.proofs.Mail.{moved}
use Rattle.raid_sessions.proofs.Reached as sessions
use Rattle.raid_sessions.proofs.Reached.{from_below, server_below}
use Rattle.raid_asks.proofs.Homes.{AreTold, Housed, Homes, monitor_homes, sequencer_homes, site_homes}
use Rattle.raid_asks.proofs.Least.{Ours, following_is}
use Rattle.raid_asks.specs.Own.{IsOf, RunsOwn}

own_of : (w : Workload) (k : ℕ) (rs : List Running) → AllByRecursion (λ (r : Running). Ours w (site (k + 1)) r.txn) rs → AllByRecursion (λ (r : Running). IsOf w (site (k + 1)) r.txn) rs
own_of w k [] a = tt
own_of w k (r ∷ rs) a = ((a.0.known, a.0.at), own_of w k rs a.1)

-- a site's state, and what it is told, at the start
pub first_state : (w : Workload) (a n k : ℕ) (state : SiteState) → slice_get (map (first_site w) (map site (count_from a n))) k ≡ Some state → first_site w (site (a + k)) ≡ state
first_state w a zero k state q = absurd (nothing q) where
  nothing : None ≡ Some state → ⊥
  nothing q = cc q
first_state w a (suc n) zero state q = ap (λ k. first_site w (site k)) (place a) ∙ same q
  where
    place : (a : ℕ) → a + 0 ≡ a
    place a = omega arith

    same : Some (first_site w (site a)) ≡ Some state → first_site w (site a) ≡ state
    same q = cc q
first_state w a (suc n) (suc k) state q = ap (λ k. first_site w (site k)) (place a k) ∙ first_state w (a + 1) n k state q
  where
    place : (a k : ℕ) → a + suc k ≡ a + 1 + k
    place a k = omega arith

pub first_notes : (w : Workload) (a n k : ℕ) (state : SiteState) → slice_get (map (first_site w) (map site (count_from a n))) k ≡ Some state → slice_index_or (slice_index_or (map (first_links w) (map site (count_from a n))) k []) 1 [] ≡ first_letter w (site (a + k)) ∷ []
first_notes w a zero k state q = absurd (nothing q) where
  nothing : None ≡ Some state → ⊥
  nothing q = cc q
first_notes w a (suc n) zero state q = ap (λ k. first_letter w (site k) ∷ []) (place a)
  where
    place : (a : ℕ) → a ≡ a + 0
    place a = omega arith
first_notes w a (suc n) (suc k) state q = first_notes w (a + 1) n k state q ∙ ap (λ k. first_letter w (site k) ∷ []) (place a k)
  where
    place : (a k : ℕ) → a + 1 + k ≡ a + suc k
    place a k = omega arith

module _ (w : Workload) where
  abbrev AtHome : World → Type 0
  AtHome s = Homes w s.servers s.links

  at_home : (s : Servers) (links : List (List (List Letter))) (k from clock : ℕ) (l : Letter) (rest : List Letter) → from < w.sites + 2 → link links (suc (suc k)) from ≡ l ∷ rest → Holds w s links → Homes w s links → (o : Option SiteState) → slice_get s.sites k ≡ o →
      suc (suc k) < w.sites + 2 → Homes w (hear_at w s k from l o).0 (moved links (suc (suc k)) from (session_of (hear_at w s k from l o).0 (suc (suc k))) clock rest (hear_at w s k from l o).1)
  at_home s links k from clock l rest below front holds homes None none inside = absurd (nobody s.sites k none (let long = holds.long in omega (arith, inside, long)))
    where
      nobody : (xs : List SiteState) (k : ℕ) → slice_get xs k ≡ None → k < length xs → ⊥
      nobody [] k q below = omega (arith, below)
      nobody (x ∷ xs) zero q below = cc q
      nobody (x ∷ xs) (suc k) q below = nobody xs k q (omega (arith, below))
  at_home s links k from clock l rest below front holds homes (Some state) here inside =
      let turn = hear_site w state from l in
      let place : suc (suc k) ≡ k + 2 = omega arith in
      let stepped = site_homes w s links from clock l rest below holds homes k (ap (λ c. link links c from) (sym place) ∙ front) state here in
      let same = ap (λ (o : Option SiteState). option_map_or (λ (state : SiteState). state.session) o 0) (get_set s.sites k turn.state (get_below s.sites k state here)) in
      subst (λ n. Homes w (record s { sites = slice_set s.sites k turn.state }) (moved links (suc (suc k)) from n clock rest turn.outs)) (sym same)
      (subst (λ c. Homes w (record s { sites = slice_set s.sites k turn.state }) (moved links c from turn.state.session clock rest turn.outs)) (sym place) stepped)

  hear_home : (s : Servers) (links : List (List (List Letter))) (server from clock : ℕ) (l : Letter) (rest : List Letter) → link links server from ≡ l ∷ rest → Holds w s links → Homes w s links →
      Homes w (hear w s server from l).0 (moved links server from (session_of (hear w s server from l).0 server) clock rest (hear w s server from l).1)
  hear_home s links zero from clock l rest front holds homes = monitor_homes w s links from clock l rest (from_below (w.sites + 2) links 0 from l rest holds.square front) holds homes (hear_monitor w s.fired from l).state (hear_monitor w s.fired from l).outs
  hear_home s links (suc zero) from clock l rest front holds homes = sequencer_homes w s links from clock l rest (from_below (w.sites + 2) links 1 from l rest holds.square front) holds homes
  hear_home s links (suc (suc k)) from clock l rest front holds homes =
      at_home s links k from clock l rest (from_below (w.sites + 2) links (suc (suc k)) from l rest holds.square front) front holds homes (slice_get s.sites k) refl (server_below (w.sites + 2) links (suc (suc k)) from l rest holds.square front)

  pub front_home : (s : World) (server from : ℕ) (queue : List Letter) → link s.links server from ≡ queue → sessions.Reached w s → AtHome s → AtHome (take_front w s server from queue)
  front_home s server from [] q r h = h
  front_home s server from (l ∷ rest) q r h = hear_home s.servers s.links server from (1 + max (slice_index s.clocks server) l.clock) l rest q r h

  picks_home : (s : World) (ps : List Pick) → sessions.Reached w s → AtHome s → AtHome (fold (pick w) s ps)
  picks_home s [] r h = h
  picks_home s (p ∷ ps) r h = picks_home (pick w s p) ps (sessions.front_reached w s p.server p.from (link s.links p.server p.from) refl r) (front_home s p.server p.from (link s.links p.server p.from) refl r h)

  pub open_home : AtHome (open_world w)
  open_home k state q =
      let one = first_state w 1 w.sites k state q in
      let place : site (1 + k) ≡ site (k + 1) = ap site (let e : 1 + k ≡ k + 1 = omega arith in e) in
      let notes = first_notes w 1 w.sites k state q in
      subst (λ x. Housed w k x (link (open_world w).links (k + 2) 1)) one
      (subst (λ s. Housed w k (first_site w s) (link (open_world w).links (k + 2) 1)) (sym place)
      (record {
        place = refl;
        running = tt;
        ascend = tt;
        next = inl refl;
        notes = subst (AreTold w (site (k + 1))) (sym (ap (λ c. link (open_world w).links c 1) (server k) ∙ notes ∙ ap (λ s. first_letter w s ∷ []) place)) ((following_is w (site (k + 1)) 0).0, tt);
      }))
    where
      server : (k : ℕ) → k + 2 ≡ suc (suc k)
      server k = omega arith

  at_homes : (schedule : List Pick) → AtHome (run w schedule)
  at_homes schedule = picks_home (open_world w) schedule (sessions.open_reached w) open_home

  pub run_home : (schedule : List Pick) (k : ℕ) (s : SiteState) → slice_get (run w schedule).servers.sites k ≡ Some s → RunsOwn w k s
  run_home schedule k s here = (let h = at_homes schedule k s here in record { own = own_of w k s.running h.running; once = h.ascend })
