-- What holds of every reached world: no site is told of itself that it is up again, and all programs stand where their answers lead.
use Rattle.std.proofs.Common.{◌≡◌, ℕ, zero, suc, ◌+◌, ◌<◌, ◌==◌, Bool, true, false, ◌&&◌, ◌||◌, List, [], ◌∷◌, map, fold, replicate, Option, Some, None, arith, sym, ap, subst, ◌∙◌, refl}
use Rattle.std.specs.Prelude.{max, slice_get, slice_set, slice_index, slice_index_or}
use Rattle.std.specs.List.{AllByRecursion, list_all}
use Rattle.std.proofs.lemmas.Bool.{and_parts, true≢false}
use Rattle.raid_base.specs.declared.names.Site.{Site}
use Rattle.raid_base.specs.Sites.{site}
use Rattle.raid_workload.specs.declared.workload.Workload.{Workload}
use Rattle.raid_workload.specs.Parts.{count_from, sites}
use Rattle.raid_message.specs.declared.letter.Message.{Message}
use Rattle.raid_message.specs.declared.letter.Message.TheVariants as letters
use Rattle.raid_message.specs.declared.letter.Letter.{Letter}
use Rattle.raid_message.specs.declared.letter.Pick.{Pick}
use Rattle.raid_steps.specs.State.{Out, SiteState}
use Rattle.raid_steps.specs.Site.{hear_site}
use Rattle.raid_steps.specs.Table.{is_site_number, is_order, is_news, is_farewell, is_request, is_exchange, may_monitor, may_site}
use Rattle.raid_steps.specs.World.{World, Servers, hear, hear_at, session_of, link, set_link, post, take_front, pick, run, open_world, first_site, first_links}
use Rattle.raid_steps.proofs.Addressed.{hear_right}
use Rattle.raid_known.proofs.Entries.{all_push}
use Rattle.raid_known.proofs.Reached.{Reached, all_at, all_empty, sender, front_reached, open_reached}
use Rattle.raid_stands.specs.Stands.{AreStanding, IsOfAnother}
use Rattle.raid_stands.proofs.Notes.{AllRight, sequencer_right}
use Rattle.raid_stands.proofs.Sites.{still_there, site_stands}

-- what holds at each place still does where another element is put
set_at : {X : Type 0} (P : ℕ → X → Type 0) (xs : List X) (k : ℕ) (y d : X) → ((j : ℕ) → P j (slice_index_or xs j d)) → P k y → (j : ℕ) → P j (slice_index_or (slice_set xs k y) j d)
set_at P [] k y d all h j = all j
set_at P (x ∷ xs) zero y d all h zero = h
set_at P (x ∷ xs) zero y d all h (suc j) = all (suc j)
set_at P (x ∷ xs) (suc k) y d all h zero = all zero
set_at P (x ∷ xs) (suc k) y d all h (suc j) = set_at (λ i. P (suc i)) xs k y d (λ i. all (suc i)) h j

-- what the monitor and the sites may send tells nobody that a site is up again
order_plain : (m : Message) → is_news m || is_order m ≡ true → (n : ℕ) → IsOfAnother n m
order_plain (letters.UpNote s k) q n = absurd (true≢false (sym q))
order_plain other q n = tt

word_plain : (m : Message) → (is_farewell m || is_request m) || is_exchange m ≡ true → (n : ℕ) → IsOfAnother n m
word_plain (letters.UpNote s k) q n = absurd (true≢false (sym q))
word_plain other q n = tt

first_or : (a b c d : Bool) → (a && b) || (c && d) ≡ true → b || d ≡ true
first_or a true c d q = refl
first_or true false true true q = refl
first_or true false true false q = absurd (true≢false (sym q))
first_or true false false d q = absurd (true≢false (sym q))
first_or false false true true q = refl
first_or false false true false q = absurd (true≢false (sym q))
first_or false false false d q = absurd (true≢false (sym q))

three_or : (a b c d e f : Bool) → ((a && b) || (c && d)) || (e && f) ≡ true → (b || d) || f ≡ true
three_or a true c d e f q = refl
three_or a false c true e f q = refl
three_or a false c false e true q = refl
three_or true false true false true false q = absurd (true≢false (sym q))
three_or true false true false false false q = absurd (true≢false (sym q))
three_or true false false false true false q = absurd (true≢false (sym q))
three_or true false false false false false q = absurd (true≢false (sym q))
three_or false false true false true false q = absurd (true≢false (sym q))
three_or false false true false false false q = absurd (true≢false (sym q))
three_or false false false false true false q = absurd (true≢false (sym q))
three_or false false false false false false q = absurd (true≢false (sym q))

module _ (w : Workload) where
  monitor_sends : (outs : List Out) → list_all (may_monitor w) outs ≡ true → AllRight outs
  monitor_sends [] q = tt
  monitor_sends (out ∷ outs) q =
      let both = and_parts (may_monitor w out) (list_all (may_monitor w) outs) q in
      (order_plain out.2 (first_or (out.0 == 1) (is_news out.2) (is_site_number w out.0) (is_order out.2) both.0) out.0, monitor_sends outs both.1)

  site_sends : (outs : List Out) → list_all (may_site w) outs ≡ true → AllRight outs
  site_sends [] q = tt
  site_sends (out ∷ outs) q =
      let both = and_parts (may_site w out) (list_all (may_site w) outs) q in
      (word_plain out.2 (three_or (out.0 == 0) (is_farewell out.2) (out.0 == 1) (is_request out.2) (is_site_number w out.0) (is_exchange out.2) both.0) out.0, site_sends outs both.1)

  hear_sends : (s : Servers) (server from : ℕ) (l : Letter) → from < w.sites + 2 → AllRight (hear w s server from l).1
  hear_sends s zero from l below = monitor_sends (hear w s zero from l).1 (hear_right w s zero from l below)
  hear_sends s (suc zero) from l below = sequencer_right w s.sequencer from l
  hear_sends s (suc (suc k)) from l below = site_sends (hear w s (suc (suc k)) from l).1 (hear_right w s (suc (suc k)) from l below)

  -- the letters on their way to a server
  abbrev QueueRight : ℕ → List Letter → Type 0
  QueueRight server queue = AllByRecursion (λ (l : Letter). IsOfAnother server l.message) queue

  abbrev RowRight : ℕ → List (List Letter) → Type 0
  RowRight server row = (from : ℕ) → QueueRight server (slice_index_or row from [])

  abbrev LinksRight : List (List (List Letter)) → Type 0
  LinksRight links = (server : ℕ) → RowRight server (slice_index_or links server [])

  set_right : (links : List (List (List Letter))) (a b : ℕ) (queue : List Letter) → LinksRight links → QueueRight a queue → LinksRight (set_link links a b queue)
  set_right links a b queue h q =
      set_at RowRight links a (slice_set (slice_index_or links a []) b queue) [] h (set_at (λ from queue. QueueRight a queue) (slice_index_or links a []) b queue [] (h a) q)

  posts_right : (server session clock : ℕ) (outs : List Out) (links : List (List (List Letter))) → AllRight outs → LinksRight links → LinksRight (fold (post server session clock) links outs)
  posts_right server session clock [] links a h = h
  posts_right server session clock (out ∷ outs) links a h =
      posts_right server session clock outs (post server session clock links out) a.1
      (set_right links out.0 server _ h (all_push (λ (l : Letter). IsOfAnother out.0 l.message) (link links out.0 server) (record { clock = clock; from = session; to = out.1; message = out.2 }) (h out.0 server) a.0))

  -- the sites, the first of them at this place, counted from 0
  abbrev SitesStand : ℕ → List SiteState → Type 0
  SitesStand k [] = Unit {0}
  SitesStand k (s ∷ ss) = (s.site.0 + 1 ≡ k + 2) × AreStanding w s × SitesStand (k + 1) ss

  site_there : (first : ℕ) (ss : List SiteState) (k : ℕ) (state : SiteState) → SitesStand first ss → slice_get ss k ≡ Some state → (state.site.0 + 1 ≡ first + k + 2) × AreStanding w state
  site_there first [] k state a q = absurd (cc q)
  site_there first (s ∷ ss) zero state a q = let same : s ≡ state = cc q in (ap (λ (z : SiteState). z.site.0 + 1) (sym same) ∙ (let e : s.site.0 + 1 ≡ first + 2 = a.0 in omega (arith, e)), subst (AreStanding w) same a.1)
  site_there first (s ∷ ss) (suc k) state a q = let rest = site_there (first + 1) ss k state a.2 q in ((let e : state.site.0 + 1 ≡ first + 1 + k + 2 = rest.0 in omega (arith, e)), rest.1)

  sites_set : (first : ℕ) (ss : List SiteState) (k : ℕ) (state : SiteState) → SitesStand first ss → state.site.0 + 1 ≡ first + k + 2 → AreStanding w state → SitesStand first (slice_set ss k state)
  sites_set first [] k state a e h = tt
  sites_set first (s ∷ ss) zero state a e h = (omega (arith, e), h, a.2)
  sites_set first (s ∷ ss) (suc k) state a e h = (a.0, a.1, sites_set (first + 1) ss k state a.2 (omega (arith, e)) h)

  at_stands : (s : Servers) (k from : ℕ) (l : Letter) (o : Option SiteState) → slice_get s.sites k ≡ o → IsOfAnother (suc (suc k)) l.message → SitesStand 0 s.sites → SitesStand 0 (hear_at w s k from l o).0.sites
  at_stands s k from l None q other h = h
  at_stands s k from l (Some state) q other h =
      let there = site_there 0 s.sites k state h q in
      let place : state.site.0 + 1 ≡ suc (suc k) = (let e : state.site.0 + 1 ≡ 0 + k + 2 = there.0 in omega (arith, e)) in
      let mine : IsOfAnother (state.site.0 + 1) l.message = subst (λ n. IsOfAnother n l.message) (sym place) other in
      sites_set 0 s.sites k (hear_site w state from l).state h (ap (λ (z : Site). z.0 + 1) (still_there w state from l mine there.1) ∙ there.0) (site_stands w state from l mine there.1)

  hear_stands : (s : Servers) (server from : ℕ) (l : Letter) → IsOfAnother server l.message → SitesStand 0 s.sites → SitesStand 0 (hear w s server from l).0.sites
  hear_stands s zero from l other h = h
  hear_stands s (suc zero) from l other h = h
  hear_stands s (suc (suc k)) from l other h = at_stands s k from l (slice_get s.sites k) refl other h

  -- the worlds
  record WorldStands (s : World) : Type 0 where
    reached : Reached w s
    letters : LinksRight s.links
    programs : SitesStand 0 s.servers.sites

  front_stands : (s : World) (server from : ℕ) (queue : List Letter) → link s.links server from ≡ queue → QueueRight server queue → WorldStands s → WorldStands (take_front w s server from queue)
  front_stands s server from [] q a r = r
  front_stands s server from (l ∷ rest) q a r = record {
    reached = front_reached w s server from (l ∷ rest) q r.reached;
    letters = posts_right server (session_of (hear w s.servers server from l).0 server) (1 + max (slice_index s.clocks server) l.clock) (hear w s.servers server from l).1 (set_link s.links server from rest)
        (hear_sends s.servers server from l (sender w s.links server from l rest r.reached.narrow q)) (set_right s.links server from rest r.letters a.1);
    programs = hear_stands s.servers server from l a.0 r.programs;
  }

  picks_stand : (s : World) (ps : List Pick) → WorldStands s → WorldStands (fold (pick w) s ps)
  picks_stand s [] r = r
  picks_stand s (p ∷ ps) r = picks_stand (pick w s p) ps (front_stands s p.server p.from (link s.links p.server p.from) refl (r.letters p.server p.from) r)

  -- the start
  abbrev QueuePlain : List Letter → Type 0
  QueuePlain queue = (server : ℕ) → QueueRight server queue

  abbrev RowPlain : List (List Letter) → Type 0
  RowPlain row = AllByRecursion QueuePlain row

  empty_plain : (n : ℕ) → RowPlain (replicate n [])
  empty_plain n = all_empty QueuePlain n [] (λ server. tt)

  rows_plain : (ss : List Site) → AllByRecursion RowPlain (map (first_links w) ss)
  rows_plain [] = tt
  rows_plain (s ∷ ss) = (((λ server. tt), ((λ server. (tt, tt)), empty_plain w.sites)), rows_plain ss)

  open_right : LinksRight (open_world w).links
  open_right server from =
      all_at QueuePlain (slice_index_or (open_world w).links server []) from []
      (all_at RowPlain (open_world w).links server [] (empty_plain (w.sites + 2), (empty_plain (w.sites + 2), rows_plain (sites w))) tt) (λ server. tt) server

  sites_stand : (k n : ℕ) → SitesStand k (map (first_site w) (map site (count_from (k + 1) n)))
  sites_stand k zero = tt
  sites_stand k (suc n) = (omega arith, tt, sites_stand (k + 1) n)

  open_stands : WorldStands (open_world w)
  open_stands = record { reached = open_reached w; letters = open_right; programs = sites_stand 0 w.sites }

  all_stand : (k : ℕ) (ss : List SiteState) → SitesStand k ss → AllByRecursion (AreStanding w) ss
  all_stand k [] a = tt
  all_stand k (s ∷ ss) a = (a.1, all_stand (k + 1) ss a.2)

  reaches : (schedule : List Pick) → WorldStands (run w schedule)
  reaches schedule = picks_stand (open_world w) schedule open_stands

  pub runs_stand : (schedule : List Pick) → AllByRecursion (AreStanding w) (run w schedule).servers.sites
  runs_stand schedule = all_stand 0 (run w schedule).servers.sites (reaches schedule).programs

  pub runs_tell : (schedule : List Pick) (server from : ℕ) → AllByRecursion (λ (l : Letter). IsOfAnother server l.message) (link (run w schedule).links server from)
  runs_tell schedule = (reaches schedule).letters
