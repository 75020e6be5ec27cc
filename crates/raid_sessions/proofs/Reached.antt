-- In every reached world, the stops and returns that the history tells of were due.
use Rattle.std.proofs.Common.{◌≡◌, ℕ, zero, suc, ◌+◌, ◌-◌, ◌<◌, ◌≤◌, nat_lt, Bool, true, false, List, [], ◌∷◌, length, map, fold, replicate, Option, Some, None, arith, sym, subst, ap, ◌∙◌, refl}
use Rattle.std.specs.Prelude.{max, slice_get, slice_set, slice_index, slice_index_or}
use Rattle.std.specs.List.{AllByRecursion}
use Rattle.std.specs.Option.{option_map_or}
use Rattle.raid_base.specs.declared.names.Site.{Site}
use Rattle.raid_base.specs.Sites.{session, site}
use Rattle.raid_workload.specs.declared.workload.Workload.{Workload}
use Rattle.raid_workload.specs.Parts.{sites, count_from}
use Rattle.raid_message.specs.declared.letter.Letter.{Letter}
use Rattle.raid_message.specs.declared.letter.Pick.{Pick}
use Rattle.raid_steps.specs.State.{SiteState}
use Rattle.raid_steps.specs.Site.{hear_site}
use Rattle.raid_steps.specs.World.{World, Servers, hear, hear_at, session_of, link, take_front, pick, run, open_world, first_links, first_site}
use Rattle.raid_steps.proofs.Parts.{number_known}
use Rattle.raid_placed.proofs.Opening.{opening_placed, opening_quiet}
use Rattle.raid_sessions.specs.Due.{AreDue}
use Rattle.raid_sessions.proofs.AtSequencer.{sequencer_holds}
use Rattle.raid_sessions.proofs.AtSites.{site_spoke, site_holds}
use Rattle.raid_sessions.proofs.Holds.{last_of, IsHeard, IsSpoken, LivesIn, Holds, lives_is, monitor_holds}
use Rattle.raid_sessions.proofs.Timely.{ArePast, IsNote}
use Rattle.raid_sessions.proofs.Lists.{get_below, get_set}
use Rattle.raid_sessions.proofs.Ledger.{opening_session, opening_ledger}
use Rattle.raid_sessions.proofs.Mail.{AreSquare, moved}
use Rattle.raid_sessions.proofs.Sessions.{Lives}
use Rattle.raid_sessions.proofs.Site.{site_step}

-- a letter stands on a link that there is
past : {X : Type 0} (xs : List X) (k : ℕ) (d : X) → length xs ≤ k → slice_index_or xs k d ≡ d
past [] k d le = refl
past (x ∷ xs) zero d le = absurd (omega (arith, le))
past (x ∷ xs) (suc k) d le = past xs k d (omega (arith, le))

all_or : {X : Type 0} (P : X → Type 0) (xs : List X) (k : ℕ) (d : X) → AllByRecursion P xs → P d → P (slice_index_or xs k d)
all_or P [] k d a h = h
all_or P (x ∷ xs) zero d a h = a.0
all_or P (x ∷ xs) (suc k) d a h = all_or P xs k d a.1 h

narrow : (n : ℕ) (links : List (List (List Letter))) → AllByRecursion (λ (row : List (List Letter)). length row ≡ n) links → AllByRecursion (λ (row : List (List Letter)). length row ≤ n) links
narrow n [] a = tt
narrow n (row ∷ links) a = ((let q = a.0 in omega (arith, q)), narrow n links a.1)

-- a link from beyond the last server is empty
pub no_link : (n : ℕ) (links : List (List (List Letter))) (server from : ℕ) → AreSquare n links → n ≤ from → link links server from ≡ []
no_link n links server from square beyond =
    let short = all_or (λ (row : List (List Letter)). length row ≤ n) links server [] (narrow n links square.wide) (omega arith) in
    past (slice_index_or links server []) from [] (omega (arith, beyond, short))

no_letter : (l : Letter) (rest : List Letter) → [] ≡ l ∷ rest → ⊥
no_letter l rest q = cc q

lt_is : (a b : ℕ) → nat_lt a b ≡ true → a < b
lt_is a b q = grind (arith, q)

lt_or : (a b : ℕ) → nat_lt a b ≡ false → b ≤ a
lt_or a b q = grind (arith, q)

module _ (n : ℕ) (links : List (List (List Letter))) (server from : ℕ) (l : Letter) (rest : List Letter) (square : AreSquare n links) (front : link links server from ≡ l ∷ rest) where
  row_short : length (slice_index_or links server []) ≤ n
  row_short = all_or (λ (row : List (List Letter)). length row ≤ n) links server [] (narrow n links square.wide) (omega arith)

  pub from_below : from < n
  from_below = go (nat_lt from n) refl
    where
      go : (b : Bool) → nat_lt from n ≡ b → from < n
      go true q = lt_is from n q
      go false q = (let beyond = lt_or from n q in let short = row_short in absurd (no_letter l rest (sym (past (slice_index_or links server []) from [] (omega (arith, beyond, short))) ∙ front)))

  pub server_below : server < n
  server_below = go (nat_lt server n) refl
    where
      go : (b : Bool) → nat_lt server n ≡ b → server < n
      go true q = lt_is server n q
      go false q = (let beyond = lt_or server n q in let long = square.long in absurd (no_letter l rest (sym (ap (λ row. slice_index_or row from []) (past links server [] (omega (arith, beyond, long)))) ∙ front)))

module _ (w : Workload) where
  abbrev pub Reached : World → Type 0
  Reached s = Holds w s.servers s.links

  -- a site's step, if there is such a site
  at_reached : (s : Servers) (links : List (List (List Letter))) (k from clock : ℕ) (l : Letter) (rest : List Letter) → from < w.sites + 2 → link links (suc (suc k)) from ≡ l ∷ rest → Holds w s links → (o : Option SiteState) → slice_get s.sites k ≡ o →
      suc (suc k) < w.sites + 2 → Holds w (hear_at w s k from l o).0 (moved links (suc (suc k)) from (session_of (hear_at w s k from l o).0 (suc (suc k))) clock rest (hear_at w s k from l o).1)
  at_reached s links k from clock l rest below front holds None none inside = absurd (nobody s.sites k none (let long = holds.long in omega (arith, inside, long)))
    where
      nobody : (xs : List SiteState) (k : ℕ) → slice_get xs k ≡ None → k < length xs → ⊥
      nobody [] k q below = omega (arith, below)
      nobody (x ∷ xs) zero q below = cc q
      nobody (x ∷ xs) (suc k) q below = nobody xs k q (omega (arith, below))
  at_reached s links k from clock l rest below front holds (Some state) here inside =
      let turn = hear_site w state from l in
      let place : suc (suc k) ≡ k + 2 = omega arith in
      let stepped = site_holds w s links k from clock l rest below (ap (λ c. link links c from) (sym place) ∙ front) holds state here turn (site_step w state from l) (site_spoke w s links k from clock l rest below (ap (λ c. link links c from) (sym place) ∙ front) holds state here) in
      let same = ap (λ (o : Option SiteState). option_map_or (λ (state : SiteState). state.session) o 0) (get_set s.sites k turn.state (get_below s.sites k state here)) in
      subst (λ n. Holds w (record s { sites = slice_set s.sites k turn.state }) (moved links (suc (suc k)) from n clock rest turn.outs)) (sym same)
      (subst (λ c. Holds w (record s { sites = slice_set s.sites k turn.state }) (moved links c from turn.state.session clock rest turn.outs)) (sym place) stepped)

  hear_reached : (s : Servers) (links : List (List (List Letter))) (server from clock : ℕ) (l : Letter) (rest : List Letter) → link links server from ≡ l ∷ rest → Holds w s links →
      Holds w (hear w s server from l).0 (moved links server from (session_of (hear w s server from l).0 server) clock rest (hear w s server from l).1)
  hear_reached s links zero from clock l rest front holds = monitor_holds w s links from clock l rest (from_below (w.sites + 2) links 0 from l rest holds.square front) front holds
  hear_reached s links (suc zero) from clock l rest front holds = sequencer_holds w s links from clock l rest (from_below (w.sites + 2) links 1 from l rest holds.square front) front holds
  hear_reached s links (suc (suc k)) from clock l rest front holds =
      at_reached s links k from clock l rest (from_below (w.sites + 2) links (suc (suc k)) from l rest holds.square front) front holds (slice_get s.sites k) refl (server_below (w.sites + 2) links (suc (suc k)) from l rest holds.square front)

  pub front_reached : (s : World) (server from : ℕ) (queue : List Letter) → link s.links server from ≡ queue → Reached s → Reached (take_front w s server from queue)
  front_reached s server from [] q r = r
  front_reached s server from (l ∷ rest) q r = hear_reached s.servers s.links server from (1 + max (slice_index s.clocks server) l.clock) l rest q r

  picks_reached : (s : World) (ps : List Pick) → Reached s → Reached (fold (pick w) s ps)
  picks_reached s [] r = r
  picks_reached s (p ∷ ps) r = picks_reached (pick w s p) ps (front_reached s p.server p.from (link s.links p.server p.from) refl r)

  -- the start
  same_long : {X : Type 0} (n : ℕ) (x : X) → length (replicate n x) ≡ n
  same_long zero x = refl
  same_long (suc n) x = ap suc (same_long n x)

  map_long : {X Y : Type 0} (f : X → Y) (xs : List X) → length (map f xs) ≡ length xs
  map_long f [] = refl
  map_long f (x ∷ xs) = ap suc (map_long f xs)

  count_long : (first n : ℕ) → length (count_from first n) ≡ n
  count_long first zero = refl
  count_long first (suc n) = ap suc (count_long (first + 1) n)

  sites_long : length (sites w) ≡ w.sites
  sites_long = map_long site (count_from 1 w.sites) ∙ count_long 1 w.sites

  same_at : {X : Type 0} (n k : ℕ) (x : X) → slice_index_or (replicate n x) k x ≡ x
  same_at zero k x = refl
  same_at (suc n) zero x = refl
  same_at (suc n) (suc k) x = same_at n k x

  zero_at : (n k : ℕ) → slice_index (replicate n 0) k ≡ 0
  zero_at n k = same_at n k 0

  rows_wide : (ss : List Site) → AllByRecursion (λ (row : List (List Letter)). length row ≡ w.sites + 2) (map (first_links w) ss)
  rows_wide [] = tt
  rows_wide (s ∷ ss) = ((let e : length {A = List Letter} (replicate w.sites []) ≡ w.sites = same_long w.sites [] in omega (arith, e)), rows_wide ss)

  open_square : AreSquare (w.sites + 2) (open_world w).links
  open_square = record {
    long = (let e = map_long (first_links w) (sites w) in let f = sites_long in omega (arith, e, f));
    wide = (same_long (w.sites + 2) [], (same_long (w.sites + 2) [], rows_wide (sites w)));
  }

  -- no site's link from the monitor has a letter
  first_commands : (ss : List Site) (k : ℕ) → slice_index_or (slice_index_or (map (first_links w) ss) k []) 0 [] ≡ []
  first_commands [] k = refl
  first_commands (s ∷ ss) zero = refl
  first_commands (s ∷ ss) (suc k) = first_commands ss k

  open_commands : (k : ℕ) → link (open_world w).links (k + 2) 0 ≡ []
  open_commands k = ap (λ c. link (open_world w).links c 0) (place k) ∙ first_commands (sites w) k
    where
      place : (k : ℕ) → k + 2 ≡ suc (suc k)
      place k = omega arith

  first_up : (ss : List Site) (k : ℕ) (state : SiteState) → slice_get (map (first_site w) ss) k ≡ Some state → (state.up ≡ true) × (state.session ≡ 1)
  first_up [] k state q = absurd (nothing q) where
    nothing : None ≡ Some state → ⊥
    nothing q = cc q
  first_up (s ∷ ss) zero state q = subst (λ (o : SiteState). (o.up ≡ true) × (o.session ≡ 1)) (same q) (refl, refl) where
    same : Some (first_site w s) ≡ Some state → first_site w s ≡ state
    same q = cc q
  first_up (s ∷ ss) (suc k) state q = first_up ss k state q

  open_lives : (k : ℕ) (state : SiteState) → slice_get (map (first_site w) (sites w)) k ≡ Some state → LivesIn w 0 [] (replicate w.sites 0) (open_world w).links k state
  open_lives k state q =
      let first = first_up (sites w) k state q in
      let below : k < w.sites = (let inside = get_below (map (first_site w) (sites w)) k state q in let e = map_long (first_site w) (sites w) in let f = sites_long in omega (arith, inside, e, f)) in
      let one = opening_session w (site (k + 1)) (number_known w k (omega (arith, below))) in
      let none = zero_at w.sites ((site (k + 1)).0 - 1) in
      subst (λ u. Lives w k u state.session 0 [] (replicate w.sites 0) (link (open_world w).links (k + 2) 0) (link (open_world w).links 0 (k + 2)) (link (open_world w).links 1 (k + 2)) (link (open_world w).links 1 0)) (sym first.0)
      (subst (λ n. Lives w k true n 0 [] (replicate w.sites 0) (link (open_world w).links (k + 2) 0) (link (open_world w).links 0 (k + 2)) (link (open_world w).links 1 (k + 2)) (link (open_world w).links 1 0)) (sym first.1)
      (lives_is w 0 [] (replicate w.sites 0) k true 1 (open_commands k) (same_at (w.sites + 2) (k + 2) []) (same_at (w.sites + 2) (k + 2) []) (same_at (w.sites + 2) 0 [])
      (record { opened = refl; some = tt; sent = tt; closed = none; fallen = λ e. omega (arith, e, one); ahead = λ e. omega (arith, one, none); stops = omega arith; returns = omega arith })))

  -- each site's welcome is for its first session, and tells of no later one
  first_heard : (ss : List Site) (k : ℕ) → AllByRecursion (λ (l : Letter). (l.to ≤ 1) × IsNote w (last_of []) l.message) (slice_index_or (slice_index_or (map (first_links w) ss) k []) 1 [])
  first_heard [] k = tt
  first_heard (s ∷ ss) zero = ((omega arith, λ r known. (let one = opening_session w r known in omega (arith, one))), tt)
  first_heard (s ∷ ss) (suc k) = first_heard ss k

  open_heard : (k : ℕ) → AllByRecursion (IsHeard w (last_of []) k) (link (open_world w).links (k + 2) 1)
  open_heard k = subst (λ c. AllByRecursion (IsHeard w (last_of []) k) (link (open_world w).links c 1)) (place k) (first_heard (sites w) k)
    where
      place : (k : ℕ) → suc (suc k) ≡ k + 2
      place k = omega arith

  -- no site has said anything to another, and none has a vector
  first_silent : (ss : List Site) (k j : ℕ) → slice_index_or (slice_index_or (map (first_links w) ss) k []) (suc (suc j)) [] ≡ []
  first_silent [] k j = refl
  first_silent (s ∷ ss) zero j = same_at w.sites j []
  first_silent (s ∷ ss) (suc k) j = first_silent ss k j

  open_silent : (k j : ℕ) → link (open_world w).links (k + 2) (j + 2) ≡ []
  open_silent k j = ap (λ c. link (open_world w).links c (j + 2)) (place k) ∙ ap (link (open_world w).links (suc (suc k))) (place j) ∙ first_silent (sites w) k j
    where
      place : (k : ℕ) → k + 2 ≡ suc (suc k)
      place k = omega arith

  first_vector : (ss : List Site) (k : ℕ) (state : SiteState) → slice_get (map (first_site w) ss) k ≡ Some state → state.vector ≡ replicate w.sites 0
  first_vector [] k state q = absurd (nothing q) where
    nothing : None ≡ Some state → ⊥
    nothing q = cc q
  first_vector (s ∷ ss) zero state q = subst (λ (o : SiteState). o.vector ≡ replicate w.sites 0) (same q) refl where
    same : Some (first_site w s) ≡ Some state → first_site w s ≡ state
    same q = cc q
  first_vector (s ∷ ss) (suc k) state q = first_vector ss k state q

  open_vectors : (k : ℕ) (state : SiteState) → slice_get (map (first_site w) (sites w)) k ≡ Some state → ArePast w (last_of []) state.vector
  open_vectors k state q r known = (let none = ap (λ v. session v r) (first_vector (sites w) k state q) in let zeros = zero_at w.sites (r.0 - 1) in omega (arith, none, zeros))

  pub open_reached : Reached (open_world w)
  open_reached = record {
    square = open_square;
    long = map_long (first_site w) (sites w) ∙ sites_long;
    announced = same_long w.sites 0;
    placed = opening_placed w;
    quiet = opening_quiet w;
    ledger = opening_ledger w;
    reached = tt;
    fair = subst (AllByRecursion _) (sym (same_at (w.sites + 2) 1 [])) tt;
    heard = λ k below. open_heard k;
    spoken = λ k j below below_too. subst (AllByRecursion (IsSpoken w (last_of []) k j)) (sym (open_silent k j)) tt;
    vectors = open_vectors;
    each = open_lives;
  }

  pub reached : (schedule : List Pick) → Reached (run w schedule)
  reached schedule = picks_reached (open_world w) schedule open_reached

  pub run_due : (schedule : List Pick) → AreDue w (run w schedule).servers.sequencer.history
  run_due schedule = (reached schedule).ledger.due
