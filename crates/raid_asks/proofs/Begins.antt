-- In every reached world, the Begin of each program that runs is on its way exactly where the history hasn't it.
use Rattle.std.proofs.Common.{◌≡◌, ℕ, zero, suc, ◌+◌, ◌<◌, ◌≤◌, ◌==◌, nat_lt, Bool, true, false, not, ◌&&◌, ◌||◌, List, [], ◌∷◌, ◌++◌, length, fold, replicate, Some, Option, None, if◌then◌else◌, inl, arith, sym, subst, ap, ◌∙◌, refl}
use Rattle.std.specs.Prelude.{max, slice_get, slice_set, slice_index, slice_index_or}
use Rattle.std.specs.List.{AllByRecursion}
use Rattle.std.specs.Option.{option_map_or}
use Rattle.raid_base.specs.declared.names.Txn.{Txn}
use Rattle.raid_base.specs.declared.names.Site.{Site}
use Rattle.raid_base.specs.Names.{is_txn, has_txn}
use Rattle.raid_base.specs.Sites.{site}
use Rattle.raid_workload.specs.declared.workload.Workload.{Workload}
use Rattle.raid_rules.specs.History.{noted, has_begun}
use Rattle.raid_message.specs.declared.letter.Message.{Message}
use Rattle.raid_message.specs.declared.letter.Message.TheVariants as letters
use Rattle.raid_message.specs.declared.letter.Letter.{Letter}
use Rattle.raid_message.specs.declared.letter.Pick.{Pick}
use Rattle.raid_steps.specs.State.{Running, SiteState}
use Rattle.raid_steps.specs.Monitor.{hear_monitor}
use Rattle.raid_steps.specs.Programs.{following}
use Rattle.raid_steps.specs.Site.{hear_site}
use Rattle.raid_steps.specs.World.{World, Servers, hear, hear_at, session_of, link, take_front, pick, run, open_world, first_letter, first_site}
use Rattle.raid_sessions.proofs.Holds.{Holds}
use Rattle.raid_sessions.proofs.Lists.{get_below, get_set, is_same}
use Rattle.raid_sessions.proofs.Mail.{moved}
use Rattle.raid_sessions.proofs.Reached as sessions
use Rattle.raid_sessions.proofs.Reached.{from_below, server_below}
use Rattle.raid_asks.specs.Way as way
use Rattle.raid_asks.specs.Way.{is_on_its_way, HaveBegun}
use Rattle.std.proofs.lemmas.Bool.{true≢false}
use Rattle.raid_base.specs.declared.entry.Noted.{Noted}
use Rattle.raid_legal.specs.Seen.{is_up}
use Rattle.raid_sessions.specs.Present.{last_told}
use Rattle.raid_asks.proofs.Begun.{begins_now}
use Rattle.raid_asks.proofs.Cares.{Stage, stopped, asleep, fresh, awake, Cares}
use Rattle.raid_asks.proofs.Homes.{Homes}
use Rattle.raid_asks.proofs.Least.{following_is, known_txn}
use Rattle.raid_asks.proofs.Line.{IsAfter, Line, Counts, FineAt}
use Rattle.raid_asks.proofs.Reached.{first_state, first_notes, front_home, open_home}
use Rattle.raid_asks.proofs.Waits.{is_there, Waits, monitor_waits, sequencer_waits, site_waits}
use Rattle.raid_asks.specs.Way.{begun_by, begins_of as begins}

-- the letters say so
way_is : (m : ℕ) (t : Txn) (ls : List Letter) → is_on_its_way m t ls ≡ has_txn (begins m ls) t
way_is m t [] = refl
way_is m t (l ∷ ls) = go (l.from == m) l.message (way_is m t ls)
  where
    go : (b : Bool) (message : Message) → is_on_its_way m t ls ≡ has_txn (begins m ls) t → ((b && way.begins t message) || is_on_its_way m t ls) ≡ has_txn (if b then begun_by message ++ begins m ls else begins m ls) t
    go true (letters.Begin u) q = ap (λ b. is_txn t u || b) q
    go true other q = q
    go false message q = q

module _ (w : Workload) where
  same_long : (n : ℕ) → length {A = ℕ} (replicate n 1) ≡ n
  same_long zero = refl
  same_long (suc n) = ap suc (same_long n)

  empty_at : (n k : ℕ) → slice_index_or (replicate {A = List Letter} n []) k [] ≡ []
  empty_at zero k = refl
  empty_at (suc n) zero = refl
  empty_at (suc n) (suc k) = empty_at n k

  waits_at : (s : Servers) (links : List (List (List Letter))) (k from clock : ℕ) (l : Letter) (rest : List Letter) → from < w.sites + 2 → link links (suc (suc k)) from ≡ l ∷ rest → Holds w s links → Homes w s links → Waits w s links → (o : Option SiteState) → slice_get s.sites k ≡ o →
      suc (suc k) < w.sites + 2 → Waits w (hear_at w s k from l o).0 (moved links (suc (suc k)) from (session_of (hear_at w s k from l o).0 (suc (suc k))) clock rest (hear_at w s k from l o).1)
  waits_at s links k from clock l rest below front holds homes waits None none inside = absurd (nobody s.sites k none (let long = holds.long in omega (arith, inside, long)))
    where
      nobody : (xs : List SiteState) (k : ℕ) → slice_get xs k ≡ None → k < length xs → ⊥
      nobody [] k q below = omega (arith, below)
      nobody (x ∷ xs) zero q below = cc q
      nobody (x ∷ xs) (suc k) q below = nobody xs k q (omega (arith, below))
  waits_at s links k from clock l rest below front holds homes waits (Some state) here inside =
      let turn = hear_site w state from l in
      let place : suc (suc k) ≡ k + 2 = omega arith in
      let stepped = site_waits w s links from clock l rest below holds homes waits k (ap (λ c. link links c from) (sym place) ∙ front) state here in
      let same = ap (λ (o : Option SiteState). option_map_or (λ (state : SiteState). state.session) o 0) (get_set s.sites k turn.state (get_below s.sites k state here)) in
      subst (λ n. Waits w (record s { sites = slice_set s.sites k turn.state }) (moved links (suc (suc k)) from n clock rest turn.outs)) (sym same)
      (subst (λ c. Waits w (record s { sites = slice_set s.sites k turn.state }) (moved links c from turn.state.session clock rest turn.outs)) (sym place) stepped)

  hear_waits : (s : Servers) (links : List (List (List Letter))) (server from clock : ℕ) (l : Letter) (rest : List Letter) → link links server from ≡ l ∷ rest → Holds w s links → Homes w s links → Waits w s links →
      Waits w (hear w s server from l).0 (moved links server from (session_of (hear w s server from l).0 server) clock rest (hear w s server from l).1)
  hear_waits s links zero from clock l rest front holds homes waits = monitor_waits w s links from clock l rest (from_below (w.sites + 2) links 0 from l rest holds.square front) holds homes waits (hear_monitor w s.fired from l).state (hear_monitor w s.fired from l).outs
  hear_waits s links (suc zero) from clock l rest front holds homes waits = sequencer_waits w s links from clock l rest (from_below (w.sites + 2) links 1 from l rest holds.square front) holds homes waits front
  hear_waits s links (suc (suc k)) from clock l rest front holds homes waits =
      waits_at s links k from clock l rest (from_below (w.sites + 2) links (suc (suc k)) from l rest holds.square front) front holds homes waits (slice_get s.sites k) refl (server_below (w.sites + 2) links (suc (suc k)) from l rest holds.square front)

  abbrev pub All : World → Type 0
  All s = sessions.Reached w s × (Homes w s.servers s.links × Waits w s.servers s.links)

  front_all : (s : World) (server from : ℕ) (queue : List Letter) → link s.links server from ≡ queue → All s → All (take_front w s server from queue)
  front_all s server from [] q a = a
  front_all s server from (l ∷ rest) q a =
      (sessions.front_reached w s server from (l ∷ rest) q a.0, (front_home w s server from (l ∷ rest) q a.0 a.1.0, hear_waits s.servers s.links server from (1 + max (slice_index s.clocks server) l.clock) l rest q a.0 a.1.0 a.1.1))

  picks_all : (s : World) (ps : List Pick) → All s → All (fold (pick w) s ps)
  picks_all s [] a = a
  picks_all s (p ∷ ps) a = picks_all (pick w s p) ps (front_all s p.server p.from (link s.links p.server p.from) refl a)

  open_counts : (s : Site) → Counts w s [] [] (following w s 0)
  open_counts s = ((following_is w s 0).0, λ t f. sym ((following_is w s 0).1 t f ∙ ap not (some t.0 (known_txn w t f.ours.known).0)))
    where
      some : (n : ℕ) → 1 ≤ n → nat_lt 0 n ≡ true
      some n q = grind (arith, q)

  open_waits : Waits w (open_world w).servers (open_world w).links
  open_waits k state q =
      let one = first_state w 1 w.sites k state q in
      let place : site (1 + k) ≡ site (k + 1) = ap site (let e : 1 + k ≡ k + 1 = omega arith in e) in
      let notes = ap (λ c. link (open_world w).links c 1) (server k) ∙ first_notes w 1 w.sites k state q ∙ ap (λ s. first_letter w s ∷ []) place in
      subst (λ x. Cares w k [] x (link (open_world w).links 1 (k + 2)) (link (open_world w).links (k + 2) 1)) one
      (subst (λ s. Cares w k [] (first_site w s) (link (open_world w).links 1 (k + 2)) (link (open_world w).links (k + 2) 1)) (sym place)
      (subst (λ ls. Cares w k [] (first_site w (site (k + 1))) ls (link (open_world w).links (k + 2) 1)) (sym (empty_at (w.sites + 2) (k + 2)))
      (subst (λ ls. Cares w k [] (first_site w (site (k + 1))) [] ls) (sym notes)
      (record { sent = tt; known = tt; stage = fresh refl refl refl refl refl (inl (refl, (is_same (length {A = ℕ} (replicate w.sites 1)) w.sites (same_long w.sites), (open_counts (site (k + 1)), tt)))) }))))
    where
      server : (k : ℕ) → k + 2 ≡ suc (suc k)
      server k = omega arith

  pub reached_all : (schedule : List Pick) → All (run w schedule)
  reached_all schedule = picks_all (open_world w) schedule (sessions.open_reached w, (open_home w, open_waits))

  pub run_begun : (schedule : List Pick) (k : ℕ) (s : SiteState) → slice_get (run w schedule).servers.sites k ≡ Some s → HaveBegun (run w schedule) k s
  run_begun schedule k s here = go ((reached_all schedule).1.1 k s here).stage
    where
      ways : (rs : List Running) → AllByRecursion (λ (r : Running). FineAt w (site (k + 1)) (noted (run w schedule).servers.sequencer.history) (begins s.session (link (run w schedule).links 1 (k + 2))) r.txn) rs →
          AllByRecursion (λ (r : Running). is_on_its_way s.session r.txn (link (run w schedule).links 1 (k + 2)) ≡ not (has_begun (noted (run w schedule).servers.sequencer.history) r.txn)) rs
      ways [] a = tt
      ways (r ∷ rs) a = (way_is s.session r.txn (link (run w schedule).links 1 (k + 2)) ∙ a.0.1, ways rs a.1)

      none : s.running ≡ [] → HaveBegun (run w schedule) k s
      none r = subst (λ rs. AllByRecursion (λ (r : Running). is_on_its_way s.session r.txn (link (run w schedule).links 1 (k + 2)) ≡ not (has_begun (noted (run w schedule).servers.sequencer.history) r.txn)) rs) (sym r) tt

      go : Stage w k (noted (run w schedule).servers.sequencer.history) s.up s.session s.running s.next (begins s.session (link (run w schedule).links 1 (k + 2))) (link (run w schedule).links (k + 2) 1) → HaveBegun (run w schedule) k s
      go (stopped d r n) = none r
      go (asleep u l r n b) = none r
      go (fresh u l r n b e) = none r
      go (awake u l f c) = ways s.running f

  absent : (s : Site) (p : List Noted) (t : Txn) (us : List Txn) → AllByRecursion (IsAfter w s p t) us → has_txn us t ≡ false
  absent s p t [] a = refl
  absent s p t (u ∷ us) a = ap (λ b. b || has_txn us t) (turned t.0 u.0 a.0.0) ∙ absent s p t us a.1
    where
      turned : (a b : ℕ) → (a == b) ≡ false → (b == a) ≡ false
      turned a b q = grind (arith, q)

  line_new : (s : Site) (p : List Noted) (bs : List Txn) → Line w s p bs → way.AreNew p bs
  line_new s p [] l = tt
  line_new s p (t ∷ bs) l = ((l.0.fresh, absent s p t bs l.1.0), line_new s p bs l.1.1)

  first_may : (s : Site) (p : List Noted) (bs : List Txn) (n : ℕ) → is_up w p s ≡ true → Line w s p bs → Counts w s p bs n → way.FirstMay w p bs
  first_may s p [] n up l c = tt
  first_may s p (t ∷ bs) n up l c = begins_now w s p t bs n l c up

  pub run_turn : (schedule : List Pick) (k : ℕ) (s : SiteState) → slice_get (run w schedule).servers.sites k ≡ Some s → s.up ≡ true → last_told (run w schedule) k ≡ s.session → way.WaitInTurn w (run w schedule) k s
  run_turn schedule k s here up present = go ((reached_all schedule).1.1 k s here).stage
    where
      in_turn : (bs : List Txn) → begins s.session (link (run w schedule).links 1 (k + 2)) ≡ bs → way.AreNew (noted (run w schedule).servers.sequencer.history) bs → way.FirstMay w (noted (run w schedule).servers.sequencer.history) bs → way.WaitInTurn w (run w schedule) k s
      in_turn bs q n f = record { new = subst (way.AreNew (noted (run w schedule).servers.sequencer.history)) (sym q) n; first = subst (way.FirstMay w (noted (run w schedule).servers.sequencer.history)) (sym q) f }

      go : Stage w k (noted (run w schedule).servers.sequencer.history) s.up s.session s.running s.next (begins s.session (link (run w schedule).links 1 (k + 2))) (link (run w schedule).links (k + 2) 1) → way.WaitInTurn w (run w schedule) k s
      go (stopped d r n) = absurd (true≢false (sym up ∙ d))
      go (asleep u l r n b) = absurd (let e = present in omega (arith, e, l))
      go (fresh u l r n b e) = in_turn [] b tt tt
      go (awake u l f c) =
          in_turn (begins s.session (link (run w schedule).links 1 (k + 2))) refl (line_new (site (k + 1)) (noted (run w schedule).servers.sequencer.history) (begins s.session (link (run w schedule).links 1 (k + 2))) c.line)
          (first_may (site (k + 1)) (noted (run w schedule).servers.sequencer.history) (begins s.session (link (run w schedule).links 1 (k + 2))) s.next (is_there w (run w schedule).servers (run w schedule).links (reached_all schedule).0 k s here up l) c.line c.counts)
