-- No site runs more programs than may run at once.
use Rattle.std.proofs.Common.{◌≡◌, ℕ, zero, suc, ◌+◌, ◌≤◌, Bool, true, false, not, ◌||◌, List, [], ◌∷◌, length, filter, fold, map, Option, Some, None, if◌then◌else◌, arith, sym, subst, ap, ◌∙◌, refl}
use Rattle.std.specs.Prelude.{slice_get, slice_set}
use Rattle.std.specs.List.{AllByRecursion, list_any, sum_by}
use Rattle.std.proofs.lemmas.Bool.{true≢false}
use Rattle.std.proofs.lemmas.List.Sums.{sum_by-cons}
use Rattle.raid_base.specs.declared.names.Txn.{Txn}
use Rattle.raid_base.specs.declared.names.Site.{Site}
use Rattle.raid_base.specs.Names.{is_txn}
use Rattle.raid_base.specs.Sites.{site}
use Rattle.raid_program.specs.Run.{put}
use Rattle.raid_workload.specs.declared.workload.Workload.{Workload}
use Rattle.raid_workload.specs.Parts.{count_from}
use Rattle.raid_message.specs.declared.letter.Message.TheVariants as letters
use Rattle.raid_message.specs.declared.letter.Letter.{Letter}
use Rattle.raid_message.specs.declared.letter.Pick.{Pick}
use Rattle.raid_steps.specs.State.{Turn, opened, tell, asking, preparing, sent, Running, SiteState}
use Rattle.raid_steps.specs.Programs.{put_running, with_vote, next_attempt}
use Rattle.raid_steps.specs.Site as rows
use Rattle.raid_steps.specs.World.{Servers, World, first_site, open_world, hear, hear_at, link, take_front, pick, run}
use Rattle.raid_moves.specs.Moves.{Ascend, fresh, drops, Row, Move, passed, next_of}
use Rattle.raid_moves.specs.Moves as parts
use Rattle.raid_moves.proofs.Steps.{step_keeps, goes_put, site_moves, ascend_row, ascend_moves}
use Rattle.raid_moves.proofs.Places.{program_of, length_put}
use Rattle.raid_ends.proofs.Programs.{put_sum}

-- the length of a list as a sum
length_sum : {X : Type 0} (xs : List X) → sum_by (λ x. 1) xs ≡ length xs
length_sum [] = refl
length_sum {X} (x ∷ xs) = let rest = length_sum xs in omega (arith, rest, sum_by-cons (λ (x : X). 1) x xs)

-- a program that takes the place of the one that was found makes no more
put_found_long : (r : Running) (rs : List Running) (old : Running) → Ascend rs → program_of r.txn rs ≡ Some old → length (put_running r rs) ≡ length rs
put_found_long r rs old a q =
    let sum = put_sum (λ r. 1) r rs old a q in
    let before = length_sum rs in
    let after = length_sum (put_running r rs) in
    omega (arith, sum, before, after)

kept_long : (test : Running → Bool) (rs : List Running) → length (filter test rs) ≤ length rs
kept_long test [] = omega arith
kept_long test (r ∷ rs) = go (test r) (kept_long test rs)
  where
    go : (b : Bool) → length (filter test rs) ≤ length rs → length (if b then r ∷ filter test rs else filter test rs) ≤ length (r ∷ rs)
    go true l = omega (arith, l)
    go false l = omega (arith, l)

-- without a transaction that runs there is one less
one_less : (t : Txn) (rs : List Running) → list_any (λ (r : Running). is_txn t r.txn) rs ≡ true → length (filter (λ (r : Running). not (is_txn t r.txn)) rs) + 1 ≤ length rs
one_less t [] q = absurd (true≢false (sym q))
one_less t (r ∷ rs) q = go (is_txn t r.txn) q (one_less t rs) (kept_long (λ (r : Running). not (is_txn t r.txn)) rs)
  where
    left : List Running
    left = filter (λ (r : Running). not (is_txn t r.txn)) rs

    go : (b : Bool) → (b || list_any (λ (r : Running). is_txn t r.txn) rs) ≡ true → (list_any (λ (r : Running). is_txn t r.txn) rs ≡ true → length left + 1 ≤ length rs) → length left ≤ length rs → length (if not b then r ∷ left else left) + 1 ≤ length (r ∷ rs)
    go true q rest most = omega (arith, most)
    go false q rest most = let l = rest q in omega (arith, l)

module _ (w : Workload) where
  abbrev Few : List Running → Type 0
  Few rs = length rs ≤ w.together

  -- a site's step
  module _ (state : SiteState) (from : ℕ) (letter : Letter) (a : Ascend state.running) (few : Few state.running) where
    changed : (r now : Running) (rs : List Running) → Ascend rs → now.txn ≡ r.txn → program_of r.txn rs ≡ Some r → Few rs → Few (put_running now rs)
    changed r now rs a same f l = let long = put_found_long now rs r a (ap (λ t. program_of t rs) same ∙ f) in omega (arith, long, l)

    row_few : {after : Turn SiteState} → Row w state from letter after → Few after.state.running
    row_few (parts.halts u f m) = omega arith
    row_few (parts.returns u f m) = few
    row_few (parts.refuses k t writes u f l m) = few
    row_few (parts.idle i) = few
    row_few (parts.welcomed v n m) = few
    row_few (parts.served t k x h n c m q i) = few
    row_few (parts.notes r k x q z f e m) = changed r (record r { phase = asking k x (Some z) }) state.running a refl f few
    row_few (parts.applied t number ps m q) = few
    row_few (parts.over t m) = let l = kept_long (λ (r : Running). not (is_txn t r.txn)) state.running in omega (arith, l, few)
    row_few (parts.dropped t again m q) = let l = kept_long (λ (r : Running). not (is_txn t r.txn)) state.running in omega (arith, l, few)
    row_few (parts.retried t m q g) =
        let less = one_less t state.running q in
        goes_put w Few (tell (drops state t) (letters.Begin (next_attempt w t))) (fresh (next_attempt w t)) (λ now e. let l = length_put now (drops state t).state.running in omega (arith, l, less, few)) g
    row_few (parts.falls z m) = few
    row_few (parts.rises z n m) = few
    row_few (parts.copies x target n c m q) = few
    row_few (parts.staged k t writes m) = few
    row_few (parts.counts k r read writes awaited f e m q) = changed r (record r { phase = preparing read writes (parts.but (site (k + 1)) awaited) }) state.running a refl f few
    row_few (parts.renewed k x v version c m q l) = few
    row_few (parts.given r k x q v f e m g) = goes_put w Few (opened state) (record r { answers = put r.answers x v }) (λ now e2. changed r now state.running a e2 f few) g

    move_few : {turn after : Turn SiteState} → Move w state from letter turn after → Ascend turn.state.running → Few turn.state.running → Few after.state.running
    move_few {turn = turn} (parts.begins b n l g) a few =
        goes_put w Few (tell (passed w turn) (letters.Begin (next_of turn))) (fresh (next_of turn)) (λ now e. let more = length_put now turn.state.running in omega (arith, more, l)) g
    move_few {turn = turn} (parts.asks r k x z q f e m i) a few = changed r (record r { asks = r.asks + 1; phase = asking (r.asks + 1) x None }) turn.state.running a refl f few
    move_few {turn = turn} (parts.loses r read writes awaited z f e m) a few = changed r (record r { phase = preparing read writes (parts.but z awaited) }) turn.state.running a refl f few
    move_few {turn = turn} (parts.joins r read writes awaited z n f e m h) a few = changed r (record r { phase = preparing read writes (with_vote z awaited) }) turn.state.running a refl f few
    move_few {turn = turn} (parts.commits r read writes f e m) a few = changed r (record r { phase = sent }) turn.state.running a refl f few

    step_few : Few (rows.hear_site w state from letter).state.running
    step_few = step_keeps w state from letter (λ turn. Few turn.state.running) (λ after r. row_few r) (λ turn after m a l. move_few m a l) a

    step_ascends : Ascend (rows.hear_site w state from letter).state.running
    step_ascends = (let all = site_moves w state from letter a in ascend_moves w state from letter (ascend_row w state from letter a all.1.0) all.1.1)

  -- all sites of a world
  abbrev Fits : SiteState → Type 0
  Fits s = Ascend s.running × Few s.running

  set_all : (P : SiteState → Type 0) (xs : List SiteState) (k : ℕ) (y : SiteState) → AllByRecursion P xs → P y → AllByRecursion P (slice_set xs k y)
  set_all P [] k y a h = tt
  set_all P (x ∷ xs) zero y a h = (h, a.1)
  set_all P (x ∷ xs) (suc k) y a h = (a.0, set_all P xs k y a.1 h)

  at_all : (P : SiteState → Type 0) (xs : List SiteState) (k : ℕ) (x : SiteState) → AllByRecursion P xs → slice_get xs k ≡ Some x → P x
  at_all P [] k x a q = absurd (cc q)
  at_all P (y ∷ ys) zero x a q = subst P (let e : y ≡ x = cc q in e) a.0
  at_all P (y ∷ ys) (suc k) x a q = at_all P ys k x a.1 q

  hear_fits : (s : Servers) (server from : ℕ) (letter : Letter) → AllByRecursion Fits s.sites → AllByRecursion Fits (hear w s server from letter).0.sites
  hear_fits s zero from letter a = a
  hear_fits s (suc zero) from letter a = a
  hear_fits s (suc (suc k)) from letter a = go (slice_get s.sites k) refl
    where
      go : (o : Option SiteState) → slice_get s.sites k ≡ o → AllByRecursion Fits (hear_at w s k from letter o).0.sites
      go None q = a
      go (Some state) q = (let fits = at_all Fits s.sites k state a q in set_all Fits s.sites k (rows.hear_site w state from letter).state a (step_ascends state from letter fits.0 fits.1, step_few state from letter fits.0 fits.1))

  front_fits : (state : World) (server from : ℕ) (queue : List Letter) → AllByRecursion Fits state.servers.sites → AllByRecursion Fits (take_front w state server from queue).servers.sites
  front_fits state server from [] a = a
  front_fits state server from (letter ∷ rest) a = hear_fits state.servers server from letter a

  picks_fit : (state : World) (ps : List Pick) → AllByRecursion Fits state.servers.sites → AllByRecursion Fits (fold (pick w) state ps).servers.sites
  picks_fit state [] a = a
  picks_fit state (p ∷ ps) a = picks_fit (pick w state p) ps (front_fits state p.server p.from (link state.links p.server p.from) a)

  first_fit : (ss : List Site) → AllByRecursion Fits (map (first_site w) ss)
  first_fit [] = tt
  first_fit (s ∷ ss) = ((tt, omega arith), first_fit ss)

  pub run_few : (schedule : List Pick) (k : ℕ) (s : SiteState) → slice_get (run w schedule).servers.sites k ≡ Some s → length s.running ≤ w.together
  run_few schedule k s at = (at_all Fits (run w schedule).servers.sites k s (picks_fit (open_world w) schedule (first_fit (map site (count_from 1 w.sites)))) at).1
