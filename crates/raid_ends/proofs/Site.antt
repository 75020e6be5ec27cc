-- A site's step lowers the measure: each row, and each move after it. Where the site is told that another is up again, moves alone leave open how
-- often programs are joined; that letter stands in another file.
use Rattle.std.proofs.Common.{◌≡◌, ℕ, ℤ, ◌+◌, ◌-◌, ◌*◌, ◌≤◌, Bool, true, false, not, ◌&&◌, ◌||◌, List, [], ◌∷◌, ◌++◌, length, filter, map, Some, None, if◌then◌else◌, arith, sym, ap, ◌∙◌, refl}
use Rattle.std.specs.List.{sum_by}
use Rattle.std.proofs.lemmas.Bool.{true≢false}
use Rattle.std.proofs.Math.Nat.{mul-le-mul_left}
use Rattle.std.proofs.lemmas.List.Sums.{sum_by-cons, sum_by-append, sum_by_push}
use Rattle.raid_base.specs.declared.names.Txn.{Txn}
use Rattle.raid_base.specs.declared.names.Item.{Item}
use Rattle.raid_base.specs.declared.names.Site.{Site}
use Rattle.raid_base.specs.declared.entry.Cause.TheVariants as causes
use Rattle.raid_base.specs.declared.entry.Noted.{Noted}
use Rattle.raid_base.specs.Names.{is_site, has_txn, has_site}
use Rattle.raid_program.specs.declared.program.Want.TheVariants as wants
use Rattle.raid_workload.specs.declared.workload.Workload.{Workload}
use Rattle.raid_workload.specs.Parts.{txns, sites}
use Rattle.raid_rules.specs.Sessions.{is_site_up}
use Rattle.raid_legal.specs.Seen.{holds_some}
use Rattle.raid_message.specs.declared.letter.Message.{Message}
use Rattle.raid_message.specs.declared.letter.Message.TheVariants as letters
use Rattle.raid_steps.specs.State.{Out, Turn, tell, Phase, asking, preparing, sent, Running, SiteState}
use Rattle.raid_steps.specs.Copies.{stage}
use Rattle.raid_steps.specs.Programs.{put_running, held_by, voters, prepare_out}
use Rattle.raid_moves.specs.Moves.{Ascend, Tells, comes_to, Goes, fresh, Begins, drops, Row, Move, passed, next_of}
use Rattle.raid_moves.specs.Moves as parts
use Rattle.raid_moves.proofs.Steps.{goes_put}
use Rattle.raid_moves.proofs.Places.{program_of}
use Rattle.raid_measure.specs.Measure.{read_cost, most_reads, commit_cost, start_cost, letter_cost, phase_cost, program_cost}
use Rattle.raid_measure.proofs.Sums.{sum_grows, one_if}
use Rattle.raid_measure.proofs.Opening.{length_sites}
use Rattle.raid_ends.proofs.Links.{outs_cost}
use Rattle.raid_ends.proofs.Programs.{put_sum, put_most, may_take_up, idle, idle_put, idle_new}

-- the program waits for a value of another site that it knows of: it asks again where that site is lost
abbrev pub is_served : Phase → Bool
is_served (asking k x (Some q)) = true
is_served other = false

-- what a letter pays beside its own, for each such program
abbrev pub again_cost : Message → ℕ
again_cost (letters.DownNote s) = read_cost
again_cost other = 0

abbrev pub is_up_note : Message → Bool
is_up_note (letters.UpNote s n) = true
is_up_note other = false

-- numbers
pub times_less : (c a b : ℕ) → a + 1 ≤ b → c * a + c ≤ c * b
times_less c a b l = let more = mul-le-mul_left c l in omega (arith, more)

-- of some sites fewer pass a test that one of them doesn't
pub one_fails : (test : Site → Bool) (s : Site) → ((r : Site) → is_site s r ≡ true → test r ≡ false) → (ss : List Site) → has_site ss s ≡ true → length (filter test ss) + 1 ≤ length ss
one_fails test s fails [] q = absurd (true≢false (sym q))
one_fails test s fails (r ∷ rs) q = go (is_site s r) refl (test r) refl q (one_fails test s fails rs) (few rs)
  where
    few : (rs : List Site) → length (filter test rs) ≤ length rs
    few [] = omega arith
    few (r ∷ rs) = one (test r) (few rs)
      where
        one : (b : Bool) → length (filter test rs) ≤ length rs → length (if b then r ∷ filter test rs else filter test rs) ≤ length (r ∷ rs)
        one true l = omega (arith, l)
        one false l = omega (arith, l)

    go : (b : Bool) → is_site s r ≡ b → (c : Bool) → test r ≡ c → (b || has_site rs s) ≡ true → (has_site rs s ≡ true → length (filter test rs) + 1 ≤ length rs) → length (filter test rs) ≤ length rs →
        length (if c then r ∷ filter test rs else filter test rs) + 1 ≤ length (r ∷ rs)
    go true e true t q rest most = absurd (true≢false (sym t ∙ fails r e))
    go b e false t q rest most = omega (arith, most)
    go false e true t q rest most = let l = rest q in omega (arith, l)

module _ (w : Workload) (p : List Noted) (s : Site) (here : has_site (sites w) s ≡ true) (again : ℕ) where
  -- a program, and those that run
  abbrev pub phase_load : ℕ → Phase → ℕ
  phase_load answers phase = phase_cost w answers phase + again * one_if (is_served phase)

  abbrev pub load : Running → ℕ
  load r = phase_load (length r.answers) r.phase

  abbrev pub loads : List Running → ℕ
  loads rs = sum_by load rs

  -- what runs, and what may be taken up
  abbrev pub costs : List Running → ℕ
  costs rs = start_cost w * idle w p s rs + loads rs

  abbrev pub Spent : Turn SiteState → ℕ
  Spent turn = outs_cost w turn.outs + costs turn.state.running

  -- one letter more is sent
  pub told_one : (outs : List Out) (out : Out) → outs_cost w (outs ++ out ∷ []) ≡ outs_cost w outs + letter_cost w out.0 out.2
  told_one outs out = sum_by_push (λ (out : Out). letter_cost w out.0 out.2) outs out

  -- fewer may be taken up
  pub idle_times : (rs qs : List Running) → idle w p s qs ≤ idle w p s rs → start_cost w * idle w p s qs ≤ start_cost w * idle w p s rs
  idle_times rs qs l = mul-le-mul_left (start_cost w) l

  -- a program changes to one that costs less by what it sends
  pub changes : (r now : Running) (rs : List Running) → Ascend rs → program_of now.txn rs ≡ Some r → (sent_cost : ℕ) → load now + sent_cost ≤ load r → costs (put_running now rs) + sent_cost ≤ costs rs
  changes r now rs a f sent_cost less =
      let sum : loads (put_running now rs) + load r ≡ loads rs + load now = put_sum load now rs r a f in
      let fewer = idle_times rs (put_running now rs) (idle_put w p s now rs) in
      omega (arith, less, sum, fewer)

  -- loads are the programs' costs and what is paid for asking again
  pub loads_most : (rs : List Running) → loads rs ≤ sum_by (program_cost w) rs + again * length rs
  loads_most [] = omega arith
  loads_most (r ∷ rs) =
      let rest = loads_most rs in
      let one = flag (is_served r.phase) in
      omega (arith, rest, one, sum_by-cons load r rs, sum_by-cons (program_cost w) r rs)
    where
      flag : (b : Bool) → again * one_if b ≤ again
      flag true = omega arith
      flag false = omega arith

  pub loads_least : (rs : List Running) → sum_by (program_cost w) rs ≤ loads rs
  loads_least rs = sum_grows (program_cost w) load (λ r. omega arith) rs

  -- A program goes on.

  -- what it costs at most with so many answers: its reads and its commit
  abbrev on_cost : ℕ → ℕ
  on_cost answers = read_cost * (most_reads - answers) + commit_cost w

  all_prepares : (v : List ℕ) (t : Txn) (writes : List (Item × ℤ)) (ss : List Site) → outs_cost w (map (prepare_out w v t writes) ss) ≡ 2 * length ss
  all_prepares v t writes [] = refl
  all_prepares v t writes (r ∷ rs) =
      let rest = all_prepares v t writes rs in
      let all : outs_cost w (map (prepare_out w v t writes) (r ∷ rs)) ≡ 2 + outs_cost w (map (prepare_out w v t writes) rs) = sum_by-cons (λ (out : Out). letter_cost w out.0 out.2) (prepare_out w v t writes r) (map (prepare_out w v t writes) rs) in
      omega (arith, rest, all)

  few_voters : (state : SiteState) (writes : List (Item × ℤ)) → state.site ≡ s → length (voters w state writes) ≤ w.sites - 1
  few_voters state writes place =
      let fewer = one_fails (λ r. is_site_up state.vector r && not (is_site state.site r) && holds_some w writes r) s (λ r e. fails (is_site_up state.vector r) (is_site state.site r) (holds_some w writes r) (ap (λ z. is_site z r) place ∙ e)) (sites w) here in
      let long = length_sites w in
      omega (arith, fewer, long)
    where
      fails : (a b c : Bool) → b ≡ true → (a && not b && c) ≡ false
      fails true true c q = refl
      fails false b c q = refl
      fails true false c q = absurd (true≢false (sym q))

  -- the place where the program is put held so much before
  abbrev Held : List Running → Txn → ℕ → Type 0
  Held rs t old = (now : Running) → now.txn ≡ t → loads (put_running now rs) + old ≤ loads rs + load now

  pub goes_cost : (turn : Turn SiteState) (r : Running) {after : Turn SiteState} → turn.state.site ≡ s → ((x : Item) → (comes_to w r).end ≡ wants.Read x → length r.answers + 1 ≤ most_reads) →
      (old : ℕ) → Held turn.state.running r.txn old → Goes w turn r after → outs_cost w after.outs + loads after.state.running + old ≤ outs_cost w turn.outs + loads turn.state.running + on_cost (length r.answers)
  goes_cost turn r place few old held (parts.reads_next x e) =
      let told = told_one turn.outs (1, 0, letters.ReadAsk r.txn (r.asks + 1) x) in
      let put = held (record r { asks = r.asks + 1; phase = asking (r.asks + 1) x None }) refl in
      let more = few x e in
      omega (arith, told, put, more)
  goes_cost turn r place few old held (parts.prepares e) = go (holds_some w (comes_to w r).writes turn.state.site)
    where
      vs : List Site
      vs = voters w turn.state (comes_to w r).writes

      now : Running
      now = record r { phase = preparing (comes_to w r).reads (comes_to w r).writes vs }

      outs : List Out
      outs = map (prepare_out w turn.state.vector r.txn (comes_to w r).writes) vs

      fits : outs_cost w (turn.outs ++ outs) + loads (put_running now turn.state.running) + old ≤ outs_cost w turn.outs + loads turn.state.running + on_cost (length r.answers)
      fits =
          let all = sum_by-append (λ (out : Out). letter_cost w out.0 out.2) turn.outs outs in
          let prepares = all_prepares turn.state.vector r.txn (comes_to w r).writes vs in
          let others = few_voters turn.state (comes_to w r).writes place in
          let put = held now refl in
          omega (arith, all, prepares, others, put)

      go : (b : Bool) → outs_cost w (turn.outs ++ outs) + loads (put_running now (if b then record (turn.state) { staged = stage r.txn (held_by w turn.state.site (comes_to w r).writes) turn.state.staged } else turn.state).running) + old
          ≤ outs_cost w turn.outs + loads turn.state.running + on_cost (length r.answers)
      go true = fits
      go false = fits
  goes_cost turn r place few old held (parts.stops e) =
      let told = told_one turn.outs (1, 0, letters.EndAsk r.txn causes.Own (comes_to w r).reads) in
      let put = held (record r { phase = sent }) refl in
      omega (arith, told, put)
  goes_cost turn r place few old held (parts.overflows e) =
      let told = told_one turn.outs (1, 0, letters.EndAsk r.txn causes.Overflow (comes_to w r).reads) in
      let put = held (record r { phase = sent }) refl in
      omega (arith, told, put)

  -- a transaction is taken up, of which no program runs here
  pub taken_up : (turn : Turn SiteState) (t : Txn) {after : Turn SiteState} → turn.state.site ≡ s → has_txn (txns w) t ≡ true → may_take_up w p s turn.state.running t ≡ true → Begins w turn t after → Spent after ≤ Spent turn
  taken_up turn t {after = after} place known may begun =
      let begin = told_one turn.outs (1, 0, letters.Begin t) in
      let cost = goes_cost (tell turn (letters.Begin t)) (fresh t) place (λ x e. omega arith) 0 (λ now q. let most = put_most load now turn.state.running in omega (arith, most)) begun in
      let fewer = goes_put w (λ rs. idle w p s rs + 1 ≤ idle w p s turn.state.running) (tell turn (letters.Begin t)) (fresh t)
      (λ now q. idle_new w p s now turn.state.running (ap (has_txn (txns w)) q ∙ known) (ap (may_take_up w p s turn.state.running) q ∙ may)) begun in
      let times = times_less (start_cost w) (idle w p s after.state.running) (idle w p s turn.state.running) fewer in
      omega (arith, begin, cost, times)
