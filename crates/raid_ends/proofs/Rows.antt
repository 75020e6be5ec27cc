-- A site's step lowers the measure: what each row and each move costs. Where the site is told that another is up again, moves alone leave open how
-- often programs are joined: that letter stands in another file.
use Rattle.std.proofs.Common.{◌≡◌, ℕ, ℤ, ◌+◌, ◌*◌, ◌<◌, ◌≤◌, ◌==◌, Bool, true, false, not, List, [], length, filter, Option, Some, None, arith, sym, subst, ap, ◌∙◌, refl}
use Rattle.std.specs.List.{sum_by}
use Rattle.std.proofs.lemmas.Bool.{true≢false}
use Rattle.std.proofs.Math.Nat.{mul-le-mul_left}
use Rattle.raid_base.specs.declared.names.Txn.{Txn}
use Rattle.raid_base.specs.declared.names.Item.{Item}
use Rattle.raid_base.specs.declared.names.Site.{Site}
use Rattle.raid_base.specs.declared.entry.Noted.{Noted}
use Rattle.raid_base.specs.declared.entry.Answer.TheVariants.{Yes, No}
use Rattle.raid_base.specs.Names.{is_txn, has_txn, has_site}
use Rattle.raid_base.specs.Sites.{site}
use Rattle.raid_program.specs.declared.program.Want.TheVariants as wants
use Rattle.raid_program.specs.Run.{put}
use Rattle.raid_workload.specs.declared.workload.Workload.{Workload}
use Rattle.raid_workload.specs.Parts.{txns, sites}
use Rattle.raid_rules.specs.History.{has_begun}
use Rattle.raid_message.specs.declared.letter.Message.{Message}
use Rattle.raid_message.specs.declared.letter.Message.TheVariants as letters
use Rattle.raid_message.specs.declared.letter.Letter.{Letter}
use Rattle.raid_steps.specs.State.{Turn, with_state, opened, send, tell, Phase, asking, preparing, sent, Running, SiteState}
use Rattle.raid_steps.specs.Copies.{set_copy, unstage, stage, apply}
use Rattle.raid_steps.specs.Programs.{running_of, runs_here, put_running, next_attempt}
use Rattle.raid_steps.specs.Site as rows
use Rattle.raid_moves.specs.Moves.{Ascend, Tells, comes_to, fresh, drops, Row, Move, passed, next_of, but, Starts}
use Rattle.raid_moves.specs.Moves as parts
use Rattle.raid_moves.proofs.Steps.{step_keeps, goes_put}
use Rattle.raid_moves.proofs.Left.{goes_leave}
use Rattle.raid_moves.proofs.Places.{program_of}
use Rattle.raid_measure.specs.Measure.{most_reads, start_cost, letter_cost, phase_cost, program_cost, site_cost}
use Rattle.raid_measure.proofs.Sums.{one_if}
use Rattle.raid_ends.proofs.Links.{outs_cost}
use Rattle.raid_ends.proofs.Programs.{put_sum, kept_sum, may_take_up, idle, idle_put, idle_over, idle_lost}
use Rattle.raid_ends.proofs.Site.{again_cost, is_up_note, is_served}
use Rattle.raid_ends.proofs.Site as site_costs

halts_numbers : (c none some n m own l : ℕ) → none ≤ some + n → n ≤ m → own ≡ 3 + m * c → 2 + (c * none + 0) + 1 ≤ own + (c * some + l)
halts_numbers c none some n m own l a b e =
    let all : none ≤ some + m = omega (arith, a, b) in
    let times = mul-le-mul_left c all in
    omega (arith, times, e)

module _ (w : Workload) (p : List Noted) (s : Site) (here : has_site (sites w) s ≡ true) (state : SiteState) (from : ℕ) (letter : Letter) (server : ℕ) where
  abbrev pub again : ℕ
  again = again_cost letter.message

  abbrev load : Running → ℕ
  load r = site_costs.load w p s here again r

  abbrev loads : List Running → ℕ
  loads rs = site_costs.loads w p s here again rs

  abbrev Spent : Turn SiteState → ℕ
  Spent turn = site_costs.Spent w p s here again turn

  -- the cost of the letter, and the site's cost before
  abbrev pub own_cost : ℕ
  own_cost = letter_cost w server letter.message

  abbrev pub before : ℕ
  before = start_cost w * idle w p s state.running + sum_by (program_cost w) state.running

  -- a value that is given makes one answer more, after which the program may have one read less
  pub record Gives (r : Running) (x : Item) (v : ℤ) : Type 0 where
    pub more : length (put r.answers x v) ≡ length r.answers + 1
    pub few : (y : Item) → (comes_to w (record r { answers = put r.answers x v })).end ≡ wants.Read y → length (put r.answers x v) + 1 ≤ most_reads
    pub room : length r.answers + 1 ≤ most_reads

  -- what is known of the site, and of the letter
  pub record Sound : Type 0 where
    pub place : state.site ≡ s
    pub ascend : Ascend state.running
    pub few : length state.running ≤ w.together
    pub pays : 1 + again * length state.running ≤ own_cost
    pub done : (t : Txn) → Tells w state from letter (letters.Done t) → has_begun p t ≡ true
    pub dropped : (t : Txn) (again : Bool) → Tells w state from letter (letters.Drop t again) → has_begun p t ≡ true
    pub gives : (r : Running) (k : ℕ) (x : Item) (q : Option Site) (v : ℤ) → running_of state r.txn ≡ Some r → r.phase ≡ asking k x q → Gives r x v
    pub retries : (t : Txn) → Tells w state from letter (letters.Drop t true) → runs_here state t ≡ true →
        (has_txn (txns w) (next_attempt w t) ≡ true) × (may_take_up w p s (filter (λ (r : Running). not (is_txn t r.txn)) state.running) (next_attempt w t) ≡ true)
    pub other : is_up_note letter.message ≡ false

  module _ (sound : Sound) where
    -- what a row may come to
    abbrev Costs : Turn SiteState → Type 0
    Costs turn = (turn.state.site ≡ s) × (Spent turn + 1 ≤ own_cost + before)

    costs_of : (m : Message) → letter.message ≡ m → own_cost ≡ letter_cost w server m
    costs_of m is = ap (letter_cost w server) is

    -- nothing is paid for asking again but by a DownNote
    quiet : (m : Message) → letter.message ≡ m → again_cost m ≡ 0 → (rs : List Running) → loads rs ≤ sum_by (program_cost w) rs
    quiet m is none rs =
        let zero_is : again * length rs ≡ 0 * length rs = ap (λ n. n * length rs) (ap again_cost is ∙ none) in
        let most = site_costs.loads_most w p s here again rs in
        omega (arith, zero_is, most)

    -- programs are as they were, and so much is sent
    same : (m : Message) → letter.message ≡ m → again_cost m ≡ 0 → (turn : Turn SiteState) → turn.state.site ≡ state.site → turn.state.running ≡ state.running → outs_cost w turn.outs + 1 ≤ letter_cost w server m → Costs turn
    same m is none turn place runs less =
        let cost = costs_of m is in
        let fits : outs_cost w turn.outs + (start_cost w * idle w p s state.running + loads state.running) + 1 ≤ own_cost + before = let most = quiet m is none state.running in omega (arith, less, cost, most) in
        (place ∙ sound.place, subst (λ rs. outs_cost w turn.outs + (start_cost w * idle w p s rs + loads rs) + 1 ≤ own_cost + before) (sym runs) fits)

    -- nothing is sent, whatever the letter
    nothing_sent : (turn : Turn SiteState) → turn.outs ≡ [] → turn.state.site ≡ state.site → turn.state.running ≡ state.running → Costs turn
    nothing_sent turn none place runs =
        let most = site_costs.loads_most w p s here again state.running in
        let pays = sound.pays in
        let fits : outs_cost w [] + (start_cost w * idle w p s state.running + loads state.running) + 1 ≤ own_cost + before = omega (arith, most, pays) in (
          place ∙ sound.place,
          subst (λ rs. outs_cost w turn.outs + (start_cost w * idle w p s rs + loads rs) + 1 ≤ own_cost + before) (sym runs)
              (subst (λ outs. outs_cost w outs + (start_cost w * idle w p s state.running + loads state.running) + 1 ≤ own_cost + before) (sym none) fits),
        )

    -- one program changes its phase
    phase_changes : (m : Message) → letter.message ≡ m → again_cost m ≡ 0 → 1 ≤ letter_cost w server m → (r : Running) (phase : Phase) → running_of state r.txn ≡ Some r → phase_cost w (length r.answers) phase ≡ program_cost w r →
        Costs (let turn : Turn SiteState = opened (record state { running = put_running (record r { phase = phase }) state.running }) in turn)
    phase_changes m is none some r phase found cost =
        let zero_is : again ≡ 0 = ap again_cost is ∙ none in
        let now : Running = record r { phase = phase } in
        let light : load now ≤ load r = (let a : again * one_if (is_served phase) ≡ 0 * one_if (is_served phase) = ap (λ n. n * one_if (is_served phase)) zero_is in omega (arith, a, cost)) in
        let change = site_costs.changes w p s here again r now state.running sound.ascend found 0 (omega (arith, light)) in
        let most = quiet m is none state.running in
        let own = costs_of m is in
        (sound.place, omega (arith, change, most, own, some))

    -- a transaction is over
    over : (m : Message) (t : Txn) (staged : List (Txn × List (Item × ℤ))) → letter.message ≡ m → again_cost m ≡ 0 → 1 ≤ letter_cost w server m → has_begun p t ≡ true →
        Costs (let turn : Turn SiteState = opened (record state { staged = staged; running = filter (λ (r : Running). not (is_txn t r.txn)) state.running }) in turn)
    over m t staged is none some begun =
        let fewer = site_costs.idle_times w p s here again state.running (filter (λ (r : Running). not (is_txn t r.txn)) state.running) (idle_over w p s t state.running begun) in
        let less = kept_sum load (λ (r : Running). not (is_txn t r.txn)) state.running in
        let most = quiet m is none state.running in
        let own = costs_of m is in
        (sound.place, omega (arith, fewer, less, most, own, some))

    -- each row
    row_costs : {after : Turn SiteState} → Row w state from letter after → Costs after
    row_costs (parts.halts u f m) = (
      sound.place,
      halts_numbers (start_cost w) (idle w p s []) (idle w p s state.running) (length state.running) w.together own_cost (sum_by (program_cost w) state.running)
          (idle_lost w p s state.running) sound.few (costs_of letters.Stop m),
    )
    row_costs (parts.returns u f m) = same letters.Return m refl (rows.return_row state) refl refl (omega arith)
    row_costs (parts.refuses k t writes u f l m) = same (letters.Prepare t writes) m refl (send (opened state) (k + 2, letter.from, letters.Vote t (No letter.to state.session))) refl refl (omega arith)
    row_costs (parts.idle i) = nothing_sent (opened state) refl refl refl
    row_costs (parts.welcomed v next m) = nothing_sent (with_state (opened state) (record state { vector = v; next = next })) refl refl refl
    row_costs (parts.served t k x h n c m q i) = same (letters.ReadDo t k x h n) m.is refl (send (opened state) (h.0 + 1, n, letters.Value t k c.value)) refl refl (omega arith)
    row_costs (parts.notes r k x q z f e m) = phase_changes (letters.Serving r.txn k z) m.is refl (omega arith) r (asking k x (Some z)) f (sym (ap (phase_cost w (length r.answers)) e))
    row_costs (parts.applied t number ps m q) = same (letters.Apply t number) m.is refl (tell (with_state (opened state) (apply state t number ps)) (letters.Ack t)) refl refl (omega arith)
    row_costs (parts.over t m) = over (letters.Done t) t state.staged m.is refl (omega arith) (sound.done t m)
    row_costs (parts.dropped t again m q) = over (letters.Drop t again) t (unstage t state.staged) m.is refl (omega arith) (sound.dropped t again m)
    row_costs (parts.retried {after = after} t m q g) =
        let turn : Turn SiteState = drops state t in
        let ended = over (letters.Drop t true) t (unstage t state.staged) m.is refl (omega arith) (sound.dropped t true m) in
        let may = sound.retries t m q in
        let up : Spent after ≤ Spent turn = site_costs.taken_up w p s here again turn (next_attempt w t) sound.place may.0 may.1 g in
        let least = ended.1 in
        ((goes_leave w (tell turn (letters.Begin (next_attempt w t))) (fresh (next_attempt w t)) g).site ∙ sound.place, omega (arith, up, least))
    row_costs (parts.falls z m) = nothing_sent (rows.with_vector (opened state) z 0) refl refl refl
    row_costs (parts.rises z n m) = nothing_sent (rows.with_vector (opened state) z n) refl refl refl
    row_costs (parts.copies x target n c m q) = same (letters.CopyDo x target n) m.is refl (send (opened state) (target.0 + 1, n, letters.CopyValue x c.value c.version)) refl refl (omega arith)
    row_costs (parts.staged k t writes m) = same (letters.Prepare t writes) m.is refl (send (with_state (opened state) (record state { staged = stage t writes state.staged })) ((site (k + 1)).0 + 1, letter.from, letters.Vote t Yes)) refl refl (omega arith)
    row_costs (parts.counts k r read writes awaited f e m q) =
        phase_changes (letters.Vote r.txn Yes) m.is refl (omega arith) r (preparing read writes (but (site (k + 1)) awaited)) f (sym (ap (phase_cost w (length r.answers)) e))
    row_costs (parts.renewed k x v version c m q l) = same (letters.CopyValue x v version) m.is refl (tell (with_state (opened state) (record state { copies = set_copy x v version state.copies })) (letters.CopyDone x version)) refl refl (omega arith)
    row_costs (parts.given {after = after} r k x q v f e m g) = given m
      where
        now : Running
        now = record r { answers = put r.answers x v }

        known : Gives r x v
        known = sound.gives r k x q v f e

        old : load r ≡ site_costs.phase_load w p s here again (length r.answers) (asking k x q)
        old = ap (site_costs.phase_load w p s here again (length r.answers)) e

        fits : (m : Message) → letter.message ≡ m → again_cost m ≡ 0 → 1 ≤ letter_cost w server m → Costs after
        fits m is none some =
            let held : (new : Running) → new.txn ≡ r.txn → loads (put_running new state.running) + load r ≤ loads state.running + load new =
            (λ new q. let sum = put_sum load new state.running r sound.ascend (ap (λ t. program_of t state.running) q ∙ f) in omega (arith, sum)) in
            let cost = site_costs.goes_cost w p s here again (opened state) now sound.place known.few (load r) held g in
            let fewer = goes_put w (λ rs. idle w p s rs ≤ idle w p s state.running) (opened state) now (λ new q. idle_put w p s new state.running) g in
            let times = site_costs.idle_times w p s here again state.running after.state.running fewer in
            let most = quiet m is none state.running in
            let own = costs_of m is in
            let longer = known.more in
            let room = known.room in
            ((goes_leave w (opened state) now g).site ∙ sound.place, omega (arith, cost, times, most, own, some, old, longer, room))

        given : parts.Given w state from letter r.txn k v → Costs after
        given (parts.read_here y h n c m q i) = fits (letters.ReadDo r.txn k y h n) m.is refl (omega arith)
        given (parts.read_elsewhere j v m) = fits (letters.Value r.txn k v) m.is refl (omega arith)

    -- each move
    module _ (J : Turn SiteState → Type 0) (starts : Starts w state from letter → (turn : Turn SiteState) → J turn → turn.state.site ≡ s → (turn.state.next == 0) ≡ false → (has_txn (txns w) (next_of turn) ≡ true) × (may_take_up w p s turn.state.running (next_of turn) ≡ true)) where
      move_costs : {turn after : Turn SiteState} → Move w state from letter turn after → Ascend turn.state.running → J turn → Costs turn → Costs after
      move_costs {turn = turn} {after = after} (parts.begins b n l g) a j c =
          let may = starts b turn j c.0 n in
          let up : Spent after ≤ Spent turn = site_costs.taken_up w p s here again (passed w turn) (next_of turn) c.0 may.0 may.1 g in
          let was = c.1 in
          ((goes_leave w (tell (passed w turn) (letters.Begin (next_of turn))) (fresh (next_of turn)) g).site ∙ c.0, omega (arith, up, was))
      move_costs {turn = turn} (parts.asks r k x z q f e m i) a j c =
          let now : Running = record r { asks = r.asks + 1; phase = asking (r.asks + 1) x None } in
          let old : load r ≡ site_costs.phase_load w p s here again (length r.answers) (asking k x (Some q)) = ap (site_costs.phase_load w p s here again (length r.answers)) e in
          let pays : again ≡ 4 = ap again_cost m.is in
          let change = site_costs.changes w p s here again r now turn.state.running a f 4 (omega (arith, old, pays)) in
          let told = site_costs.told_one w p s here again turn.outs (1, 0, letters.ReadAsk r.txn (r.asks + 1) x) in
          let was = c.1 in
          (c.0, omega (arith, change, told, was))
      move_costs {turn = turn} (parts.loses r read writes awaited z f e m) a j c =
          let now : Running = record r { phase = preparing read writes (but z awaited) } in
          let old : load r ≡ site_costs.phase_load w p s here again (length r.answers) (preparing read writes awaited) = ap (site_costs.phase_load w p s here again (length r.answers)) e in
          let change = site_costs.changes w p s here again r now turn.state.running a f 0 (omega (arith, old)) in
          let was = c.1 in
          (c.0, omega (arith, change, was))
      move_costs {turn = turn} (parts.joins r read writes awaited z n f e m h) a j c = absurd (true≢false (sym (ap is_up_note m.is) ∙ sound.other))
      move_costs {turn = turn} (parts.commits r read writes f e m) a j c =
          let now : Running = record r { phase = sent } in
          let old : load r ≡ site_costs.phase_load w p s here again (length r.answers) (preparing read writes []) = ap (site_costs.phase_load w p s here again (length r.answers)) e in
          let change = site_costs.changes w p s here again r now turn.state.running a f 1 (omega (arith, old)) in
          let told = site_costs.told_one w p s here again turn.outs (1, 0, letters.CommitAsk r.txn (record { reads = read; writes = writes; under = turn.state.vector })) in
          let was = c.1 in
          (c.0, omega (arith, change, told, was))

      -- the step
      pub step_costs : ((after : Turn SiteState) → Row w state from letter after → J after) → ((turn after : Turn SiteState) → Move w state from letter turn after → Ascend turn.state.running → J turn → J after) →
          outs_cost w (rows.hear_site w state from letter).outs + site_cost w p (rows.hear_site w state from letter).state < own_cost + site_cost w p state
      step_costs rowed moved =
          let all = step_keeps w state from letter (λ turn. J turn × Costs turn) (λ after r. (rowed after r, row_costs r)) (λ turn after m a c. (moved turn after m a c.0, move_costs m a c.0 c.1)) sound.ascend in
          let turn = rows.hear_site w state from letter in
          let least = site_costs.loads_least w p s here again turn.state.running in
          let fits : outs_cost w turn.outs + (start_cost w * idle w p s turn.state.running + sum_by (program_cost w) turn.state.running) < own_cost + before = let cost = all.1.1 in omega (arith, least, cost) in
          subst (λ z. outs_cost w turn.outs + (start_cost w * idle w p z turn.state.running + sum_by (program_cost w) turn.state.running) < own_cost + site_cost w p state) (sym all.1.0)
          (subst (λ z. outs_cost w turn.outs + (start_cost w * idle w p s turn.state.running + sum_by (program_cost w) turn.state.running) < own_cost + (start_cost w * idle w p z state.running + sum_by (program_cost w) state.running)) (sym sound.place) fits)
