-- How often programs have asked, and a site's session: how much a step adds.
use Rattle.std.proofs.Common.{◌≡◌, ℕ, ℤ, zero, suc, ◌+◌, ◌-◌, ◌==◌, nat_lt, nat_le, Bool, true, false, not, ◌&&◌, if◌then◌else◌, List, [], ◌∷◌, fold, length, Option, Some, None, arith, ap, ◌∙◌, refl}
use Rattle.std.specs.Prelude.{find}
use Rattle.std.specs.Option.{option_map_or}
use Rattle.std.proofs.lemmas.Bool.{and_parts, and_from}
use Rattle.raid_base.specs.declared.names.Txn.{Txn}
use Rattle.raid_base.specs.declared.names.Item.{Item}
use Rattle.raid_base.specs.declared.names.Site.{Site}
use Rattle.raid_base.specs.declared.entry.Answer.{Answer}
use Rattle.raid_base.specs.declared.entry.Answer.TheVariants.{Yes, No}
use Rattle.raid_base.specs.Names.{is_txn, is_site}
use Rattle.raid_base.specs.Find.{first_of}
use Rattle.raid_base.specs.Sites.{session, site}
use Rattle.raid_program.specs.declared.program.Want.{Want}
use Rattle.raid_program.specs.declared.program.Want.TheVariants as wants
use Rattle.raid_program.specs.declared.program.Outcome.{Outcome}
use Rattle.raid_program.specs.Run.{outcome_of, put}
use Rattle.raid_workload.specs.declared.workload.Workload.{Workload}
use Rattle.raid_workload.specs.Parts.{count_from, program}
use Rattle.raid_legal.specs.Seen.{holds_some}
use Rattle.raid_message.specs.declared.letter.Message.{Message}
use Rattle.raid_message.specs.declared.letter.Message.TheVariants as letters
use Rattle.raid_message.specs.declared.letter.Letter.{Letter}
use Rattle.raid_steps.specs.State.{Turn, with_state, opened, tell, Copy, Phase, asking, preparing, sent, Running, SiteState}
use Rattle.raid_steps.specs.Fits.{is_of_sequencer, is_of_site}
use Rattle.raid_steps.specs.Copies.{copy_of, staged_of, apply, unstage, set_copy}
use Rattle.raid_steps.specs.Programs.{running_of, runs_here, put_running, with_running, change, ended, ask, stage_own, voters, prepare, turn_to, go_on, begin, following, begin_next, start, give_to, give, noted_at, with_vote, without_vote, lose, join, ask_commit, ask_commits, next_attempt}
use Rattle.raid_steps.specs.Site as rows
use Rattle.raid_steps.proofs.Parts.{all_filtered, all_found}
use Rattle.raid_site.specs.Server.{asks_at_most}

more_at : (n a : ℕ) → nat_le a n ≡ true → nat_le a (n + 1) ≡ true
more_at n a most = grind (arith, most)

next_at : (n a : ℕ) → nat_le a n ≡ true → nat_le (a + 1) (n + 1) ≡ true
next_at n a most = grind (arith, most)

more : (n : ℕ) (rs : List Running) → asks_at_most n rs ≡ true → asks_at_most (n + 1) rs ≡ true
more n [] most = refl
more n (r ∷ rs) most = let parts = and_parts (nat_le r.asks n) (asks_at_most n rs) most in and_from (nat_le r.asks (n + 1)) (asks_at_most (n + 1) rs) (more_at n r.asks parts.0) (more n rs parts.1)

put_case : (m : ℕ) (r q : Running) (qs : List Running) (b c : Bool) → nat_le r.asks m ≡ true → nat_le q.asks m ≡ true → asks_at_most m qs ≡ true → asks_at_most m (put_running r qs) ≡ true →
    asks_at_most m (if b then r ∷ qs else if c then r ∷ q ∷ qs else q ∷ put_running r qs) ≡ true
put_case m r q qs true c this first rest more = and_from (nat_le r.asks m) (asks_at_most m qs) this rest
put_case m r q qs false true this first rest more = and_from (nat_le r.asks m) (asks_at_most m (q ∷ qs)) this (and_from (nat_le q.asks m) (asks_at_most m qs) first rest)
put_case m r q qs false false this first rest more = and_from (nat_le q.asks m) (asks_at_most m (put_running r qs)) first more

put_most : (m : ℕ) (r : Running) (rs : List Running) → nat_le r.asks m ≡ true → asks_at_most m rs ≡ true → asks_at_most m (put_running r rs) ≡ true
put_most m r [] this most = and_from (nat_le r.asks m) true this refl
put_most m r (q ∷ qs) this most =
    let parts = and_parts (nat_le q.asks m) (asks_at_most m qs) most in
    put_case m r q qs (is_txn r.txn q.txn) (nat_lt r.txn.0 q.txn.0) this parts.0 parts.1 (put_most m r qs this parts.1)

-- each program has asked at most so often
module _ (w : Workload) (m : ℕ) where
  abbrev pub Most : Turn SiteState → Type 0
  Most turn = asks_at_most m turn.state.running ≡ true

  either : (b : Bool) (x y : Turn SiteState) → Most x → Most y → Most (if b then x else y)
  either true x y most most_too = most
  either false x y most most_too = most_too

  folds : {X : Type 0} (step : Turn SiteState → X → Turn SiteState) (turn : Turn SiteState) (xs : List X) →
      ((turn : Turn SiteState) (x : X) → Most turn → Most (step turn x)) → Most turn → Most (fold step turn xs)
  folds step turn [] each most = most
  folds step turn (x ∷ xs) each most = folds step (step turn x) xs each (each turn x most)

  -- the same over programs that have asked at most so often
  folds_over : (n : ℕ) (step : Turn SiteState → Running → Turn SiteState) (turn : Turn SiteState) (rs : List Running) → asks_at_most n rs ≡ true →
      ((turn : Turn SiteState) (r : Running) → nat_le r.asks n ≡ true → Most turn → Most (step turn r)) → Most turn → Most (fold step turn rs)
  folds_over n step turn [] those each most = most
  folds_over n step turn (r ∷ rs) those each most =
      let parts = and_parts (nat_le r.asks n) (asks_at_most n rs) those in
      folds_over n step (step turn r) rs parts.1 each (each turn r parts.0 most)

  options : {X : Type 0} (f : X → Turn SiteState) (o : Option X) (turn : Turn SiteState) → ((x : X) → Most (f x)) → Most turn → Most (option_map_or f o turn)
  options f None turn each most = most
  options f (Some x) turn each most = each x

  -- over the transaction's program, if it runs here
  found : (n : ℕ) (f : Running → Turn SiteState) (turn : Turn SiteState) (t : Txn) (rs : List Running) (o : Option Running) → find (λ (r : Running). is_txn t r.txn) rs ≡ o → asks_at_most n rs ≡ true →
      ((r : Running) → nat_le r.asks n ≡ true → Most (f r)) → Most turn → Most (option_map_or f o turn)
  found n f turn t rs None is those each most = most
  found n f turn t rs (Some r) is those each most = each r (all_found (λ (q : Running). nat_le q.asks n) (λ (q : Running). is_txn t q.txn) rs r those is)

  -- programs
  puts : (turn : Turn SiteState) (r : Running) → nat_le r.asks m ≡ true → Most turn → Most (with_running turn r)
  puts turn r this most = put_most m r turn.state.running this most

  asks : (turn : Turn SiteState) (r : Running) (x : Item) → nat_le (r.asks + 1) m ≡ true → Most turn → Most (ask turn r x)
  asks turn r x this most = puts turn (record r { asks = r.asks + 1; phase = asking (r.asks + 1) x None }) this most

  less : (a : ℕ) → nat_le (a + 1) m ≡ true → nat_le a m ≡ true
  less a this = grind (arith, this)

  own_case : (state : SiteState) (staged : List (Txn × List (Item × ℤ))) (b : Bool) → (if b then record state { staged = staged } else state).running ≡ state.running
  own_case state staged true = refl
  own_case state staged false = refl

  prepares : (turn : Turn SiteState) (r : Running) (o : Outcome) → nat_le (r.asks + 1) m ≡ true → Most turn → Most (prepare w turn r o)
  prepares turn r o this most =
      let same : (stage_own w turn.state r.txn o.writes).running ≡ turn.state.running = own_case turn.state _ (holds_some w o.writes turn.state.site) in
      put_most m (record r { phase = preparing o.reads o.writes (voters w turn.state o.writes) }) (stage_own w turn.state r.txn o.writes).running (less r.asks this) (ap (λ rs. asks_at_most m rs) same ∙ most)

  turns_to : (turn : Turn SiteState) (r : Running) (o : Outcome) (want : Want) → nat_le (r.asks + 1) m ≡ true → Most turn → Most (turn_to w turn r o want)
  turns_to turn r o (wants.Read x) this most = asks turn r x this most
  turns_to turn r o wants.Done this most = prepares turn r o this most
  turns_to turn r o wants.Own this most = puts turn (record r { phase = sent }) (less r.asks this) most
  turns_to turn r o wants.Overflow this most = puts turn (record r { phase = sent }) (less r.asks this) most

  goes_on : (turn : Turn SiteState) (r : Running) → nat_le (r.asks + 1) m ≡ true → Most turn → Most (go_on w turn r)
  goes_on turn r this most = let o = outcome_of (program w r.txn) (λ x. first_of x r.answers) in turns_to turn r o o.end this most

  begins : (turn : Turn SiteState) (t : Txn) → nat_le 1 m ≡ true → Most turn → Most (begin w turn t)
  begins turn t one most = goes_on (tell turn (letters.Begin t)) (record { txn = t; answers = []; asks = 0; phase = sent }) one most

  begins_next : (turn : Turn SiteState) → nat_le 1 m ≡ true → Most turn → Most (begin_next w turn)
  begins_next turn one most =
      either (turn.state.next == 0) turn (begin w (with_state turn (record (turn.state) { next = following w turn.state.site turn.state.next })) (record { 0 = turn.state.next })) most
      (begins (with_state turn (record (turn.state) { next = following w turn.state.site turn.state.next })) (record { 0 = turn.state.next }) one most)

  starts : (turn : Turn SiteState) → nat_le 1 m ≡ true → Most turn → Most (start w turn)
  starts turn one most = folds (λ t k. begin_next w t) turn (count_from 0 (w.together - length turn.state.running)) (λ t k most. begins_next t one most) most

  leaves : (turn : Turn SiteState) (t : Txn) → Most turn → Most (ended turn t)
  leaves turn t most = all_filtered (λ (r : Running). nat_le r.asks m) (λ (r : Running). not (is_txn t r.txn)) turn.state.running most

  gives_to : (turn : Turn SiteState) (k : ℕ) (v : ℤ) (r : Running) (phase : Phase) → nat_le (r.asks + 1) m ≡ true → Most turn → Most (give_to w turn k v r phase)
  gives_to turn k v r (asking j x s) this most = either (j == k) (go_on w turn (record r { answers = put r.answers x v })) turn (goes_on turn (record r { answers = put r.answers x v }) this most) most
  gives_to turn k v r (preparing reads writes awaited) this most = most
  gives_to turn k v r sent this most = most

  changes : (turn : Turn SiteState) (t : Txn) (f : Phase → Phase) → Most turn → Most (change turn t f)
  changes turn t f most =
      found m (λ r. with_running turn (record r { phase = f r.phase })) turn t turn.state.running (running_of turn.state t) refl most (λ r this. puts turn (record r { phase = f r.phase }) this most) most

  loses : (s : Site) (turn : Turn SiteState) (r : Running) (phase : Phase) → nat_le (r.asks + 1) m ≡ true → Most turn → Most (lose s turn r phase)
  loses s turn r (asking k x None) this most = most
  loses s turn r (asking k x (Some q)) this most = either (is_site s q) (ask turn r x) turn (asks turn r x this most) most
  loses s turn r (preparing reads writes awaited) this most = puts turn (record r { phase = without_vote s r.phase }) (less r.asks this) most
  loses s turn r sent this most = most

  joins : (s : Site) (turn : Turn SiteState) (r : Running) (phase : Phase) → nat_le r.asks m ≡ true → Most turn → Most (join w s turn r phase)
  joins s turn r (asking k x q) this most = most
  joins s turn r (preparing reads writes awaited) this most =
      either (holds_some w writes s) _ turn (puts turn (record r { phase = preparing reads writes (with_vote s awaited) }) this most) most
  joins s turn r sent this most = most

  asks_commit : (turn : Turn SiteState) (r : Running) (phase : Phase) → nat_le r.asks m ≡ true → Most turn → Most (ask_commit turn r phase)
  asks_commit turn r (asking k x q) this most = most
  asks_commit turn r (preparing reads writes []) this most = puts turn (record r { phase = sent }) this most
  asks_commit turn r (preparing reads writes (s ∷ ss)) this most = most
  asks_commit turn r sent this most = most

  asks_commits : (turn : Turn SiteState) → Most turn → Most (ask_commits turn)
  asks_commits turn most = folds_over m (λ now r. ask_commit now r r.phase) turn turn.state.running most (λ now r this most. asks_commit now r r.phase this most) most

-- A step: at most once more.
module _ (w : Workload) (n : ℕ) where
  gives : (turn : Turn SiteState) (t : Txn) (k : ℕ) (v : ℤ) → Most w n turn → Most w (n + 1) (give w turn t k v)
  gives turn t k v most =
      found w (n + 1) n (λ r. give_to w turn k v r r.phase) turn t turn.state.running (running_of turn.state t) refl most
      (λ r this. gives_to w (n + 1) turn k v r r.phase (next_at n r.asks this) (more n turn.state.running most)) (more n turn.state.running most)

  one_more : nat_le 1 (n + 1) ≡ true
  one_more = grind arith

  serves : (turn : Turn SiteState) (t : Txn) (k : ℕ) (h : Site) (s : ℕ) (c : Copy) → Most w n turn → Most w (n + 1) (rows.serve w turn t k h s c)
  serves turn t k h s c most = either w (n + 1) (is_site turn.state.site h) (give w turn t k c.value) _ (gives turn t k c.value most) (more n turn.state.running most)

  applies : (turn : Turn SiteState) (t : Txn) (number : ℕ) → Most w n turn → Most w (n + 1) (rows.apply_row turn t number)
  applies turn t number most =
      options w (n + 1) (λ ps. tell (with_state turn (apply turn.state t number ps)) (letters.Ack t)) (staged_of turn.state t) turn (λ ps. more n turn.state.running most) (more n turn.state.running most)

  drops : (turn : Turn SiteState) (t : Txn) (again : Bool) → Most w n turn → Most w (n + 1) (rows.drop_row w turn t again)
  drops turn t again most =
      let before = with_state turn (record (turn.state) { staged = unstage t turn.state.staged }) in
      let dropped = ended before t in
      let left = leaves w (n + 1) before t (more n turn.state.running most) in
      starts w (n + 1) (if runs_here turn.state t && again then begin w dropped (next_attempt w t) else dropped) one_more
      (either w (n + 1) (runs_here turn.state t && again) (begin w dropped (next_attempt w t)) dropped (begins w (n + 1) dropped (next_attempt w t) one_more left) left)

  downs : (turn : Turn SiteState) (s : Site) → Most w n turn → Most w (n + 1) (rows.down_row turn s)
  downs turn s most =
      folds_over w (n + 1) n (λ now r. lose s now r r.phase) (rows.with_vector turn s 0) turn.state.running most
      (λ now r this those. loses w (n + 1) s now r r.phase (next_at n r.asks this) those) (more n turn.state.running most)

  ups : (turn : Turn SiteState) (s : Site) (k : ℕ) → Most w n turn → Most w (n + 1) (rows.up_row w turn s k)
  ups turn s k most =
      folds_over w (n + 1) n (λ now r. join w s now r r.phase) (rows.with_vector turn s k) turn.state.running most
      (λ now r this those. joins w (n + 1) s now r r.phase (more_at n r.asks this) those) (more n turn.state.running most)

  votes : (turn : Turn SiteState) (t : Txn) (s : Site) (k : ℕ) (answer : Answer) → Most w (n + 1) turn → Most w (n + 1) (rows.vote_row turn t s k answer)
  votes turn t s k Yes most = either w (n + 1) (session turn.state.vector s == k) (change turn t (without_vote s)) turn (changes w (n + 1) turn t (without_vote s) most) most
  votes turn t s k (No named own) most = most

  refreshes : (turn : Turn SiteState) (x : Item) (v : ℤ) (version : ℕ) (c : Copy) → Most w (n + 1) turn → Most w (n + 1) (rows.refresh turn x v version c)
  refreshes turn x v version c most =
      let renewed = with_state turn (record (turn.state) { copies = set_copy x v version turn.state.copies }) in
      either w (n + 1) (nat_le c.version version) (tell renewed (letters.CopyDone x version)) turn most most

  sequencer_rows : (turn : Turn SiteState) (m : Message) → Most w n turn → Most w (n + 1) (rows.sequencer_row w turn m)
  sequencer_rows turn (letters.Welcome v next) most = starts w (n + 1) (with_state turn (record (turn.state) { vector = v; next = next })) one_more (more n turn.state.running most)
  sequencer_rows turn (letters.ReadDo t k x h s) most = options w (n + 1) (rows.serve w turn t k h s) (copy_of turn.state x) turn (λ c. serves turn t k h s c most) (more n turn.state.running most)
  sequencer_rows turn (letters.Serving t k s) most = changes w (n + 1) turn t (noted_at k s) (more n turn.state.running most)
  sequencer_rows turn (letters.Apply t number) most = applies turn t number most
  sequencer_rows turn (letters.Done t) most = starts w (n + 1) (ended turn t) one_more (leaves w (n + 1) turn t (more n turn.state.running most))
  sequencer_rows turn (letters.Drop t again) most = drops turn t again most
  sequencer_rows turn (letters.DownNote s) most = downs turn s most
  sequencer_rows turn (letters.UpNote s k) most = ups turn s k most
  sequencer_rows turn (letters.CopyDo x target k) most =
      options w (n + 1) _ (copy_of turn.state x) turn (λ c. more n turn.state.running most) (more n turn.state.running most)
  sequencer_rows turn other most = more n turn.state.running most

  peer_rows : (turn : Turn SiteState) (s : Site) (k : ℕ) (m : Message) → Most w n turn → Most w (n + 1) (rows.peer_row w turn s k m)
  peer_rows turn s k (letters.Value t ask v) most = gives turn t ask v most
  peer_rows turn s k (letters.Prepare t writes) most = more n turn.state.running most
  peer_rows turn s k (letters.Vote t answer) most = votes turn t s k answer (more n turn.state.running most)
  peer_rows turn s k (letters.CopyValue x v version) most = options w (n + 1) (rows.refresh turn x v version) (copy_of turn.state x) turn (λ c. refreshes turn x v version c (more n turn.state.running most)) (more n turn.state.running most)
  peer_rows turn s k other most = more n turn.state.running most

  hears_if : (fits : Bool) (state : SiteState) (after : Turn SiteState) → asks_at_most n state.running ≡ true → Most w (n + 1) after → Most w (n + 1) (rows.hear_if fits state after)
  hears_if true state after before most = asks_commits w (n + 1) after most
  hears_if false state after before most = more n state.running before

  refuses : (state : SiteState) (from : ℕ) (letter : Letter) (m : Message) → asks_at_most n state.running ≡ true → Most w (n + 1) (rows.refuse state from letter m)
  refuses state from letter (letters.Prepare t writes) most = more n state.running most
  refuses state from letter other most = more n state.running most

  stops : (state : SiteState) (m : Message) → asks_at_most n state.running ≡ true → Most w (n + 1) (rows.stop w state m)
  stops state letters.Stop most = refl
  stops state other most = more n state.running most

  returns : (state : SiteState) (m : Message) → asks_at_most n state.running ≡ true → Most w (n + 1) (rows.return state m)
  returns state letters.Return most = more n state.running most
  returns state other most = more n state.running most

  hears_up : (state : SiteState) (from : ℕ) (letter : Letter) → asks_at_most n state.running ≡ true → Most w (n + 1) (rows.hear_up w state from letter)
  hears_up state zero letter most = stops state letter.message most
  hears_up state (suc zero) letter most =
      either w (n + 1) (letter.to == state.session) (rows.hear_sequencer w state letter) (opened state)
      (hears_if (is_of_sequencer w letter.message && rows.fits_here w state letter.message) state (rows.sequencer_row w (opened state) letter.message) most (sequencer_rows (opened state) letter.message most))
      (more n state.running most)
  hears_up state (suc (suc k)) letter most =
      either w (n + 1) (letter.to == state.session) (rows.hear_peer w state (site (k + 1)) letter) (rows.refuse state (k + 2) letter letter.message)
      (hears_if (is_of_site w letter.message && rows.fits_here w state letter.message) state (rows.peer_row w (opened state) (site (k + 1)) letter.from letter.message) most (peer_rows (opened state) (site (k + 1)) letter.from letter.message most))
      (refuses state (k + 2) letter letter.message most)

  hears_down : (state : SiteState) (from : ℕ) (letter : Letter) → asks_at_most n state.running ≡ true → Most w (n + 1) (rows.hear_down state from letter)
  hears_down state zero letter most = returns state letter.message most
  hears_down state (suc k) letter most = more n state.running most

  pub asks_once : (state : SiteState) (from : ℕ) (letter : Letter) → asks_at_most n state.running ≡ true → asks_at_most (n + 1) (rows.hear_site w state from letter).state.running ≡ true
  asks_once state from letter most = either w (n + 1) state.up (rows.hear_up w state from letter) (rows.hear_down state from letter) (hears_up state from letter most) (hears_down state from letter most)
