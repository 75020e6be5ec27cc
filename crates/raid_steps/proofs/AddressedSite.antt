-- What a site sends goes to whom the table of letters says.
use Rattle.std.proofs.Common.{◌≡◌, ℕ, zero, suc, ◌+◌, ◌<◌, ◌==◌, nat_le, Bool, true, false, not, ◌&&◌, List, [], ◌∷◌, length, ◌-◌, fold, map, Option, Some, None, if◌then◌else◌, arith, sym, subst, refl, ℤ}
use Rattle.std.specs.List.{list_all}
use Rattle.std.specs.Option.{option_map_or}
use Rattle.std.proofs.lemmas.Bool.{true≢false, and_parts, and_from}
use Rattle.std.proofs.lemmas.Grind.{common_steps}
use Rattle.raid_base.specs.declared.names.Txn.{Txn}
use Rattle.raid_base.specs.declared.names.Item.{Item}
use Rattle.raid_base.specs.declared.names.Site.{Site}
use Rattle.raid_base.specs.declared.entry.Cause.{Cause}
use Rattle.raid_base.specs.declared.entry.Cause.TheVariants as causes
use Rattle.raid_base.specs.declared.entry.Answer.{Answer}
use Rattle.raid_base.specs.declared.entry.Answer.TheVariants.{Yes, No}
use Rattle.raid_base.specs.Names.{is_site}
use Rattle.raid_base.specs.Find.{first_of}
use Rattle.raid_base.specs.Sites.{session, site}
use Rattle.raid_program.specs.declared.program.Want.{Want}
use Rattle.raid_program.specs.declared.program.Want.TheVariants as wants
use Rattle.raid_program.specs.declared.program.Outcome.{Outcome}
use Rattle.raid_program.specs.Run.{outcome_of, put}
use Rattle.raid_workload.specs.declared.workload.Workload.{Workload}
use Rattle.raid_workload.specs.Parts.{count_from, sites, program}
use Rattle.raid_rules.specs.Sessions.{is_site_up}
use Rattle.raid_legal.specs.Seen.{holds_some}
use Rattle.raid_message.specs.declared.letter.Message.{Message}
use Rattle.raid_message.specs.declared.letter.Message.TheVariants as letters
use Rattle.raid_message.specs.declared.letter.Letter.{Letter}
use Rattle.raid_steps.specs.State.{Turn, with_state, opened, send, tell, to_site, Copy, Phase, asking, preparing, sent, Running, SiteState}
use Rattle.raid_steps.specs.Fits.{knows_txn, knows_site, knows_item, is_of_sequencer, is_of_site}
use Rattle.raid_steps.specs.Table.{may_site, is_request, is_exchange}
use Rattle.raid_steps.specs.Copies.{copy_of, staged_of, apply, unstage, stage, set_copy}
use Rattle.raid_steps.specs.Programs.{running_of, runs_here, with_running, change, ended, ask, end_by, held_by, prepare_out, voters, prepare, turn_to, go_on, begin, following, begin_next, start, give_to, give, noted_at, with_vote, lose, join, ask_commit, ask_commits, next_attempt}
use Rattle.raid_steps.specs.Site as rows
use Rattle.raid_steps.proofs.Parts.{all_filtered, all_appended, sites_known, number_known}

module _ (w : Workload) where
  -- all that was sent goes where it may
  abbrev pub Right : Turn SiteState → Type 0
  Right turn = list_all (may_site w) turn.outs ≡ true

  -- the sequencer gets what is a request, a known site what is an exchange
  tells : (turn : Turn SiteState) (m : Message) → is_request m ≡ true → Right turn → Right (tell turn m)
  tells turn m fits right = all_appended (may_site w) turn.outs ((1, 0, m) ∷ []) right (grind (arith, common_steps, fits))

  to_known : (s : Site) (session : ℕ) (m : Message) → knows_site w s ≡ true → is_exchange m ≡ true → may_site w (s.0 + 1, session, m) ≡ true
  to_known s session m known fits = grind (arith, common_steps, known, fits)

  sends_known : (turn : Turn SiteState) (s : Site) (session : ℕ) (m : Message) → knows_site w s ≡ true → is_exchange m ≡ true → Right turn → Right (send turn (s.0 + 1, session, m))
  sends_known turn s session m known fits right =
      all_appended (may_site w) turn.outs ((s.0 + 1, session, m) ∷ []) right (and_from (may_site w (s.0 + 1, session, m)) true (to_known s session m known fits) refl)

  -- the same by cases and in rows
  either : (b : Bool) (x y : Turn SiteState) → Right x → Right y → Right (if b then x else y)
  either true x y right right_too = right
  either false x y right right_too = right_too

  folds : {X : Type 0} (step : Turn SiteState → X → Turn SiteState) (turn : Turn SiteState) (xs : List X) →
      ((turn : Turn SiteState) (x : X) → Right turn → Right (step turn x)) → Right turn → Right (fold step turn xs)
  folds step turn [] each right = right
  folds step turn (x ∷ xs) each right = folds step (step turn x) xs each (each turn x right)

  options : {X : Type 0} (f : X → Turn SiteState) (o : Option X) (turn : Turn SiteState) → ((x : X) → Right (f x)) → Right turn → Right (option_map_or f o turn)
  options f None turn each right = right
  options f (Some x) turn each right = each x

  -- programs
  asks : (turn : Turn SiteState) (r : Running) (x : Item) → Right turn → Right (ask turn r x)
  asks turn r x right = tells (with_running turn (record r { asks = r.asks + 1; phase = asking (r.asks + 1) x None })) (letters.ReadAsk r.txn (r.asks + 1) x) refl right

  ends : (turn : Turn SiteState) (r : Running) (cause : Cause) (o : Outcome) → Right turn → Right (end_by turn r cause o)
  ends turn r cause o right = tells (with_running turn (record r { phase = sent })) (letters.EndAsk r.txn cause o.reads) refl right

  prepared : (v : List ℕ) (t : Txn) (writes : List (Item × ℤ)) (ss : List Site) → list_all (knows_site w) ss ≡ true → list_all (may_site w) (map (prepare_out w v t writes) ss) ≡ true
  prepared v t writes [] known = refl
  prepared v t writes (s ∷ ss) known =
      let parts = and_parts (knows_site w s) (list_all (knows_site w) ss) known in
      and_from (may_site w (prepare_out w v t writes s)) (list_all (may_site w) (map (prepare_out w v t writes) ss)) (to_known s (session v s) (letters.Prepare t (held_by w s writes)) parts.0 refl) (prepared v t writes ss parts.1)

  prepares : (turn : Turn SiteState) (r : Running) (o : Outcome) → Right turn → Right (prepare w turn r o)
  prepares turn r o right =
      all_appended (may_site w) turn.outs (map (prepare_out w turn.state.vector r.txn o.writes) (voters w turn.state o.writes)) right
      (prepared turn.state.vector r.txn o.writes (voters w turn.state o.writes) (all_filtered (knows_site w) (λ s. is_site_up turn.state.vector s && not (is_site turn.state.site s) && holds_some w o.writes s) (sites w) (sites_known w)))

  turns_to : (turn : Turn SiteState) (r : Running) (o : Outcome) (want : Want) → Right turn → Right (turn_to w turn r o want)
  turns_to turn r o (wants.Read x) right = asks turn r x right
  turns_to turn r o wants.Done right = prepares turn r o right
  turns_to turn r o wants.Own right = ends turn r causes.Own o right
  turns_to turn r o wants.Overflow right = ends turn r causes.Overflow o right

  goes_on : (turn : Turn SiteState) (r : Running) → Right turn → Right (go_on w turn r)
  goes_on turn r right = let o = outcome_of (program w r.txn) (λ x. first_of x r.answers) in turns_to turn r o o.end right

  begins : (turn : Turn SiteState) (t : Txn) → Right turn → Right (begin w turn t)
  begins turn t right = goes_on (tell turn (letters.Begin t)) (record { txn = t; answers = []; asks = 0; phase = sent }) (tells turn (letters.Begin t) refl right)

  begins_next : (turn : Turn SiteState) → Right turn → Right (begin_next w turn)
  begins_next turn right =
      either (turn.state.next == 0) turn (begin w (with_state turn (record (turn.state) { next = following w turn.state.site turn.state.next })) (record { 0 = turn.state.next })) right
      (begins (with_state turn (record (turn.state) { next = following w turn.state.site turn.state.next })) (record { 0 = turn.state.next }) right)

  starts : (turn : Turn SiteState) → Right turn → Right (start w turn)
  starts turn right = folds (λ t k. begin_next w t) turn (count_from 0 (w.together - length turn.state.running)) (λ t k right. begins_next t right) right

  gives_to : (turn : Turn SiteState) (k : ℕ) (v : ℤ) (r : Running) (phase : Phase) → Right turn → Right (give_to w turn k v r phase)
  gives_to turn k v r (asking j x s) right = either (j == k) (go_on w turn (record r { answers = put r.answers x v })) turn (goes_on turn (record r { answers = put r.answers x v }) right) right
  gives_to turn k v r (preparing reads writes awaited) right = right
  gives_to turn k v r sent right = right

  gives : (turn : Turn SiteState) (t : Txn) (k : ℕ) (v : ℤ) → Right turn → Right (give w turn t k v)
  gives turn t k v right = options (λ r. give_to w turn k v r r.phase) (running_of turn.state t) turn (λ r. gives_to turn k v r r.phase right) right

  changes : (turn : Turn SiteState) (t : Txn) (f : Phase → Phase) → Right turn → Right (change turn t f)
  changes turn t f right = options (λ r. with_running turn (record r { phase = f r.phase })) (running_of turn.state t) turn (λ r. right) right

  loses : (s : Site) (turn : Turn SiteState) (r : Running) (phase : Phase) → Right turn → Right (lose s turn r phase)
  loses s turn r (asking k x None) right = right
  loses s turn r (asking k x (Some q)) right = either (is_site s q) (ask turn r x) turn (asks turn r x right) right
  loses s turn r (preparing reads writes awaited) right = right
  loses s turn r sent right = right

  joins : (s : Site) → knows_site w s ≡ true → (turn : Turn SiteState) (r : Running) (phase : Phase) → Right turn → Right (join w s turn r phase)
  joins s known turn r (asking k x q) right = right
  joins s known turn r (preparing reads writes awaited) right =
      let joined = with_running turn (record r { phase = preparing reads writes (with_vote s awaited) }) in
      let prepare = letters.Prepare r.txn (held_by w s writes) in
      either (holds_some w writes s) (send joined (to_site turn.state.vector s prepare)) turn (sends_known joined s (session turn.state.vector s) prepare known refl right) right
  joins s known turn r sent right = right

  asks_commit : (turn : Turn SiteState) (r : Running) (phase : Phase) → Right turn → Right (ask_commit turn r phase)
  asks_commit turn r (asking k x q) right = right
  asks_commit turn r (preparing reads writes []) right = tells (with_running turn (record r { phase = sent })) (letters.CommitAsk r.txn (record { reads = reads; writes = writes; under = turn.state.vector })) refl right
  asks_commit turn r (preparing reads writes (s ∷ ss)) right = right
  asks_commit turn r sent right = right

  asks_commits : (turn : Turn SiteState) → Right turn → Right (ask_commits turn)
  asks_commits turn right = folds (λ now r. ask_commit now r r.phase) turn turn.state.running (λ now r right. asks_commit now r r.phase right) right

  -- the rows
  serves : (turn : Turn SiteState) (t : Txn) (k : ℕ) (h : Site) (n : ℕ) (c : Copy) → knows_site w h ≡ true → Right turn → Right (rows.serve w turn t k h n c)
  serves turn t k h n c known right = either (is_site turn.state.site h) (give w turn t k c.value) _ (gives turn t k c.value right) (sends_known turn h n (letters.Value t k c.value) known refl right)

  reads : (turn : Turn SiteState) (t : Txn) (k : ℕ) (x : Item) (h : Site) (n : ℕ) → knows_site w h ≡ true → Right turn → Right (rows.read_row w turn t k x h n)
  reads turn t k x h n known right = options (rows.serve w turn t k h n) (copy_of turn.state x) turn (λ c. serves turn t k h n c known right) right

  applies : (turn : Turn SiteState) (t : Txn) (number : ℕ) → Right turn → Right (rows.apply_row turn t number)
  applies turn t number right =
      options (λ ps. tell (with_state turn (apply turn.state t number ps)) (letters.Ack t)) (staged_of turn.state t) turn
      (λ ps. tells (with_state turn (apply turn.state t number ps)) (letters.Ack t) refl right) right

  drops : (turn : Turn SiteState) (t : Txn) (again : Bool) → Right turn → Right (rows.drop_row w turn t again)
  drops turn t again right =
      let dropped = ended (with_state turn (record (turn.state) { staged = unstage t turn.state.staged })) t in
      starts (if runs_here turn.state t && again then begin w dropped (next_attempt w t) else dropped)
      (either (runs_here turn.state t && again) (begin w dropped (next_attempt w t)) dropped (begins dropped (next_attempt w t) right) right)

  downs : (turn : Turn SiteState) (s : Site) → Right turn → Right (rows.down_row turn s)
  downs turn s right = folds (λ now r. lose s now r r.phase) (rows.with_vector turn s 0) turn.state.running (λ now r right. loses s now r r.phase right) right

  ups : (turn : Turn SiteState) (s : Site) (n : ℕ) → knows_site w s ≡ true → Right turn → Right (rows.up_row w turn s n)
  ups turn s n known right = folds (λ now r. join w s now r r.phase) (rows.with_vector turn s n) turn.state.running (λ now r right. joins s known now r r.phase right) right

  copies : (turn : Turn SiteState) (x : Item) (target : Site) (n : ℕ) → knows_site w target ≡ true → Right turn → Right (rows.copy_row turn x target n)
  copies turn x target n known right =
      options (λ (c : Copy). send turn (target.0 + 1, n, letters.CopyValue x c.value c.version)) (copy_of turn.state x) turn
      (λ c. sends_known turn target n (letters.CopyValue x c.value c.version) known refl right) right

  votes : (turn : Turn SiteState) (t : Txn) (s : Site) (n : ℕ) (answer : Answer) → Right turn → Right (rows.vote_row turn t s n answer)
  votes turn t s n Yes right = either (session turn.state.vector s == n) (change turn t _) turn (changes turn t _ right) right
  votes turn t s n (No named own) right = right

  refreshes : (turn : Turn SiteState) (x : Item) (v : ℤ) (version : ℕ) (c : Copy) → Right turn → Right (rows.refresh turn x v version c)
  refreshes turn x v version c right =
      let renewed = with_state turn (record (turn.state) { copies = set_copy x v version turn.state.copies }) in
      either (nat_le c.version version) (tell renewed (letters.CopyDone x version)) turn (tells renewed (letters.CopyDone x version) refl right) right

  sequencer_rows : (turn : Turn SiteState) (m : Message) → is_of_sequencer w m ≡ true → Right turn → Right (rows.sequencer_row w turn m)
  sequencer_rows turn (letters.Welcome v next) fits right = starts (with_state turn (record (turn.state) { vector = v; next = next })) right
  sequencer_rows turn (letters.ReadDo t k x h n) fits right = reads turn t k x h n (and_parts (knows_txn w t && knows_item w x) (knows_site w h) fits).1 right
  sequencer_rows turn (letters.Serving t k s) fits right = changes turn t (noted_at k s) right
  sequencer_rows turn (letters.Apply t number) fits right = applies turn t number right
  sequencer_rows turn (letters.Done t) fits right = starts (ended turn t) right
  sequencer_rows turn (letters.Drop t again) fits right = drops turn t again right
  sequencer_rows turn (letters.DownNote s) fits right = downs turn s right
  sequencer_rows turn (letters.UpNote s n) fits right = ups turn s n fits right
  sequencer_rows turn (letters.CopyDo x target n) fits right = copies turn x target n (and_parts (knows_item w x) (knows_site w target) fits).1 right
  sequencer_rows turn other fits right = absurd (true≢false (sym fits))

  peer_rows : (turn : Turn SiteState) (s : Site) (n : ℕ) (m : Message) → knows_site w s ≡ true → is_of_site w m ≡ true → Right turn → Right (rows.peer_row w turn s n m)
  peer_rows turn s n (letters.Value t k v) known fits right = gives turn t k v right
  peer_rows turn s n (letters.Prepare t writes) known fits right =
      sends_known (with_state turn (record (turn.state) { staged = stage t writes turn.state.staged })) s n (letters.Vote t Yes) known refl right
  peer_rows turn s n (letters.Vote t answer) known fits right = votes turn t s n answer right
  peer_rows turn s n (letters.CopyValue x v version) known fits right = options (rows.refresh turn x v version) (copy_of turn.state x) turn (λ c. refreshes turn x v version c right) right
  peer_rows turn s n other known fits right = absurd (true≢false (sym fits))

  -- the step
  hears_if : (fits here : Bool) (state : SiteState) (after : Turn SiteState) → (fits ≡ true → Right after) → Right (rows.hear_if (fits && here) state after)
  hears_if true true state after right = asks_commits after (right refl)
  hears_if true false state after right = refl
  hears_if false here state after right = refl

  refuses : (state : SiteState) (s : Site) (letter : Letter) (m : Message) → knows_site w s ≡ true → Right (rows.refuse state (s.0 + 1) letter m)
  refuses state s letter (letters.Prepare t writes) known = sends_known (opened state) s letter.from (letters.Vote t (No letter.to state.session)) known refl refl
  refuses state s letter other known = refl

  stops : (state : SiteState) (m : Message) → Right (rows.stop w state m)
  stops state letters.Stop = refl
  stops state other = refl

  returns : (state : SiteState) (m : Message) → Right (rows.return state m)
  returns state letters.Return = refl
  returns state other = refl

  hears_up : (state : SiteState) (from : ℕ) (letter : Letter) → from < w.sites + 2 → Right (rows.hear_up w state from letter)
  hears_up state zero letter below = stops state letter.message
  hears_up state (suc zero) letter below =
      either (letter.to == state.session) (rows.hear_sequencer w state letter) (opened state)
      (hears_if (is_of_sequencer w letter.message) (rows.fits_here w state letter.message) state (rows.sequencer_row w (opened state) letter.message) (λ fits. sequencer_rows (opened state) letter.message fits refl)) refl
  hears_up state (suc (suc k)) letter below =
      let known = number_known w k (omega (arith, below)) in
      either (letter.to == state.session) (rows.hear_peer w state (site (k + 1)) letter) (rows.refuse state (k + 2) letter letter.message)
      (hears_if (is_of_site w letter.message) (rows.fits_here w state letter.message) state (rows.peer_row w (opened state) (site (k + 1)) letter.from letter.message)
      (λ fits. peer_rows (opened state) (site (k + 1)) letter.from letter.message known fits refl))
      (subst (λ n. Right (rows.refuse state n letter letter.message)) (omega arith) (refuses state (site (k + 1)) letter letter.message known))

  hears_down : (state : SiteState) (from : ℕ) (letter : Letter) → Right (rows.hear_down state from letter)
  hears_down state zero letter = returns state letter.message
  hears_down state (suc k) letter = refl

  pub site_right : (state : SiteState) (from : ℕ) (letter : Letter) → from < w.sites + 2 → Right (rows.hear_site w state from letter)
  site_right state from letter below = either state.up (rows.hear_up w state from letter) (rows.hear_down state from letter) (hears_up state from letter below) (hears_down state from letter)
