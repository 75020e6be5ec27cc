-- Which site it is, and in which session: what a step makes of it.
use Rattle.std.proofs.Common.{◌≡◌, ℕ, ℤ, zero, suc, ◌+◌, ◌-◌, ◌≤◌, ◌==◌, nat_le, Bool, true, false, ◌&&◌, if◌then◌else◌, List, [], ◌∷◌, fold, length, Option, Some, None, arith, sym, subst, ◌∙◌, refl}
use Rattle.std.specs.Option.{option_map_or}
use Rattle.raid_base.specs.declared.names.Txn.{Txn}
use Rattle.raid_base.specs.declared.names.Item.{Item}
use Rattle.raid_base.specs.declared.names.Site.{Site}
use Rattle.raid_base.specs.declared.entry.Answer.{Answer}
use Rattle.raid_base.specs.declared.entry.Answer.TheVariants.{Yes, No}
use Rattle.raid_base.specs.Names.{is_site}
use Rattle.raid_base.specs.Find.{first_of}
use Rattle.raid_base.specs.Sites.{session, site}
use Rattle.raid_program.specs.declared.program.Want.{Want}
use Rattle.raid_program.specs.declared.program.Want.TheVariants as wants
use Rattle.raid_program.specs.declared.program.Outcome.{Outcome}
use Rattle.raid_program.specs.Run.{outcome_of, put}
use Rattle.raid_workload.specs.declared.workload.Workload.{Workload}
use Rattle.raid_workload.specs.Parts.{count_from, program}
use Rattle.raid_legal.specs.Seen.{holds_some}
use Rattle.raid_message.specs.declared.letter.Message.{Message}
use Rattle.raid_message.specs.declared.letter.Message.TheVariants as letters
use Rattle.raid_message.specs.declared.letter.Letter.{Letter}
use Rattle.raid_steps.specs.State.{Turn, with_state, opened, tell, Phase, asking, preparing, sent, Running, SiteState}
use Rattle.raid_steps.specs.Fits.{is_of_sequencer, is_of_site}
use Rattle.raid_steps.specs.Copies.{copy_of, staged_of, apply, unstage}
use Rattle.raid_steps.specs.Programs.{running_of, runs_here, with_running, change, ended, ask, turn_to, go_on, begin, following, begin_next, start, give_to, give, without_vote, lose, join, ask_commit, ask_commits, next_attempt}
use Rattle.raid_steps.specs.Site as rows

-- which site it is, and its session
abbrev pub mark : SiteState → Site × ℕ
mark state = (state.site, state.session)

module _ (w : Workload) (m : Site × ℕ) where
  abbrev Kept : Turn SiteState → Type 0
  Kept turn = mark turn.state ≡ m

  either : (b : Bool) (x y : Turn SiteState) → Kept x → Kept y → Kept (if b then x else y)
  either true x y kept kept_too = kept
  either false x y kept kept_too = kept_too

  folds : {X : Type 0} (step : Turn SiteState → X → Turn SiteState) (turn : Turn SiteState) (xs : List X) →
      ((turn : Turn SiteState) (x : X) → Kept turn → Kept (step turn x)) → Kept turn → Kept (fold step turn xs)
  folds step turn [] each kept = kept
  folds step turn (x ∷ xs) each kept = folds step (step turn x) xs each (each turn x kept)

  options : {X : Type 0} (f : X → Turn SiteState) (o : Option X) (turn : Turn SiteState) → ((x : X) → Kept (f x)) → Kept turn → Kept (option_map_or f o turn)
  options f None turn each kept = kept
  options f (Some x) turn each kept = each x

  -- programs
  staged_case : (state : SiteState) (staged : List (Txn × List (Item × ℤ))) (b : Bool) → mark (if b then record state { staged = staged } else state) ≡ mark state
  staged_case state staged true = refl
  staged_case state staged false = refl

  turns_to : (turn : Turn SiteState) (r : Running) (o : Outcome) (want : Want) → Kept turn → Kept (turn_to w turn r o want)
  turns_to turn r o (wants.Read x) kept = kept
  turns_to turn r o wants.Done kept = staged_case turn.state _ (holds_some w o.writes turn.state.site) ∙ kept
  turns_to turn r o wants.Own kept = kept
  turns_to turn r o wants.Overflow kept = kept

  goes_on : (turn : Turn SiteState) (r : Running) → Kept turn → Kept (go_on w turn r)
  goes_on turn r kept = let o = outcome_of (program w r.txn) (λ x. first_of x r.answers) in turns_to turn r o o.end kept

  begins : (turn : Turn SiteState) (t : Txn) → Kept turn → Kept (begin w turn t)
  begins turn t kept = goes_on (tell turn (letters.Begin t)) (record { txn = t; answers = []; asks = 0; phase = sent }) kept

  begins_next : (turn : Turn SiteState) → Kept turn → Kept (begin_next w turn)
  begins_next turn kept =
      either (turn.state.next == 0) turn (begin w (with_state turn (record (turn.state) { next = following w turn.state.site turn.state.next })) (record { 0 = turn.state.next })) kept
      (begins (with_state turn (record (turn.state) { next = following w turn.state.site turn.state.next })) (record { 0 = turn.state.next }) kept)

  starts : (turn : Turn SiteState) → Kept turn → Kept (start w turn)
  starts turn kept = folds (λ t k. begin_next w t) turn (count_from 0 (w.together - length turn.state.running)) (λ t k kept. begins_next t kept) kept

  gives_to : (turn : Turn SiteState) (k : ℕ) (v : ℤ) (r : Running) (phase : Phase) → Kept turn → Kept (give_to w turn k v r phase)
  gives_to turn k v r (asking j x s) kept = either (j == k) (go_on w turn (record r { answers = put r.answers x v })) turn (goes_on turn (record r { answers = put r.answers x v }) kept) kept
  gives_to turn k v r (preparing reads writes awaited) kept = kept
  gives_to turn k v r sent kept = kept

  gives : (turn : Turn SiteState) (t : Txn) (k : ℕ) (v : ℤ) → Kept turn → Kept (give w turn t k v)
  gives turn t k v kept = options (λ r. give_to w turn k v r r.phase) (running_of turn.state t) turn (λ r. gives_to turn k v r r.phase kept) kept

  changes : (turn : Turn SiteState) (t : Txn) (f : Phase → Phase) → Kept turn → Kept (change turn t f)
  changes turn t f kept = options (λ r. with_running turn (record r { phase = f r.phase })) (running_of turn.state t) turn (λ r. kept) kept

  loses : (s : Site) (turn : Turn SiteState) (r : Running) (phase : Phase) → Kept turn → Kept (lose s turn r phase)
  loses s turn r (asking k x None) kept = kept
  loses s turn r (asking k x (Some q)) kept = either (is_site s q) (ask turn r x) turn kept kept
  loses s turn r (preparing reads writes awaited) kept = kept
  loses s turn r sent kept = kept

  joins : (s : Site) (turn : Turn SiteState) (r : Running) (phase : Phase) → Kept turn → Kept (join w s turn r phase)
  joins s turn r (asking k x q) kept = kept
  joins s turn r (preparing reads writes awaited) kept = either (holds_some w writes s) _ turn kept kept
  joins s turn r sent kept = kept

  asks_commit : (turn : Turn SiteState) (r : Running) (phase : Phase) → Kept turn → Kept (ask_commit turn r phase)
  asks_commit turn r (asking k x q) kept = kept
  asks_commit turn r (preparing reads writes []) kept = kept
  asks_commit turn r (preparing reads writes (s ∷ ss)) kept = kept
  asks_commit turn r sent kept = kept

  asks_commits : (turn : Turn SiteState) → Kept turn → Kept (ask_commits turn)
  asks_commits turn kept = folds (λ now r. ask_commit now r r.phase) turn turn.state.running (λ now r kept. asks_commit now r r.phase kept) kept

  -- the rows
  drops : (turn : Turn SiteState) (t : Txn) (again : Bool) → Kept turn → Kept (rows.drop_row w turn t again)
  drops turn t again kept =
      let dropped = ended (with_state turn (record (turn.state) { staged = unstage t turn.state.staged })) t in
      starts (if runs_here turn.state t && again then begin w dropped (next_attempt w t) else dropped)
      (either (runs_here turn.state t && again) (begin w dropped (next_attempt w t)) dropped (begins dropped (next_attempt w t) kept) kept)

  votes : (turn : Turn SiteState) (t : Txn) (s : Site) (k : ℕ) (answer : Answer) → Kept turn → Kept (rows.vote_row turn t s k answer)
  votes turn t s k Yes kept = either (session turn.state.vector s == k) (change turn t (without_vote s)) turn (changes turn t (without_vote s) kept) kept
  votes turn t s k (No named own) kept = kept

  sequencer_rows : (turn : Turn SiteState) (m : Message) → Kept turn → Kept (rows.sequencer_row w turn m)
  sequencer_rows turn (letters.Welcome v next) kept = starts (with_state turn (record (turn.state) { vector = v; next = next })) kept
  sequencer_rows turn (letters.ReadDo t k x h s) kept =
      options (rows.serve w turn t k h s) (copy_of turn.state x) turn (λ c. either (is_site turn.state.site h) (give w turn t k c.value) _ (gives turn t k c.value kept) kept) kept
  sequencer_rows turn (letters.Serving t k s) kept = changes turn t _ kept
  sequencer_rows turn (letters.Apply t number) kept = options (λ ps. tell (with_state turn (apply turn.state t number ps)) (letters.Ack t)) (staged_of turn.state t) turn (λ ps. kept) kept
  sequencer_rows turn (letters.Done t) kept = starts (ended turn t) kept
  sequencer_rows turn (letters.Drop t again) kept = drops turn t again kept
  sequencer_rows turn (letters.DownNote s) kept = folds (λ now r. lose s now r r.phase) (rows.with_vector turn s 0) turn.state.running (λ now r kept. loses s now r r.phase kept) kept
  sequencer_rows turn (letters.UpNote s k) kept = folds (λ now r. join w s now r r.phase) (rows.with_vector turn s k) turn.state.running (λ now r kept. joins s now r r.phase kept) kept
  sequencer_rows turn (letters.CopyDo x target k) kept = options _ (copy_of turn.state x) turn (λ c. kept) kept
  sequencer_rows turn other kept = kept

  peer_rows : (turn : Turn SiteState) (s : Site) (k : ℕ) (m : Message) → Kept turn → Kept (rows.peer_row w turn s k m)
  peer_rows turn s k (letters.Value t ask v) kept = gives turn t ask v kept
  peer_rows turn s k (letters.Prepare t writes) kept = kept
  peer_rows turn s k (letters.Vote t answer) kept = votes turn t s k answer kept
  peer_rows turn s k (letters.CopyValue x v version) kept = options (rows.refresh turn x v version) (copy_of turn.state x) turn (λ c. either (nat_le c.version version) _ turn kept kept) kept
  peer_rows turn s k other kept = kept

  hears_if : (fits : Bool) (state : SiteState) (after : Turn SiteState) → mark state ≡ m → Kept after → Kept (rows.hear_if fits state after)
  hears_if true state after before kept = asks_commits after kept
  hears_if false state after before kept = before

-- a site that is heard in a session
refuses : (state : SiteState) (from : ℕ) (letter : Letter) (m : Message) → mark (rows.refuse state from letter m).state ≡ mark state
refuses state from letter (letters.Prepare t writes) = refl
refuses state from letter other = refl

-- Of the marks before and after a step: the site is the same, and the session at most one more.
pub record Stays (before after : Site × ℕ) : Type 0 where
  pub site : after.0 ≡ before.0
  pub session : after.1 ≤ before.1 + 1

same_stays : (before after : Site × ℕ) → after ≡ before → Stays before after
same_stays before after same = subst (λ z. Stays before z) (sym same) (record { site = refl; session = omega arith })

module _ (w : Workload) where
  stops : (state : SiteState) (m : Message) → Stays (mark state) (mark (rows.stop w state m).state)
  stops state letters.Stop = same_stays (mark state) (mark state) refl
  stops state other = same_stays (mark state) (mark state) refl

  returns : (state : SiteState) (m : Message) → Stays (mark state) (mark (rows.return state m).state)
  returns state letters.Return = record { site = refl; session = omega arith }
  returns state other = same_stays (mark state) (mark state) refl

  hears_up : (state : SiteState) (from : ℕ) (letter : Letter) → Stays (mark state) (mark (rows.hear_up w state from letter).state)
  hears_up state zero letter = stops state letter.message
  hears_up state (suc zero) letter = same_stays _ _ (
      either w (mark state) (letter.to == state.session) (rows.hear_sequencer w state letter) (opened state)
      (hears_if w (mark state) (is_of_sequencer w letter.message && rows.fits_here w state letter.message) state (rows.sequencer_row w (opened state) letter.message) refl (sequencer_rows w (mark state) (opened state) letter.message refl)) refl)
  hears_up state (suc (suc k)) letter = same_stays _ _ (
      either w (mark state) (letter.to == state.session) (rows.hear_peer w state (site (k + 1)) letter) (rows.refuse state (k + 2) letter letter.message)
      (hears_if w (mark state) (is_of_site w letter.message && rows.fits_here w state letter.message) state (rows.peer_row w (opened state) (site (k + 1)) letter.from letter.message) refl (peer_rows w (mark state) (opened state) (site (k + 1)) letter.from letter.message refl))
      (refuses state (k + 2) letter letter.message))

  hears_down : (state : SiteState) (from : ℕ) (letter : Letter) → Stays (mark state) (mark (rows.hear_down state from letter).state)
  hears_down state zero letter = returns state letter.message
  hears_down state (suc k) letter = same_stays (mark state) (mark state) refl

  pub stays : (state : SiteState) (from : ℕ) (letter : Letter) → Stays (mark state) (mark (rows.hear_site w state from letter).state)
  stays state from letter = chosen state.up (rows.hear_up w state from letter) (rows.hear_down state from letter) (hears_up state from letter) (hears_down state from letter)
    where
      chosen : (b : Bool) (x y : Turn SiteState) → Stays (mark state) (mark x.state) → Stays (mark state) (mark y.state) → Stays (mark state) (mark (if b then x else y).state)
      chosen true x y one two = one
      chosen false x y one two = two
