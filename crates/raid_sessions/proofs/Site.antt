-- What a site's step does to its session, and what it tells of it: only a Stop and a Return change it, and only then does it tell the monitor
-- or open a session with the sequencer.
use Rattle.std.proofs.Common.{◌≡◌, ℕ, ℤ, zero, suc, ◌+◌, ◌-◌, ◌==◌, nat_le, Bool, true, false, not, ◌&&◌, List, [], ◌∷◌, ◌++◌, length, map, fold, Option, Some, None, if◌then◌else◌, refl}
use Rattle.std.specs.List.{list_all}
use Rattle.std.specs.Option.{option_map_or}
use Rattle.raid_base.specs.declared.names.Txn.{Txn}
use Rattle.raid_base.specs.declared.names.Item.{Item}
use Rattle.raid_base.specs.declared.names.Site.{Site}
use Rattle.raid_base.specs.declared.entry.Answer.{Answer}
use Rattle.raid_base.specs.declared.entry.Answer.TheVariants.{Yes, No}
use Rattle.raid_base.specs.Names.{is_site}
use Rattle.raid_base.specs.Find.{first_of}
use Rattle.raid_base.specs.Sites.{session, site}
use Rattle.raid_program.specs.declared.program.Outcome.{Outcome}
use Rattle.raid_program.specs.declared.program.Want.{Want}
use Rattle.raid_program.specs.declared.program.Want.TheVariants as wants
use Rattle.raid_program.specs.Run.{outcome_of, put}
use Rattle.raid_workload.specs.declared.workload.Workload.{Workload}
use Rattle.raid_workload.specs.Parts.{count_from, program}
use Rattle.raid_legal.specs.Seen.{holds_some}
use Rattle.raid_message.specs.declared.letter.Message.{Message}
use Rattle.raid_message.specs.declared.letter.Message.TheVariants as letters
use Rattle.raid_message.specs.declared.letter.Letter.{Letter}
use Rattle.raid_steps.specs.State.{Out, Turn, with_state, opened, send, tell, Copy, Phase, asking, preparing, sent, Running, SiteState}
use Rattle.raid_steps.specs.Fits.{is_of_sequencer, is_of_site}
use Rattle.raid_steps.specs.Table.{is_farewell}
use Rattle.raid_steps.specs.Sequencer.{is_hello}
use Rattle.raid_steps.specs.Copies.{copy_of, staged_of, apply, unstage, stage, set_copy}
use Rattle.raid_steps.specs.Programs as programs
use Rattle.raid_steps.specs.Site as rows
use Rattle.raid_steps.proofs.Parts.{all_appended}

-- neither a Hello nor a Halted
abbrev pub is_plain : Out → Bool
is_plain out = not (is_hello out.2) && not (is_farewell out.2)

-- the site is up or not as before, in the same session, and tells nothing of it
abbrev pub Stays : Bool → ℕ → Turn SiteState → Type 0
Stays u m turn = (turn.state.up ≡ u) × (turn.state.session ≡ m) × (list_all is_plain turn.outs ≡ true)

module _ (w : Workload) (u : Bool) (m : ℕ) where
  abbrev Kept : Turn SiteState → Type 0
  Kept turn = Stays u m turn

  plus : (turn : Turn SiteState) (outs : List Out) → list_all is_plain outs ≡ true → Kept turn → list_all is_plain (turn.outs ++ outs) ≡ true
  plus turn outs plain k = all_appended is_plain turn.outs outs k.2 plain

  either : (b : Bool) (x y : Turn SiteState) → Kept x → Kept y → Kept (if b then x else y)
  either true x y k l = k
  either false x y k l = l

  folds : {X : Type 0} (step : Turn SiteState → X → Turn SiteState) (turn : Turn SiteState) (xs : List X) → ((turn : Turn SiteState) (x : X) → Kept turn → Kept (step turn x)) → Kept turn → Kept (fold step turn xs)
  folds step turn [] each k = k
  folds step turn (x ∷ xs) each k = folds step (step turn x) xs each (each turn x k)

  options : {X : Type 0} (f : X → Turn SiteState) (o : Option X) (turn : Turn SiteState) → ((x : X) → Kept (f x)) → Kept turn → Kept (option_map_or f o turn)
  options f None turn each k = k
  options f (Some x) turn each k = each x

  -- programs
  prepared : (v : List ℕ) (t : Txn) (writes : List (Item × ℤ)) (ss : List Site) → list_all is_plain (map (programs.prepare_out w v t writes) ss) ≡ true
  prepared v t writes [] = refl
  prepared v t writes (s ∷ ss) = prepared v t writes ss

  prepares : (turn : Turn SiteState) (r : Running) (o : Outcome) → Kept turn → Kept (programs.prepare w turn r o)
  prepares turn r o k = go (holds_some w o.writes turn.state.site) (stage r.txn (programs.held_by w turn.state.site o.writes) turn.state.staged)
    where
      outs : List Out
      outs = map (programs.prepare_out w turn.state.vector r.txn o.writes) (programs.voters w turn.state o.writes)

      go : (b : Bool) (staged : List (Txn × List (Item × ℤ))) →
          ((if b then record (turn.state) { staged = staged } else turn.state).up ≡ u) × ((if b then record (turn.state) { staged = staged } else turn.state).session ≡ m) × (list_all is_plain (turn.outs ++ outs) ≡ true)
      go true staged = (k.0, k.1, plus turn outs (prepared turn.state.vector r.txn o.writes (programs.voters w turn.state o.writes)) k)
      go false staged = (k.0, k.1, plus turn outs (prepared turn.state.vector r.txn o.writes (programs.voters w turn.state o.writes)) k)

  turns_to : (turn : Turn SiteState) (r : Running) (o : Outcome) (want : Want) → Kept turn → Kept (programs.turn_to w turn r o want)
  turns_to turn r o (wants.Read x) k = (k.0, k.1, plus turn _ refl k)
  turns_to turn r o wants.Done k = prepares turn r o k
  turns_to turn r o wants.Own k = (k.0, k.1, plus turn _ refl k)
  turns_to turn r o wants.Overflow k = (k.0, k.1, plus turn _ refl k)

  goes_on : (turn : Turn SiteState) (r : Running) → Kept turn → Kept (programs.go_on w turn r)
  goes_on turn r k = let o = outcome_of (program w r.txn) (λ x. first_of x r.answers) in turns_to turn r o o.end k

  begins : (turn : Turn SiteState) (t : Txn) → Kept turn → Kept (programs.begin w turn t)
  begins turn t k = goes_on (tell turn (letters.Begin t)) (record { txn = t; answers = []; asks = 0; phase = sent }) (k.0, k.1, plus turn _ refl k)

  begins_next : (turn : Turn SiteState) → Kept turn → Kept (programs.begin_next w turn)
  begins_next turn k =
      let now : Turn SiteState = with_state turn (record (turn.state) { next = programs.following w turn.state.site turn.state.next }) in
      let x : Txn = record { 0 = turn.state.next } in
      either (turn.state.next == 0) turn (programs.begin w now x) k (begins now x k)

  starts : (turn : Turn SiteState) → Kept turn → Kept (programs.start w turn)
  starts turn k = folds (λ t i. programs.begin_next w t) turn (count_from 0 (w.together - length turn.state.running)) (λ t i k. begins_next t k) k

  gives_to : (turn : Turn SiteState) (i : ℕ) (v : ℤ) (r : Running) (phase : Phase) → Kept turn → Kept (programs.give_to w turn i v r phase)
  gives_to turn i v r (asking j x s) k = either (j == i) (programs.go_on w turn (record r { answers = put r.answers x v })) turn (goes_on turn (record r { answers = put r.answers x v }) k) k
  gives_to turn i v r (preparing reads writes awaited) k = k
  gives_to turn i v r sent k = k

  gives : (turn : Turn SiteState) (t : Txn) (i : ℕ) (v : ℤ) → Kept turn → Kept (programs.give w turn t i v)
  gives turn t i v k = options (λ r. programs.give_to w turn i v r r.phase) (programs.running_of turn.state t) turn (λ r. gives_to turn i v r r.phase k) k

  changes : (turn : Turn SiteState) (t : Txn) (f : Phase → Phase) → Kept turn → Kept (programs.change turn t f)
  changes turn t f k = options (λ r. programs.with_running turn (record r { phase = f r.phase })) (programs.running_of turn.state t) turn (λ r. k) k

  loses : (s : Site) (turn : Turn SiteState) (r : Running) (phase : Phase) → Kept turn → Kept (programs.lose s turn r phase)
  loses s turn r (asking i x None) k = k
  loses s turn r (asking i x (Some q)) k = either (is_site s q) (programs.ask turn r x) turn (k.0, k.1, plus turn _ refl k) k
  loses s turn r (preparing reads writes awaited) k = k
  loses s turn r sent k = k

  joins : (s : Site) (turn : Turn SiteState) (r : Running) (phase : Phase) → Kept turn → Kept (programs.join w s turn r phase)
  joins s turn r (asking i x q) k = k
  joins s turn r (preparing reads writes awaited) k =
      either (holds_some w writes s) (send (programs.with_running turn (record r { phase = preparing reads writes (programs.with_vote s awaited) })) (programs.prepare_out w turn.state.vector r.txn writes s)) turn
      (k.0, k.1, plus turn _ refl k) k
  joins s turn r sent k = k

  asks_commit : (turn : Turn SiteState) (r : Running) (phase : Phase) → Kept turn → Kept (programs.ask_commit turn r phase)
  asks_commit turn r (asking i x q) k = k
  asks_commit turn r (preparing reads writes []) k = (k.0, k.1, plus turn _ refl k)
  asks_commit turn r (preparing reads writes (s ∷ ss)) k = k
  asks_commit turn r sent k = k

  asks_commits : (turn : Turn SiteState) → Kept turn → Kept (programs.ask_commits turn)
  asks_commits turn k = folds (λ now r. programs.ask_commit now r r.phase) turn turn.state.running (λ now r k. asks_commit now r r.phase k) k

  -- the rows
  serves : (turn : Turn SiteState) (t : Txn) (i : ℕ) (h : Site) (n : ℕ) (c : Copy) → Kept turn → Kept (rows.serve w turn t i h n c)
  serves turn t i h n c k = either (is_site turn.state.site h) (programs.give w turn t i c.value) (send turn (h.0 + 1, n, letters.Value t i c.value)) (gives turn t i c.value k) (k.0, k.1, plus turn _ refl k)

  drops : (turn : Turn SiteState) (t : Txn) (again : Bool) → Kept turn → Kept (rows.drop_row w turn t again)
  drops turn t again k =
      let dropped = programs.ended (with_state turn (record (turn.state) { staged = unstage t turn.state.staged })) t in
      starts (if programs.runs_here turn.state t && again then programs.begin w dropped (programs.next_attempt w t) else dropped)
      (either (programs.runs_here turn.state t && again) (programs.begin w dropped (programs.next_attempt w t)) dropped (begins dropped (programs.next_attempt w t) k) k)

  votes : (turn : Turn SiteState) (t : Txn) (s : Site) (n : ℕ) (answer : Answer) → Kept turn → Kept (rows.vote_row turn t s n answer)
  votes turn t s n Yes k = either (session turn.state.vector s == n) (programs.change turn t (programs.without_vote s)) turn (changes turn t (programs.without_vote s) k) k
  votes turn t s n (No named own) k = k

  refreshes : (turn : Turn SiteState) (x : Item) (v : ℤ) (version : ℕ) (c : Copy) → Kept turn → Kept (rows.refresh turn x v version c)
  refreshes turn x v version c k =
      either (nat_le c.version version) (tell (with_state turn (record (turn.state) { copies = set_copy x v version turn.state.copies })) (letters.CopyDone x version)) turn
      (k.0, k.1, plus turn _ refl k) k

  sequencer_rows : (turn : Turn SiteState) (message : Message) → Kept turn → Kept (rows.sequencer_row w turn message)
  sequencer_rows turn (letters.Welcome v next) k = starts (with_state turn (record (turn.state) { vector = v; next = next })) k
  sequencer_rows turn (letters.ReadDo t i x h n) k = options (rows.serve w turn t i h n) (copy_of turn.state x) turn (λ c. serves turn t i h n c k) k
  sequencer_rows turn (letters.Serving t i s) k = changes turn t (programs.noted_at i s) k
  sequencer_rows turn (letters.Apply t number) k =
      options (λ ps. tell (with_state turn (apply turn.state t number ps)) (letters.Ack t)) (staged_of turn.state t) turn (λ ps. (k.0, k.1, plus turn _ refl k)) k
  sequencer_rows turn (letters.Done t) k = starts (programs.ended turn t) k
  sequencer_rows turn (letters.Drop t again) k = drops turn t again k
  sequencer_rows turn (letters.DownNote s) k = folds (λ now r. programs.lose s now r r.phase) (rows.with_vector turn s 0) turn.state.running (λ now r k. loses s now r r.phase k) k
  sequencer_rows turn (letters.UpNote s n) k = folds (λ now r. programs.join w s now r r.phase) (rows.with_vector turn s n) turn.state.running (λ now r k. joins s now r r.phase k) k
  sequencer_rows turn (letters.CopyDo x target n) k =
      options (λ (c : Copy). send turn (target.0 + 1, n, letters.CopyValue x c.value c.version)) (copy_of turn.state x) turn (λ c. (k.0, k.1, plus turn _ refl k)) k
  sequencer_rows turn other k = k

  peer_rows : (turn : Turn SiteState) (s : Site) (n : ℕ) (message : Message) → Kept turn → Kept (rows.peer_row w turn s n message)
  peer_rows turn s n (letters.Value t i v) k = gives turn t i v k
  peer_rows turn s n (letters.Prepare t writes) k = (k.0, k.1, plus turn _ refl k)
  peer_rows turn s n (letters.Vote t answer) k = votes turn t s n answer k
  peer_rows turn s n (letters.CopyValue x v version) k = options (rows.refresh turn x v version) (copy_of turn.state x) turn (λ c. refreshes turn x v version c k) k
  peer_rows turn s n other k = k

  hears_if : (fits : Bool) (state : SiteState) (after : Turn SiteState) → Kept (opened state) → Kept after → Kept (rows.hear_if fits state after)
  hears_if true state after k l = asks_commits after l
  hears_if false state after k l = k

  refuses : (state : SiteState) (from : ℕ) (letter : Letter) (message : Message) → Kept (opened state) → Kept (rows.refuse state from letter message)
  refuses state from letter (letters.Prepare t writes) k = (k.0, k.1, refl)
  refuses state from letter other k = k

  -- an up site that hears another server than the monitor
  pub hears_server : (state : SiteState) (from : ℕ) (letter : Letter) → Kept (opened state) → Kept (rows.hear_up w state (suc from) letter)
  hears_server state zero letter k =
      either (letter.to == state.session) (rows.hear_sequencer w state letter) (opened state)
      (hears_if (is_of_sequencer w letter.message && rows.fits_here w state letter.message) state (rows.sequencer_row w (opened state) letter.message) k (sequencer_rows (opened state) letter.message k)) k
  hears_server state (suc i) letter k =
      either (letter.to == state.session) (rows.hear_peer w state (site (i + 1)) letter) (rows.refuse state (i + 2) letter letter.message)
      (hears_if (is_of_site w letter.message && rows.fits_here w state letter.message) state (rows.peer_row w (opened state) (site (i + 1)) letter.from letter.message) k (peer_rows (opened state) (site (i + 1)) letter.from letter.message k))
      (refuses state (i + 2) letter letter.message k)

-- a stop: the session ends, and the monitor is told
pub record Stops (state : SiteState) (from : ℕ) (letter : Letter) (turn : Turn SiteState) : Type 0 where
  pub of : from ≡ 0
  pub said : letter.message ≡ letters.Stop
  pub before : state.up ≡ true
  pub after : turn.state.up ≡ false
  pub session : turn.state.session ≡ state.session
  pub outs : turn.outs ≡ (let out : Out = (0, 0, letters.Halted) in out ∷ [])

-- a return: the next session begins, and the sequencer is told
pub record Returns (state : SiteState) (from : ℕ) (letter : Letter) (turn : Turn SiteState) : Type 0 where
  pub of : from ≡ 0
  pub said : letter.message ≡ letters.Return
  pub before : state.up ≡ false
  pub after : turn.state.up ≡ true
  pub session : turn.state.session ≡ state.session + 1
  pub outs : turn.outs ≡ (let out : Out = (1, 0, letters.Hello) in out ∷ [])

-- what the step of a site may be
pub data SiteStep (state : SiteState) (from : ℕ) (letter : Letter) (turn : Turn SiteState) : Type 0 where
  stops : Stops state from letter turn → SiteStep state from letter turn
  returns : Returns state from letter turn → SiteStep state from letter turn
  stays : Stays state.up state.session turn → SiteStep state from letter turn

stop_step : (w : Workload) (state : SiteState) (from : ℕ) (letter : Letter) (message : Message) → from ≡ 0 → letter.message ≡ message → state.up ≡ true → SiteStep state from letter (rows.stop w state message)
stop_step w state from letter letters.Stop f l up = stops (record { of = f; said = l; before = up; after = refl; session = refl; outs = refl })
stop_step w state from letter other f l up = stays (refl, refl, refl)

return_step : (state : SiteState) (from : ℕ) (letter : Letter) (message : Message) → from ≡ 0 → letter.message ≡ message → state.up ≡ false → SiteStep state from letter (rows.return state message)
return_step state from letter letters.Return f l up = returns (record { of = f; said = l; before = up; after = refl; session = refl; outs = refl })
return_step state from letter other f l up = stays (refl, refl, refl)

pub site_step : (w : Workload) (state : SiteState) (from : ℕ) (letter : Letter) → SiteStep state from letter (rows.hear_site w state from letter)
site_step w state from letter = go state.up refl from refl
  where
    go : (u : Bool) → state.up ≡ u → (f : ℕ) → from ≡ f → SiteStep state from letter (if u then rows.hear_up w state f letter else rows.hear_down state f letter)
    go true up zero f = stop_step w state from letter letter.message f refl up
    go true up (suc i) f = stays (hears_server w state.up state.session state i letter (refl, refl, refl))
    go false up zero f = return_step state from letter letter.message f refl up
    go false up (suc i) f = stays (refl, refl, refl)
