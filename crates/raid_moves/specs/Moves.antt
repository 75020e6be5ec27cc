-- A site's step in parts: its row, which is what the letter does by itself, and then a chain of moves, each of one program.
use Rattle.std.specs.Prelude.{◌≡◌, ℕ, ℤ, suc, ◌+◌, ◌<◌, ◌==◌, nat_le, Bool, true, false, not, ◌&&◌, List, [], ◌∷◌, length, filter, Option, Some, ⊤}
use Rattle.std.specs.List.{AllByRecursion}
use Rattle.raid_base.specs.declared.names.Txn.{Txn}
use Rattle.raid_base.specs.declared.names.Item.{Item}
use Rattle.raid_base.specs.declared.names.Site.{Site}
use Rattle.raid_base.specs.declared.entry.Cause.TheVariants as causes
use Rattle.raid_base.specs.declared.entry.Answer.TheVariants.{Yes, No}
use Rattle.raid_base.specs.Names.{is_site}
use Rattle.raid_base.specs.Find.{first_of}
use Rattle.raid_base.specs.Sites.{session, site}
use Rattle.raid_program.specs.declared.program.Want.TheVariants as wants
use Rattle.raid_program.specs.declared.program.Outcome.{Outcome}
use Rattle.raid_program.specs.Run.{outcome_of, put}
use Rattle.raid_workload.specs.declared.workload.Workload.{Workload}
use Rattle.raid_workload.specs.Parts.{program}
use Rattle.raid_legal.specs.Seen.{holds_some}
use Rattle.raid_message.specs.declared.letter.Message.{Message}
use Rattle.raid_message.specs.declared.letter.Message.TheVariants as letters
use Rattle.raid_message.specs.declared.letter.Letter.{Letter}
use Rattle.raid_steps.specs.State.{Turn, with_state, opened, send, tell, Copy, Phase, asking, preparing, sent, Running, SiteState}
use Rattle.raid_steps.specs.Fits.{is_of_sequencer, is_of_site}
use Rattle.raid_steps.specs.Copies.{copy_of, staged_of, apply, unstage, stage, set_copy}
use Rattle.raid_steps.specs.Programs.{running_of, runs_here, with_running, ended, ask, end_by, prepare_out, prepare, following, with_vote, next_attempt}
use Rattle.raid_steps.specs.Site.{fits_here, with_vector, stop_row, return_row}

-- the programs ascend by their transactions' numbers, so that each transaction has at most one
abbrev pub Ascend : List Running → Type 0
Ascend [] = ⊤
Ascend (r ∷ rs) = AllByRecursion (λ (q : Running). r.txn.0 < q.txn.0) rs × Ascend rs

-- Which letter is heard. The site is up, and the letter is meant for its session
pub record Hears (state : SiteState) (letter : Letter) : Type 0 where
  pub up : state.up ≡ true
  pub meant : (letter.to == state.session) ≡ true

-- the sequencer says this in the letter, and it fits
pub record Tells (w : Workload) (state : SiteState) (from : ℕ) (letter : Letter) (m : Message) : Type 0 where
  pub heard : Hears state letter
  pub by : from ≡ 1
  pub is : letter.message ≡ m
  pub fits : (is_of_sequencer w m && fits_here w state m) ≡ true

-- the site at this place, counted from 0, says this in the letter, and it fits
pub record Says (w : Workload) (state : SiteState) (from : ℕ) (letter : Letter) (k : ℕ) (m : Message) : Type 0 where
  pub heard : Hears state letter
  pub by : from ≡ suc (suc k)
  pub is : letter.message ≡ m
  pub fits : (is_of_site w m && fits_here w state m) ≡ true

-- a value for an ask comes with the letter: the site's own copy, which is to be read for its own program, or one that another site read
pub data Given (w : Workload) (state : SiteState) (from : ℕ) (letter : Letter) (t : Txn) (ask : ℕ) : ℤ → Type 0 where
  read_here : (x : Item) (h : Site) (n : ℕ) (c : Copy) → Tells w state from letter (letters.ReadDo t ask x h n) → copy_of state x ≡ Some c → is_site state.site h ≡ true → Given w state from letter t ask c.value
  read_elsewhere : (k : ℕ) (v : ℤ) → Says w state from letter k (letters.Value t ask v) → Given w state from letter t ask v

-- What a program does that goes on. What it comes to with the answers that it has
abbrev pub comes_to : Workload → Running → Outcome
comes_to w r = outcome_of (program w r.txn) (λ x. first_of x r.answers)

-- it asks for what it reads next, or its transaction is in preparation, or it has ended by itself
pub data Goes (w : Workload) (turn : Turn SiteState) (r : Running) : Turn SiteState → Type 0 where
  reads_next : (x : Item) → (comes_to w r).end ≡ wants.Read x → Goes w turn r (ask turn r x)
  prepares : (comes_to w r).end ≡ wants.Done → Goes w turn r (prepare w turn r (comes_to w r))
  stops : (comes_to w r).end ≡ wants.Own → Goes w turn r (end_by turn r causes.Own (comes_to w r))
  overflows : (comes_to w r).end ≡ wants.Overflow → Goes w turn r (end_by turn r causes.Overflow (comes_to w r))

-- the transaction's program as it begins, and the turn in which it then has done what it does first
abbrev pub fresh : Txn → Running
fresh t = record { txn = t; answers = []; asks = 0; phase = sent }

abbrev pub Begins : Workload → Turn SiteState → Txn → Turn SiteState → Type 0
Begins w turn t after = Goes w (tell turn (letters.Begin t)) (fresh t) after

-- Why a letter changes nothing. Which messages are acted on where the session isn't asked for
abbrev pub is_stop : Message → Bool
is_stop letters.Stop = true
is_stop other = false

abbrev pub is_return : Message → Bool
is_return letters.Return = true
is_return other = false

abbrev pub is_prepare : Message → Bool
is_prepare (letters.Prepare t writes) = true
is_prepare other = false

-- the program waits for the answer to this ask; its transaction is in preparation
abbrev pub awaits : ℕ → Phase → Bool
awaits k (asking j x q) = j == k
awaits k other = false

abbrev pub is_preparing : Phase → Bool
is_preparing (preparing reads writes awaited) = true
is_preparing other = false

-- no program of the transaction here waits for the answer to this ask; none is in preparation
abbrev pub NoneAwaits : SiteState → Txn → ℕ → Type 0
NoneAwaits state t k = (r : Running) → running_of state t ≡ Some r → awaits k r.phase ≡ false

abbrev pub NonePrepares : SiteState → Txn → Type 0
NonePrepares state t = (r : Running) → running_of state t ≡ Some r → is_preparing r.phase ≡ false

pub data Idle (w : Workload) (state : SiteState) (from : ℕ) (letter : Letter) : Type 0 where
  down : (k : ℕ) → state.up ≡ false → from ≡ suc k → Idle w state from letter
  stays_down : state.up ≡ false → from ≡ 0 → is_return letter.message ≡ false → Idle w state from letter
  stays_up : state.up ≡ true → from ≡ 0 → is_stop letter.message ≡ false → Idle w state from letter
  late : state.up ≡ true → from ≡ 1 → (letter.to == state.session) ≡ false → Idle w state from letter
  late_peer : (k : ℕ) → state.up ≡ true → from ≡ suc (suc k) → (letter.to == state.session) ≡ false → is_prepare letter.message ≡ false → Idle w state from letter
  unfit : Hears state letter → from ≡ 1 → (is_of_sequencer w letter.message && fits_here w state letter.message) ≡ false → Idle w state from letter
  unfit_peer : (k : ℕ) → Hears state letter → from ≡ suc (suc k) → (is_of_site w letter.message && fits_here w state letter.message) ≡ false → Idle w state from letter
  unasked : (t : Txn) (k : ℕ) (v : ℤ) → Given w state from letter t k v → NoneAwaits state t k → Idle w state from letter
  unserved : (t : Txn) (k : ℕ) (s : Site) → Tells w state from letter (letters.Serving t k s) → NoneAwaits state t k → Idle w state from letter
  refused : (k : ℕ) (t : Txn) (named own : ℕ) → Says w state from letter k (letters.Vote t (No named own)) → Idle w state from letter
  outdated : (k : ℕ) (t : Txn) → Says w state from letter k (letters.Vote t Yes) → (session state.vector (site (k + 1)) == letter.from) ≡ false → Idle w state from letter
  uncounted : (k : ℕ) (t : Txn) → Says w state from letter k (letters.Vote t Yes) → NonePrepares state t → Idle w state from letter
  older : (k : ℕ) (x : Item) (v : ℤ) (version : ℕ) (c : Copy) → Says w state from letter k (letters.CopyValue x v version) → copy_of state x ≡ Some c → nat_le c.version version ≡ false → Idle w state from letter

-- the sites that are awaited, but one
abbrev pub but : Site → List Site → List Site
but s awaited = filter (λ r. not (is_site s r)) awaited

-- the turn in which a transaction was dropped
abbrev pub drops : SiteState → Txn → Turn SiteState
drops state t = ended (with_state (opened state) (record state { staged = unstage t state.staged })) t

-- What the letter does by itself. A program that it concerns is named as it stands in the state
pub data Row (w : Workload) (state : SiteState) (from : ℕ) (letter : Letter) : Turn SiteState → Type 0 where
  -- of the monitor, and in an old session
  halts : state.up ≡ true → from ≡ 0 → letter.message ≡ letters.Stop → Row w state from letter (stop_row w state)
  returns : state.up ≡ false → from ≡ 0 → letter.message ≡ letters.Return → Row w state from letter (return_row state)
  refuses : (k : ℕ) (t : Txn) (writes : List (Item × ℤ)) → state.up ≡ true → from ≡ suc (suc k) → (letter.to == state.session) ≡ false → letter.message ≡ letters.Prepare t writes →
      Row w state from letter (send (opened state) (k + 2, letter.from, letters.Vote t (No letter.to state.session)))
  idle : Idle w state from letter → Row w state from letter (opened state)
  -- of the sequencer
  welcomed : (v : List ℕ) (next : ℕ) → Tells w state from letter (letters.Welcome v next) → Row w state from letter (with_state (opened state) (record state { vector = v; next = next }))
  served : (t : Txn) (k : ℕ) (x : Item) (h : Site) (n : ℕ) (c : Copy) → Tells w state from letter (letters.ReadDo t k x h n) → copy_of state x ≡ Some c → is_site state.site h ≡ false →
      Row w state from letter (send (opened state) (h.0 + 1, n, letters.Value t k c.value))
  notes : (r : Running) (k : ℕ) (x : Item) (q : Option Site) (s : Site) → running_of state r.txn ≡ Some r → r.phase ≡ asking k x q → Tells w state from letter (letters.Serving r.txn k s) →
      Row w state from letter (with_running (opened state) (record r { phase = asking k x (Some s) }))
  applied : (t : Txn) (number : ℕ) (ps : List (Item × ℤ)) → Tells w state from letter (letters.Apply t number) → staged_of state t ≡ Some ps →
      Row w state from letter (tell (with_state (opened state) (apply state t number ps)) (letters.Ack t))
  over : (t : Txn) → Tells w state from letter (letters.Done t) → Row w state from letter (ended (opened state) t)
  dropped : (t : Txn) (again : Bool) → Tells w state from letter (letters.Drop t again) → (runs_here state t && again) ≡ false → Row w state from letter (drops state t)
  retried : {after : Turn SiteState} (t : Txn) → Tells w state from letter (letters.Drop t true) → runs_here state t ≡ true → Begins w (drops state t) (next_attempt w t) after → Row w state from letter after
  falls : (s : Site) → Tells w state from letter (letters.DownNote s) → Row w state from letter (with_vector (opened state) s 0)
  rises : (s : Site) (n : ℕ) → Tells w state from letter (letters.UpNote s n) → Row w state from letter (with_vector (opened state) s n)
  copies : (x : Item) (target : Site) (n : ℕ) (c : Copy) → Tells w state from letter (letters.CopyDo x target n) → copy_of state x ≡ Some c →
      Row w state from letter (send (opened state) (target.0 + 1, n, letters.CopyValue x c.value c.version))
  -- of another site
  staged : (k : ℕ) (t : Txn) (writes : List (Item × ℤ)) → Says w state from letter k (letters.Prepare t writes) →
      Row w state from letter (send (with_state (opened state) (record state { staged = stage t writes state.staged })) ((site (k + 1)).0 + 1, letter.from, letters.Vote t Yes))
  counts : (k : ℕ) (r : Running) (read writes : List (Item × ℤ)) (awaited : List Site) → running_of state r.txn ≡ Some r → r.phase ≡ preparing read writes awaited →
      Says w state from letter k (letters.Vote r.txn Yes) → (session state.vector (site (k + 1)) == letter.from) ≡ true →
      Row w state from letter (with_running (opened state) (record r { phase = preparing read writes (but (site (k + 1)) awaited) }))
  renewed : (k : ℕ) (x : Item) (v : ℤ) (version : ℕ) (c : Copy) → Says w state from letter k (letters.CopyValue x v version) → copy_of state x ≡ Some c → nat_le c.version version ≡ true →
      Row w state from letter (tell (with_state (opened state) (record state { copies = set_copy x v version state.copies })) (letters.CopyDone x version))
  -- of the sequencer or of another site
  given : {after : Turn SiteState} (r : Running) (k : ℕ) (x : Item) (q : Option Site) (v : ℤ) → running_of state r.txn ≡ Some r → r.phase ≡ asking k x q → Given w state from letter r.txn k v →
      Goes w (opened state) (record r { answers = put r.answers x v }) after → Row w state from letter after

-- the letter lets transactions begin
pub data Starts (w : Workload) (state : SiteState) (from : ℕ) (letter : Letter) : Type 0 where
  at_welcome : (v : List ℕ) (next : ℕ) → Tells w state from letter (letters.Welcome v next) → Starts w state from letter
  at_done : (t : Txn) → Tells w state from letter (letters.Done t) → Starts w state from letter
  at_drop : (t : Txn) (again : Bool) → Tells w state from letter (letters.Drop t again) → Starts w state from letter

-- the transaction that begins next, and the turn in which it isn't the next any more
abbrev pub next_of : Turn SiteState → Txn
next_of turn = record { 0 = turn.state.next }

abbrev pub passed : Workload → Turn SiteState → Turn SiteState
passed w turn = with_state turn (record (turn.state) { next = following w turn.state.site turn.state.next })

-- A move: the next transaction begins; or a program that runs in this turn, named as it stands there, loses what it awaited of a site that is
-- down, awaits a site that is up too, or asks to commit
pub data Move (w : Workload) (state : SiteState) (from : ℕ) (letter : Letter) : Turn SiteState → Turn SiteState → Type 0 where
  begins : {turn after : Turn SiteState} → Starts w state from letter → (turn.state.next == 0) ≡ false → length turn.state.running < w.together → Begins w (passed w turn) (next_of turn) after → Move w state from letter turn after
  asks : {turn : Turn SiteState} (r : Running) (k : ℕ) (x : Item) (s q : Site) → running_of turn.state r.txn ≡ Some r → r.phase ≡ asking k x (Some q) → Tells w state from letter (letters.DownNote s) → is_site s q ≡ true →
      Move w state from letter turn (ask turn r x)
  loses : {turn : Turn SiteState} (r : Running) (read writes : List (Item × ℤ)) (awaited : List Site) (s : Site) → running_of turn.state r.txn ≡ Some r → r.phase ≡ preparing read writes awaited → Tells w state from letter (letters.DownNote s) →
      Move w state from letter turn (with_running turn (record r { phase = preparing read writes (but s awaited) }))
  joins : {turn : Turn SiteState} (r : Running) (read writes : List (Item × ℤ)) (awaited : List Site) (s : Site) (n : ℕ) → running_of turn.state r.txn ≡ Some r → r.phase ≡ preparing read writes awaited → Tells w state from letter (letters.UpNote s n) →
      holds_some w writes s ≡ true → Move w state from letter turn (send (with_running turn (record r { phase = preparing read writes (with_vote s awaited) })) (prepare_out w turn.state.vector r.txn writes s))
  commits : {turn : Turn SiteState} (r : Running) (read writes : List (Item × ℤ)) → running_of turn.state r.txn ≡ Some r → r.phase ≡ preparing read writes [] → Hears state letter →
      Move w state from letter turn (tell (with_running turn (record r { phase = sent })) (letters.CommitAsk r.txn (record { reads = read; writes = writes; under = turn.state.vector })))

-- moves, one after the other
pub data Moves (w : Workload) (state : SiteState) (from : ℕ) (letter : Letter) : Turn SiteState → Turn SiteState → Type 0 where
  done : {turn : Turn SiteState} → Moves w state from letter turn turn
  moves : {turn next last : Turn SiteState} → Move w state from letter turn next → Moves w state from letter next last → Moves w state from letter turn last

-- the turn is reached by the letter's row, and moves after it
abbrev pub Reached : Workload → SiteState → ℕ → Letter → Turn SiteState → Type 0
Reached w state from letter last = (after : Turn SiteState) × (Row w state from letter after × Moves w state from letter after last)
