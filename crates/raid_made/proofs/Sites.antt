-- What a site keeps of its programs, and what it asks for, is what they make.
use Rattle.std.proofs.Common.{◌≡◌, ℕ, zero, suc, ◌+◌, ◌-◌, ◌==◌, nat_lt, nat_le, Bool, true, false, not, ◌&&◌, List, [], ◌∷◌, ◌++◌, length, fold, map, find, Option, Some, None, if◌then◌else◌, ℤ, ap, ◌∙◌, refl}
use Rattle.std.specs.Prelude.{⊤}
use Rattle.std.specs.List.{AllByRecursion}
use Rattle.std.specs.Option.{option_map_or}
use Rattle.raid_base.specs.declared.names.Txn.{Txn}
use Rattle.raid_base.specs.declared.names.Item.{Item}
use Rattle.raid_base.specs.declared.names.Site.{Site}
use Rattle.raid_base.specs.declared.entry.Cause.{Cause}
use Rattle.raid_base.specs.declared.entry.Cause.TheVariants as causes
use Rattle.raid_base.specs.declared.entry.Answer.{Answer}
use Rattle.raid_base.specs.declared.entry.Answer.TheVariants.{Yes, No}
use Rattle.raid_base.specs.Names.{is_txn, is_site}
use Rattle.raid_base.specs.Find.{first_of}
use Rattle.raid_base.specs.Sites.{session, site}
use Rattle.raid_program.specs.declared.program.Want.{Want}
use Rattle.raid_program.specs.declared.program.Want.TheVariants as wants
use Rattle.raid_program.specs.Run.{Outcome, outcome_of, put}
use Rattle.raid_program.proofs.Tables.{replays}
use Rattle.raid_workload.specs.declared.workload.Workload.{Workload}
use Rattle.raid_workload.specs.Parts.{count_from, program}
use Rattle.raid_legal.specs.Seen.{holds_some}
use Rattle.raid_message.specs.declared.letter.Message.{Message}
use Rattle.raid_message.specs.declared.letter.Message.TheVariants as letters
use Rattle.raid_message.specs.declared.letter.Letter.{Letter}
use Rattle.raid_steps.specs.State.{Out, Turn, with_state, opened, send, tell, Copy, Phase, asking, preparing, sent, Running, SiteState}
use Rattle.raid_steps.specs.Fits.{is_of_sequencer, is_of_site}
use Rattle.raid_steps.specs.Copies.{copy_of, staged_of, apply, unstage, stage, set_copy}
use Rattle.raid_steps.specs.Programs.{running_of, runs_here, put_running, with_running, change, ended, ask, end_by, held_by, prepare_out, voters, stage_own, prepare, turn_to, go_on, begin, following, begin_next, start, give_to, give, noted_at, without_vote, with_vote, lose, join, ask_commit, ask_commits, next_attempt}
use Rattle.raid_steps.specs.Site as rows
use Rattle.raid_known.proofs.Entries.{all_push, all_filter}
use Rattle.raid_made.specs.Made.{made_of, IsDone, EndsWith, IsMadeMessage, SentMade, IsMadePhase, AreMade}

-- lists
both_all : {X : Type 0} (P : X → Type 0) (xs ys : List X) → AllByRecursion P xs → AllByRecursion P ys → AllByRecursion P (xs ++ ys)
both_all P [] ys a b = b
both_all P (x ∷ xs) ys a b = (a.0, both_all P xs ys a.1 b)

module _ (w : Workload) where
  abbrev Sends : Out → Type 0
  Sends out = IsMadeMessage w out.2

  abbrev Runs : Running → Type 0
  Runs r = IsMadePhase w r.txn r.phase

  -- what a step, or a part of it, keeps and sends is made
  abbrev Made : Turn SiteState → Type 0
  Made turn = AreMade w turn.state.running × SentMade w turn.outs

  sends : (turn : Turn SiteState) (out : Out) → IsMadeMessage w out.2 → Made turn → Made (send turn out)
  sends turn out fits made = (made.0, all_push Sends turn.outs out made.1 fits)

  put_made : (r : Running) (rs : List Running) → Runs r → AreMade w rs → AreMade w (put_running r rs)
  put_made r [] h a = (h, tt)
  put_made r (q ∷ qs) h a = go (is_txn r.txn q.txn) (nat_lt r.txn.0 q.txn.0) (put_made r qs h a.1)
    where
      go : (b c : Bool) → AreMade w (put_running r qs) → AreMade w (if b then r ∷ qs else if c then r ∷ q ∷ qs else q ∷ put_running r qs)
      go true c rest = (h, a.1)
      go false true rest = (h, a)
      go false false rest = (a.0, rest)

  puts : (turn : Turn SiteState) (r : Running) → Runs r → Made turn → Made (with_running turn r)
  puts turn r h made = (put_made r turn.state.running h made.0, made.1)

  -- the same by cases and in rows
  either : (b : Bool) (x y : Turn SiteState) → Made x → Made y → Made (if b then x else y)
  either true x y h g = h
  either false x y h g = g

  folds : {X : Type 0} (P : X → Type 0) (step : Turn SiteState → X → Turn SiteState) (turn : Turn SiteState) (xs : List X) → AllByRecursion P xs →
      ((turn : Turn SiteState) (x : X) → P x → Made turn → Made (step turn x)) → Made turn → Made (fold step turn xs)
  folds P step turn [] a each made = made
  folds P step turn (x ∷ xs) a each made = folds P step (step turn x) xs a.1 each (each turn x a.0 made)

  options : {X : Type 0} (f : X → Turn SiteState) (o : Option X) (turn : Turn SiteState) → ((x : X) → Made (f x)) → Made turn → Made (option_map_or f o turn)
  options f None turn each made = made
  options f (Some x) turn each made = each x

  -- a program that runs here
  found : (t : Txn) (rs : List Running) (f : Running → Turn SiteState) (turn : Turn SiteState) → AreMade w rs → ((r : Running) → Runs r → Made (f r)) → Made turn →
      Made (option_map_or f (find (λ (r : Running). is_txn t r.txn) rs) turn)
  found t [] f turn a each made = made
  found t (r ∷ rs) f turn a each made = go (is_txn t r.txn) (found t rs f turn a.1 each made)
    where
      go : (b : Bool) → Made (option_map_or f (find (λ (r : Running). is_txn t r.txn) rs) turn) →
          Made (option_map_or f (if b then Some r else find (λ (r : Running). is_txn t r.txn) rs) turn)
      go true rest = each r a.0
      go false rest = rest

  -- programs
  asks : (turn : Turn SiteState) (r : Running) (x : Item) → Made turn → Made (ask turn r x)
  asks turn r x made =
      let asking = record r { asks = r.asks + 1; phase = asking (r.asks + 1) x None } in
      sends (with_running turn asking) (1, 0, letters.ReadAsk r.txn (r.asks + 1) x) tt (puts turn asking tt made)

  ends : (turn : Turn SiteState) (r : Running) (cause : Cause) (o : Outcome) → IsMadeMessage w (letters.EndAsk r.txn cause o.reads) → Made turn → Made (end_by turn r cause o)
  ends turn r cause o fits made = sends (with_running turn (record r { phase = sent })) (1, 0, letters.EndAsk r.txn cause o.reads) fits (puts turn (record r { phase = sent }) tt made)

  prepared : (v : List ℕ) (t : Txn) (writes : List (Item × ℤ)) (ss : List Site) → SentMade w (map (prepare_out w v t writes) ss)
  prepared v t writes [] = tt
  prepared v t writes (s ∷ ss) = (tt, prepared v t writes ss)

  staged : (turn : Turn SiteState) (t : Txn) (writes : List (Item × ℤ)) → Made turn → Made (with_state turn (stage_own w turn.state t writes))
  staged turn t writes made = go (holds_some w writes turn.state.site)
    where
      go : (b : Bool) → Made (with_state turn (if b then record (turn.state) { staged = stage t (held_by w turn.state.site writes) turn.state.staged } else turn.state))
      go true = made
      go false = made

  prepares : (turn : Turn SiteState) (r : Running) (o : Outcome) → IsDone w r.txn o.reads o.writes → Made turn → Made (prepare w turn r o)
  prepares turn r o done made =
      let vs = voters w turn.state o.writes in
      let own = with_state turn (stage_own w turn.state r.txn o.writes) in
      let there = puts own (record r { phase = preparing o.reads o.writes vs }) done (staged turn r.txn o.writes made) in
      (there.0, both_all Sends turn.outs (map (prepare_out w turn.state.vector r.txn o.writes) vs) there.1 (prepared turn.state.vector r.txn o.writes vs))

  -- an outcome whose reads give it again
  ends_with : (t : Txn) (o : Outcome) (end : Want) → made_of w t o.reads ≡ o → o.end ≡ end → EndsWith w t end o.reads
  ends_with t o end again e = record { ended = ap (λ (z : Outcome). z.end) again ∙ e; read = ap (λ (z : Outcome). z.reads) again }

  is_done : (t : Txn) (o : Outcome) → made_of w t o.reads ≡ o → o.end ≡ wants.Done → IsDone w t o.reads o.writes
  is_done t o again e = again ∙ ap (λ end. let z : Outcome = record { end = end; reads = o.reads; writes = o.writes } in z) e

  turns_to : (turn : Turn SiteState) (r : Running) (o : Outcome) (want : Want) → made_of w r.txn o.reads ≡ o → o.end ≡ want → Made turn → Made (turn_to w turn r o want)
  turns_to turn r o (wants.Read x) again e made = asks turn r x made
  turns_to turn r o wants.Done again e made = prepares turn r o (is_done r.txn o again e) made
  turns_to turn r o wants.Own again e made = ends turn r causes.Own o (ends_with r.txn o wants.Own again e) made
  turns_to turn r o wants.Overflow again e made = ends turn r causes.Overflow o (ends_with r.txn o wants.Overflow again e) made

  goes_on : (turn : Turn SiteState) (r : Running) → Made turn → Made (go_on w turn r)
  goes_on turn r made =
      let o = outcome_of (program w r.txn) (λ x. first_of x r.answers) in
      turns_to turn r o o.end (replays (program w r.txn) (λ x. first_of x r.answers)) refl made

  begins : (turn : Turn SiteState) (t : Txn) → Made turn → Made (begin w turn t)
  begins turn t made = goes_on (tell turn (letters.Begin t)) (record { txn = t; answers = []; asks = 0; phase = sent }) (sends turn (1, 0, letters.Begin t) tt made)

  begins_next : (turn : Turn SiteState) → Made turn → Made (begin_next w turn)
  begins_next turn made =
      let after = with_state turn (record (turn.state) { next = following w turn.state.site turn.state.next }) in
      either (turn.state.next == 0) turn (begin w after (record { 0 = turn.state.next })) made (begins after (record { 0 = turn.state.next }) made)

  any : {X : Type 0} (xs : List X) → AllByRecursion (λ x. ⊤) xs
  any [] = tt
  any (x ∷ xs) = (tt, any xs)

  starts : (turn : Turn SiteState) → Made turn → Made (start w turn)
  starts turn made =
      let rounds = count_from 0 (w.together - length turn.state.running) in
      folds (λ k. ⊤) (λ t k. begin_next w t) turn rounds (any rounds) (λ t k h made. begins_next t made) made

  gives_to : (turn : Turn SiteState) (k : ℕ) (v : ℤ) (r : Running) (phase : Phase) → Made turn → Made (give_to w turn k v r phase)
  gives_to turn k v r (asking j x s) made = either (j == k) (go_on w turn (record r { answers = put r.answers x v })) turn (goes_on turn (record r { answers = put r.answers x v }) made) made
  gives_to turn k v r (preparing reads writes awaited) made = made
  gives_to turn k v r sent made = made

  gives : (turn : Turn SiteState) (t : Txn) (k : ℕ) (v : ℤ) → Made turn → Made (give w turn t k v)
  gives turn t k v made = options (λ r. give_to w turn k v r r.phase) (running_of turn.state t) turn (λ r. gives_to turn k v r r.phase made) made

  changes : (turn : Turn SiteState) (t : Txn) (f : Phase → Phase) → ((u : Txn) (phase : Phase) → IsMadePhase w u phase → IsMadePhase w u (f phase)) → Made turn → Made (change turn t f)
  changes turn t f keeps made =
      found t turn.state.running (λ r. with_running turn (record r { phase = f r.phase })) turn made.0 (λ r h. puts turn (record r { phase = f r.phase }) (keeps r.txn r.phase h) made) made

  noted_made : (k : ℕ) (s : Site) (t : Txn) (phase : Phase) → IsMadePhase w t phase → IsMadePhase w t (noted_at k s phase)
  noted_made k s t (asking j x r) h = go (j == k)
    where
      go : (b : Bool) → IsMadePhase w t (if b then asking j x (Some s) else asking j x r)
      go true = tt
      go false = tt
  noted_made k s t (preparing reads writes awaited) h = h
  noted_made k s t sent h = tt

  vote_made : (s : Site) (t : Txn) (phase : Phase) → IsMadePhase w t phase → IsMadePhase w t (without_vote s phase)
  vote_made s t (asking j x r) h = tt
  vote_made s t (preparing reads writes awaited) h = h
  vote_made s t sent h = tt

  loses : (s : Site) (turn : Turn SiteState) (r : Running) (phase : Phase) → Runs r → Made turn → Made (lose s turn r phase)
  loses s turn r (asking k x None) h made = made
  loses s turn r (asking k x (Some q)) h made = either (is_site s q) (ask turn r x) turn (asks turn r x made) made
  loses s turn r (preparing reads writes awaited) h made = puts turn (record r { phase = without_vote s r.phase }) (vote_made s r.txn r.phase h) made
  loses s turn r sent h made = made

  joins : (s : Site) (turn : Turn SiteState) (r : Running) (phase : Phase) → IsMadePhase w r.txn phase → Made turn → Made (join w s turn r phase)
  joins s turn r (asking k x q) h made = made
  joins s turn r (preparing reads writes awaited) h made =
      let joined = record r { phase = preparing reads writes (with_vote s awaited) } in
      let out = prepare_out w turn.state.vector r.txn writes s in
      either (holds_some w writes s) (send (with_running turn joined) out) turn (sends (with_running turn joined) out tt (puts turn joined h made)) made
  joins s turn r sent h made = made

  asks_commit : (turn : Turn SiteState) (r : Running) (phase : Phase) → IsMadePhase w r.txn phase → Made turn → Made (ask_commit turn r phase)
  asks_commit turn r (asking k x q) h made = made
  asks_commit turn r (preparing reads writes []) h made =
      sends (with_running turn (record r { phase = sent })) (1, 0, letters.CommitAsk r.txn (record { reads = reads; writes = writes; under = turn.state.vector })) h
      (puts turn (record r { phase = sent }) tt made)
  asks_commit turn r (preparing reads writes (s ∷ ss)) h made = made
  asks_commit turn r sent h made = made

  asks_commits : (turn : Turn SiteState) → Made turn → Made (ask_commits turn)
  asks_commits turn made = folds Runs (λ now r. ask_commit now r r.phase) turn turn.state.running made.0 (λ now r h made. asks_commit now r r.phase h made) made

  ended_made : (turn : Turn SiteState) (t : Txn) → Made turn → Made (ended turn t)
  ended_made turn t made = (all_filter Runs (λ (r : Running). not (is_txn t r.txn)) turn.state.running made.0, made.1)

  -- the rows
  serves : (turn : Turn SiteState) (t : Txn) (k : ℕ) (h : Site) (n : ℕ) (c : Copy) → Made turn → Made (rows.serve w turn t k h n c)
  serves turn t k h n c made =
      either (is_site turn.state.site h) (give w turn t k c.value) (send turn (h.0 + 1, n, letters.Value t k c.value)) (gives turn t k c.value made) (sends turn (h.0 + 1, n, letters.Value t k c.value) tt made)

  reads : (turn : Turn SiteState) (t : Txn) (k : ℕ) (x : Item) (h : Site) (n : ℕ) → Made turn → Made (rows.read_row w turn t k x h n)
  reads turn t k x h n made = options (rows.serve w turn t k h n) (copy_of turn.state x) turn (λ c. serves turn t k h n c made) made

  applies : (turn : Turn SiteState) (t : Txn) (number : ℕ) → Made turn → Made (rows.apply_row turn t number)
  applies turn t number made =
      options (λ ps. tell (with_state turn (apply turn.state t number ps)) (letters.Ack t)) (staged_of turn.state t) turn
      (λ ps. sends (with_state turn (apply turn.state t number ps)) (1, 0, letters.Ack t) tt made) made

  drops : (turn : Turn SiteState) (t : Txn) (again : Bool) → Made turn → Made (rows.drop_row w turn t again)
  drops turn t again made =
      let unstaged = with_state turn (record (turn.state) { staged = unstage t turn.state.staged }) in
      let dropped = ended unstaged t in
      let there = ended_made unstaged t made in
      starts (if runs_here turn.state t && again then begin w dropped (next_attempt w t) else dropped)
      (either (runs_here turn.state t && again) (begin w dropped (next_attempt w t)) dropped (begins dropped (next_attempt w t) there) there)

  downs : (turn : Turn SiteState) (s : Site) → Made turn → Made (rows.down_row turn s)
  downs turn s made = folds Runs (λ now r. lose s now r r.phase) (rows.with_vector turn s 0) turn.state.running made.0 (λ now r h made. loses s now r r.phase h made) made

  ups : (turn : Turn SiteState) (s : Site) (n : ℕ) → Made turn → Made (rows.up_row w turn s n)
  ups turn s n made = folds Runs (λ now r. join w s now r r.phase) (rows.with_vector turn s n) turn.state.running made.0 (λ now r h made. joins s now r r.phase h made) made

  copies : (turn : Turn SiteState) (x : Item) (target : Site) (n : ℕ) → Made turn → Made (rows.copy_row turn x target n)
  copies turn x target n made =
      options (λ (c : Copy). send turn (target.0 + 1, n, letters.CopyValue x c.value c.version)) (copy_of turn.state x) turn
      (λ c. sends turn (target.0 + 1, n, letters.CopyValue x c.value c.version) tt made) made

  votes : (turn : Turn SiteState) (t : Txn) (s : Site) (n : ℕ) (answer : Answer) → Made turn → Made (rows.vote_row turn t s n answer)
  votes turn t s n Yes made = either (session turn.state.vector s == n) (change turn t (without_vote s)) turn (changes turn t (without_vote s) (vote_made s) made) made
  votes turn t s n (No named own) made = made

  refreshes : (turn : Turn SiteState) (x : Item) (v : ℤ) (version : ℕ) (c : Copy) → Made turn → Made (rows.refresh turn x v version c)
  refreshes turn x v version c made =
      let renewed = with_state turn (record (turn.state) { copies = set_copy x v version turn.state.copies }) in
      either (nat_le c.version version) (tell renewed (letters.CopyDone x version)) turn (sends renewed (1, 0, letters.CopyDone x version) tt made) made

  sequencer_rows : (turn : Turn SiteState) (m : Message) → Made turn → Made (rows.sequencer_row w turn m)
  sequencer_rows turn (letters.Welcome v next) made = starts (with_state turn (record (turn.state) { vector = v; next = next })) made
  sequencer_rows turn (letters.ReadDo t k x h n) made = reads turn t k x h n made
  sequencer_rows turn (letters.Serving t k s) made = changes turn t (noted_at k s) (noted_made k s) made
  sequencer_rows turn (letters.Apply t number) made = applies turn t number made
  sequencer_rows turn (letters.Done t) made = starts (ended turn t) (ended_made turn t made)
  sequencer_rows turn (letters.Drop t again) made = drops turn t again made
  sequencer_rows turn (letters.DownNote s) made = downs turn s made
  sequencer_rows turn (letters.UpNote s n) made = ups turn s n made
  sequencer_rows turn (letters.CopyDo x target n) made = copies turn x target n made
  sequencer_rows turn other made = made

  peer_rows : (turn : Turn SiteState) (s : Site) (n : ℕ) (m : Message) → Made turn → Made (rows.peer_row w turn s n m)
  peer_rows turn s n (letters.Value t k v) made = gives turn t k v made
  peer_rows turn s n (letters.Prepare t writes) made =
      sends (with_state turn (record (turn.state) { staged = stage t writes turn.state.staged })) (s.0 + 1, n, letters.Vote t Yes) tt made
  peer_rows turn s n (letters.Vote t answer) made = votes turn t s n answer made
  peer_rows turn s n (letters.CopyValue x v version) made = options (rows.refresh turn x v version) (copy_of turn.state x) turn (λ c. refreshes turn x v version c made) made
  peer_rows turn s n other made = made

  -- the step
  module _ (state : SiteState) (h : AreMade w state.running) where
    hears_if : (fits : Bool) (after : Turn SiteState) → Made after → Made (rows.hear_if fits state after)
    hears_if fits after made = either fits (ask_commits after) (opened state) (asks_commits after made) (h, tt)

    refuses : (from : ℕ) (letter : Letter) (m : Message) → Made (rows.refuse state from letter m)
    refuses from letter (letters.Prepare t writes) = (h, (tt, tt))
    refuses from letter other = (h, tt)

    stops : (m : Message) → Made (rows.stop w state m)
    stops letters.Stop = (tt, (tt, tt))
    stops other = (h, tt)

    returns : (m : Message) → Made (rows.return state m)
    returns letters.Return = (h, (tt, tt))
    returns other = (h, tt)

    hears_up : (from : ℕ) (letter : Letter) → Made (rows.hear_up w state from letter)
    hears_up zero letter = stops letter.message
    hears_up (suc zero) letter =
        either (letter.to == state.session) (rows.hear_sequencer w state letter) (opened state)
        (hears_if (is_of_sequencer w letter.message && rows.fits_here w state letter.message) (rows.sequencer_row w (opened state) letter.message) (sequencer_rows (opened state) letter.message (h, tt))) (h, tt)
    hears_up (suc (suc k)) letter =
        either (letter.to == state.session) (rows.hear_peer w state (site (k + 1)) letter) (rows.refuse state (k + 2) letter letter.message)
        (hears_if (is_of_site w letter.message && rows.fits_here w state letter.message) (rows.peer_row w (opened state) (site (k + 1)) letter.from letter.message)
        (peer_rows (opened state) (site (k + 1)) letter.from letter.message (h, tt))) (refuses (k + 2) letter letter.message)

    hears_down : (from : ℕ) (letter : Letter) → Made (rows.hear_down state from letter)
    hears_down zero letter = returns letter.message
    hears_down (suc k) letter = (h, tt)

    hears : (from : ℕ) (letter : Letter) → Made (rows.hear_site w state from letter)
    hears from letter = either state.up (rows.hear_up w state from letter) (rows.hear_down state from letter) (hears_up from letter) (hears_down from letter)

pub site_made : (w : Workload) (state : SiteState) (from : ℕ) (letter : Letter) → AreMade w state.running → AreMade w (rows.hear_site w state from letter).state.running
site_made w state from letter h = (hears w state h from letter).0

pub site_sends : (w : Workload) (state : SiteState) (from : ℕ) (letter : Letter) → AreMade w state.running → SentMade w (rows.hear_site w state from letter).outs
site_sends w state from letter h = (hears w state h from letter).1
