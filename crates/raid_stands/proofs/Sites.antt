-- What a site does lets its programs stand where their answers lead.
use Rattle.std.proofs.Common.{◌≡◌, ℕ, zero, suc, ◌+◌, ◌-◌, ◌==◌, nat_lt, nat_le, Bool, true, false, not, ◌&&◌, ◌||◌, List, [], ◌∷◌, length, fold, filter, find, Option, Some, None, if◌then◌else◌, ℤ, arith, ap, sym, subst, ◌∙◌, refl}
use Rattle.std.specs.Prelude.{⊤}
use Rattle.std.specs.List.{AllByRecursion}
use Rattle.std.specs.Option.{option_map_or}
use Rattle.std.proofs.lemmas.Bool.{true≢false, eqb-true}
use Rattle.std.proofs.lemmas.Grind.{common_steps}
use Rattle.raid_base.specs.declared.names.Txn.{Txn}
use Rattle.raid_base.specs.declared.names.Item.{Item}
use Rattle.raid_base.specs.declared.names.Site.{Site}
use Rattle.raid_base.specs.declared.entry.Cause.{Cause}
use Rattle.raid_base.specs.declared.entry.Cause.TheVariants as causes
use Rattle.raid_base.specs.declared.entry.Answer.{Answer}
use Rattle.raid_base.specs.declared.entry.Answer.TheVariants.{Yes, No}
use Rattle.raid_base.specs.Names.{is_txn, is_site, has_site}
use Rattle.raid_base.specs.Sites.{all_sites, session, site}
use Rattle.raid_program.specs.declared.program.Want.{Want}
use Rattle.raid_program.specs.declared.program.Want.TheVariants as wants
use Rattle.raid_program.specs.Run.{Outcome, given, put, asks_for}
use Rattle.raid_program.proofs.Asked.{end_told}
use Rattle.raid_workload.specs.declared.workload.Workload.{Workload}
use Rattle.raid_workload.specs.Parts.{count_from, program, sites}
use Rattle.raid_rules.specs.Sessions.{is_site_up}
use Rattle.raid_legal.specs.Seen.{holds_some}
use Rattle.raid_message.specs.declared.letter.Message.{Message}
use Rattle.raid_message.specs.declared.letter.Message.TheVariants as letters
use Rattle.raid_message.specs.declared.letter.Letter.{Letter}
use Rattle.raid_steps.specs.State.{Turn, with_state, opened, send, tell, Copy, Phase, asking, preparing, sent, Running, SiteState}
use Rattle.raid_steps.specs.Fits.{is_of_sequencer, is_of_site}
use Rattle.raid_steps.specs.Copies.{copy_of, staged_of, apply, unstage, stage, set_copy}
use Rattle.raid_steps.specs.Programs.{runs_here, put_running, with_running, change, ended, ask, end_by, held_by, prepare_out, voters, stage_own, prepare, turn_to, go_on, begin, following, begin_next, start, give_to, give, noted_at, without_vote, with_vote, lose, join, ask_commit, ask_commits, next_attempt}
use Rattle.raid_steps.specs.Site as rows
use Rattle.raid_known.proofs.Entries.{all_filter}
use Rattle.raid_made.specs.Made.{made_of}
use Rattle.raid_stands.specs.Stands.{StandsIn, Stands, AreStanding, IsOfAnother}
use Rattle.raid_stands.proofs.Gives.{gives_one, gives_none, put_last}

-- sites
own_site : (s : Site) → is_site s s ≡ true
own_site s = grind (arith, common_steps)

same_site : (s r : Site) → is_site s r ≡ true → r ≡ s
same_site s r q = ap (λ k. let z : Site = record { 0 = k } in z) (eqb-true r.0 s.0 q)

no_pick : (a c : Bool) → (a && not true && c) ≡ false
no_pick true c = refl
no_pick false c = refl

-- a site that is on no list is on none that is chosen from it, and one that isn't chosen is on none
not_kept : (s : Site) (f : Site → Bool) (ss : List Site) → has_site ss s ≡ false → has_site (filter f ss) s ≡ false
not_kept s f [] q = refl
not_kept s f (r ∷ ss) q = go (f r) (is_site s r) refl q (not_kept s f ss)
  where
    go : (b c : Bool) → is_site s r ≡ c → (c || has_site ss s) ≡ false → (has_site ss s ≡ false → has_site (filter f ss) s ≡ false) → has_site (if b then r ∷ filter f ss else filter f ss) s ≡ false
    go b true e q rest = absurd (true≢false q)
    go true false e q rest = ap (λ c. c || has_site (filter f ss) s) e ∙ rest q
    go false false e q rest = rest q

not_chosen : (s : Site) (f : Site → Bool) (ss : List Site) → f s ≡ false → has_site (filter f ss) s ≡ false
not_chosen s f [] q = refl
not_chosen s f (r ∷ ss) q = go (f r) (is_site s r) refl refl (not_chosen s f ss q)
  where
    go : (b c : Bool) → f r ≡ b → is_site s r ≡ c → has_site (filter f ss) s ≡ false → has_site (if b then r ∷ filter f ss else filter f ss) s ≡ false
    go false c e same rest = rest
    go true false e same rest = ap (λ c. c || has_site (filter f ss) s) same ∙ rest
    go true true e same rest = absurd (true≢false (sym e ∙ ap f (same_site s r same) ∙ q))

module _ (w : Workload) (here : Site) where
  abbrev Runs : Running → Type 0
  Runs r = Stands w here r

  abbrev In : Running → Phase → Type 0
  In r phase = StandsIn w here r.txn r.answers r.asks phase

  abbrev Reads : Running → Type 0
  Reads r = (made_of w r.txn r.answers).reads ≡ r.answers

  -- what a step, or a part of it, makes of the site: it is still this one, and all programs stand where their answers lead
  abbrev Fine : Turn SiteState → Type 0
  Fine turn = (turn.state.site ≡ here) × AllByRecursion Runs turn.state.running

  put_fine : (r : Running) (rs : List Running) → Runs r → AllByRecursion Runs rs → AllByRecursion Runs (put_running r rs)
  put_fine r [] h a = (h, tt)
  put_fine r (q ∷ qs) h a = go (is_txn r.txn q.txn) (nat_lt r.txn.0 q.txn.0) (put_fine r qs h a.1)
    where
      go : (b c : Bool) → AllByRecursion Runs (put_running r qs) → AllByRecursion Runs (if b then r ∷ qs else if c then r ∷ q ∷ qs else q ∷ put_running r qs)
      go true c rest = (h, a.1)
      go false true rest = (h, a)
      go false false rest = (a.0, rest)

  puts : (turn : Turn SiteState) (r : Running) → Runs r → Fine turn → Fine (with_running turn r)
  puts turn r h fine = (fine.0, put_fine r turn.state.running h fine.1)

  -- the same by cases and in rows
  either : (b : Bool) (x y : Turn SiteState) → Fine x → Fine y → Fine (if b then x else y)
  either true x y h g = h
  either false x y h g = g

  folds : {X : Type 0} (P : X → Type 0) (step : Turn SiteState → X → Turn SiteState) (turn : Turn SiteState) (xs : List X) → AllByRecursion P xs →
      ((turn : Turn SiteState) (x : X) → P x → Fine turn → Fine (step turn x)) → Fine turn → Fine (fold step turn xs)
  folds P step turn [] a each fine = fine
  folds P step turn (x ∷ xs) a each fine = folds P step (step turn x) xs a.1 each (each turn x a.0 fine)

  options : {X : Type 0} (f : X → Turn SiteState) (o : Option X) (turn : Turn SiteState) → ((x : X) → Fine (f x)) → Fine turn → Fine (option_map_or f o turn)
  options f None turn each fine = fine
  options f (Some x) turn each fine = each x

  -- a program that runs here
  found : (t : Txn) (rs : List Running) (f : Running → Turn SiteState) (turn : Turn SiteState) → AllByRecursion Runs rs → ((r : Running) → Runs r → Fine (f r)) → Fine turn →
      Fine (option_map_or f (find (λ (r : Running). is_txn t r.txn) rs) turn)
  found t [] f turn a each fine = fine
  found t (r ∷ rs) f turn a each fine = go (is_txn t r.txn) (found t rs f turn a.1 each fine)
    where
      go : (b : Bool) → Fine (option_map_or f (find (λ (r : Running). is_txn t r.txn) rs) turn) →
          Fine (option_map_or f (if b then Some r else find (λ (r : Running). is_txn t r.txn) rs) turn)
      go true rest = each r a.0
      go false rest = rest

  -- programs
  asks : (turn : Turn SiteState) (r : Running) (x : Item) → Reads r → (made_of w r.txn r.answers).end ≡ wants.Read x → Fine turn → Fine (ask turn r x)
  asks turn r x reads wish fine = puts turn (record r { asks = r.asks + 1; phase = asking (r.asks + 1) x None }) (record { reads = reads; phase = (wish, refl, omega arith) }) fine

  ends : (turn : Turn SiteState) (r : Running) (cause : Cause) (o : Outcome) → Reads r → asks_for (made_of w r.txn r.answers).end ≡ None → Fine turn → Fine (end_by turn r cause o)
  ends turn r cause o reads none fine = puts turn (record r { phase = sent }) (record { reads = reads; phase = none }) fine

  staged : (turn : Turn SiteState) (t : Txn) (writes : List (Item × ℤ)) → Fine turn → Fine (with_state turn (stage_own w turn.state t writes))
  staged turn t writes fine = go (holds_some w writes turn.state.site)
    where
      go : (b : Bool) → Fine (with_state turn (if b then record (turn.state) { staged = stage t (held_by w turn.state.site writes) turn.state.staged } else turn.state))
      go true = fine
      go false = fine

  -- a site awaits no vote of itself
  no_voter : (state : SiteState) (writes : List (Item × ℤ)) → state.site ≡ here → has_site (voters w state writes) here ≡ false
  no_voter state writes same =
      let own : is_site state.site here ≡ true = ap (λ s. is_site s here) same ∙ own_site here in
      not_chosen here (λ s. is_site_up state.vector s && not (is_site state.site s) && holds_some w writes s) (sites w)
      (ap (λ b. is_site_up state.vector here && not b && holds_some w writes here) own ∙ no_pick (is_site_up state.vector here) (holds_some w writes here))

  prepares : (turn : Turn SiteState) (r : Running) → Reads r → (made_of w r.txn r.answers).end ≡ wants.Done → Fine turn → Fine (prepare w turn r (made_of w r.txn r.answers))
  prepares turn r reads done fine =
      let o = made_of w r.txn r.answers in
      let vs = voters w turn.state o.writes in
      let own = with_state turn (stage_own w turn.state r.txn o.writes) in
      puts own (record r { phase = preparing o.reads o.writes vs })
      (record { reads = reads; phase = (ap (λ end. let z : Outcome = record { end = end; reads = o.reads; writes = o.writes } in z) done, no_voter turn.state o.writes fine.0) })
      (staged turn r.txn o.writes fine)

  turns_to : (turn : Turn SiteState) (r : Running) (want : Want) → Reads r → (made_of w r.txn r.answers).end ≡ want → Fine turn → Fine (turn_to w turn r (made_of w r.txn r.answers) want)
  turns_to turn r (wants.Read x) reads e fine = asks turn r x reads e fine
  turns_to turn r wants.Done reads e fine = prepares turn r reads e fine
  turns_to turn r wants.Own reads e fine = ends turn r causes.Own (made_of w r.txn r.answers) reads (ap asks_for e) fine
  turns_to turn r wants.Overflow reads e fine = ends turn r causes.Overflow (made_of w r.txn r.answers) reads (ap asks_for e) fine

  goes_on : (turn : Turn SiteState) (r : Running) → Reads r → Fine turn → Fine (go_on w turn r)
  goes_on turn r reads fine = turns_to turn r (made_of w r.txn r.answers).end reads refl fine

  begins : (turn : Turn SiteState) (t : Txn) → Fine turn → Fine (begin w turn t)
  begins turn t fine = goes_on (tell turn (letters.Begin t)) (record { txn = t; answers = []; asks = 0; phase = sent }) (gives_none (program w t)) fine

  begins_next : (turn : Turn SiteState) → Fine turn → Fine (begin_next w turn)
  begins_next turn fine =
      let after = with_state turn (record (turn.state) { next = following w turn.state.site turn.state.next }) in
      either (turn.state.next == 0) turn (begin w after (record { 0 = turn.state.next })) fine (begins after (record { 0 = turn.state.next }) fine)

  any : {X : Type 0} (xs : List X) → AllByRecursion (λ x. ⊤) xs
  any [] = tt
  any (x ∷ xs) = (tt, any xs)

  starts : (turn : Turn SiteState) → Fine turn → Fine (start w turn)
  starts turn fine =
      let rounds = count_from 0 (w.together - length turn.state.running) in
      folds (λ k. ⊤) (λ t k. begin_next w t) turn rounds (any rounds) (λ t k h fine. begins_next t fine) fine

  -- the value of the item that the run wants is one answer more
  gives_to : (turn : Turn SiteState) (k : ℕ) (v : ℤ) (r : Running) (phase : Phase) → Reads r → In r phase → Fine turn → Fine (give_to w turn k v r phase)
  gives_to turn k v r (asking j x s) reads stands fine =
      let p = program w r.txn in
      let more : Reads (record r { answers = put r.answers x v }) =
      subst (λ ps. (made_of w r.txn ps).reads ≡ ps) (sym (put_last r.answers x v (end_told p (given r.answers) x stands.0))) (gives_one p r.answers x v stands.0 reads) in
      either (j == k) (go_on w turn (record r { answers = put r.answers x v })) turn (goes_on turn (record r { answers = put r.answers x v }) more fine) fine
  gives_to turn k v r (preparing reads writes awaited) same stands fine = fine
  gives_to turn k v r sent same stands fine = fine

  gives : (turn : Turn SiteState) (t : Txn) (k : ℕ) (v : ℤ) → Fine turn → Fine (give w turn t k v)
  gives turn t k v fine = found t turn.state.running (λ r. give_to w turn k v r r.phase) turn fine.1 (λ r h. gives_to turn k v r r.phase h.reads h.phase fine) fine

  changes : (turn : Turn SiteState) (t : Txn) (f : Phase → Phase) → ((r : Running) (phase : Phase) → In r phase → In r (f phase)) → Fine turn → Fine (change turn t f)
  changes turn t f keeps fine =
      found t turn.state.running (λ r. with_running turn (record r { phase = f r.phase })) turn fine.1
      (λ r h. puts turn (record r { phase = f r.phase }) (record { reads = h.reads; phase = keeps r r.phase h.phase }) fine) fine

  noted_fine : (k : ℕ) (s : Site) (r : Running) (phase : Phase) → In r phase → In r (noted_at k s phase)
  noted_fine k s r (asking j x q) h = go (j == k)
    where
      go : (b : Bool) → In r (if b then asking j x (Some s) else asking j x q)
      go true = h
      go false = h
  noted_fine k s r (preparing reads writes awaited) h = h
  noted_fine k s r sent h = h

  vote_fine : (s : Site) (r : Running) (phase : Phase) → In r phase → In r (without_vote s phase)
  vote_fine s r (asking j x q) h = h
  vote_fine s r (preparing reads writes awaited) h = (h.0, not_kept here (λ q. not (is_site s q)) awaited h.1)
  vote_fine s r sent h = h

  loses : (s : Site) (turn : Turn SiteState) (r : Running) (phase : Phase) → Runs r → In r phase → Fine turn → Fine (lose s turn r phase)
  loses s turn r (asking k x None) h stands fine = fine
  loses s turn r (asking k x (Some q)) h stands fine = either (is_site s q) (ask turn r x) turn (asks turn r x h.reads stands.0 fine) fine
  loses s turn r (preparing reads writes awaited) h stands fine =
      puts turn (record r { phase = without_vote s r.phase }) (record { reads = h.reads; phase = vote_fine s r r.phase h.phase }) fine
  loses s turn r sent h stands fine = fine

  joins : (s : Site) (turn : Turn SiteState) (r : Running) (phase : Phase) → is_site s here ≡ false → Reads r → In r phase → Fine turn → Fine (join w s turn r phase)
  joins s turn r (asking k x q) other same stands fine = fine
  joins s turn r (preparing reads writes awaited) other same stands fine =
      let joined = record r { phase = preparing reads writes (with_vote s awaited) } in
      let out = prepare_out w turn.state.vector r.txn writes s in
      let none : has_site (with_vote s awaited) here ≡ false =
      not_chosen here (λ q. has_site awaited q || is_site s q) all_sites (ap (λ b. b || is_site s here) stands.1 ∙ other) in
      either (holds_some w writes s) (send (with_running turn joined) out) turn (puts turn joined (record { reads = same; phase = (stands.0, none) }) fine) fine
  joins s turn r sent other same stands fine = fine

  asks_commit : (turn : Turn SiteState) (r : Running) (phase : Phase) → Reads r → In r phase → Fine turn → Fine (ask_commit turn r phase)
  asks_commit turn r (asking k x q) same stands fine = fine
  asks_commit turn r (preparing reads writes []) same stands fine = puts turn (record r { phase = sent }) (record { reads = same; phase = ap (λ (o : Outcome). asks_for o.end) stands.0 }) fine
  asks_commit turn r (preparing reads writes (s ∷ ss)) same stands fine = fine
  asks_commit turn r sent same stands fine = fine

  asks_commits : (turn : Turn SiteState) → Fine turn → Fine (ask_commits turn)
  asks_commits turn fine = folds Runs (λ now r. ask_commit now r r.phase) turn turn.state.running fine.1 (λ now r h fine. asks_commit now r r.phase h.reads h.phase fine) fine

  ended_fine : (turn : Turn SiteState) (t : Txn) → Fine turn → Fine (ended turn t)
  ended_fine turn t fine = (fine.0, all_filter Runs (λ (r : Running). not (is_txn t r.txn)) turn.state.running fine.1)

  -- the rows
  serves : (turn : Turn SiteState) (t : Txn) (k : ℕ) (h : Site) (n : ℕ) (c : Copy) → Fine turn → Fine (rows.serve w turn t k h n c)
  serves turn t k h n c fine =
      either (is_site turn.state.site h) (give w turn t k c.value) (send turn (h.0 + 1, n, letters.Value t k c.value)) (gives turn t k c.value fine) fine

  reads_copy : (turn : Turn SiteState) (t : Txn) (k : ℕ) (x : Item) (h : Site) (n : ℕ) → Fine turn → Fine (rows.read_row w turn t k x h n)
  reads_copy turn t k x h n fine = options (rows.serve w turn t k h n) (copy_of turn.state x) turn (λ c. serves turn t k h n c fine) fine

  applies : (turn : Turn SiteState) (t : Txn) (number : ℕ) → Fine turn → Fine (rows.apply_row turn t number)
  applies turn t number fine = options (λ ps. tell (with_state turn (apply turn.state t number ps)) (letters.Ack t)) (staged_of turn.state t) turn (λ ps. fine) fine

  drops : (turn : Turn SiteState) (t : Txn) (again : Bool) → Fine turn → Fine (rows.drop_row w turn t again)
  drops turn t again fine =
      let unstaged = with_state turn (record (turn.state) { staged = unstage t turn.state.staged }) in
      let dropped = ended unstaged t in
      let there = ended_fine unstaged t fine in
      starts (if runs_here turn.state t && again then begin w dropped (next_attempt w t) else dropped)
      (either (runs_here turn.state t && again) (begin w dropped (next_attempt w t)) dropped (begins dropped (next_attempt w t) there) there)

  downs : (turn : Turn SiteState) (s : Site) → Fine turn → Fine (rows.down_row turn s)
  downs turn s fine = folds Runs (λ now r. lose s now r r.phase) (rows.with_vector turn s 0) turn.state.running fine.1 (λ now r h fine. loses s now r r.phase h h.phase fine) fine

  ups : (turn : Turn SiteState) (s : Site) (n : ℕ) → is_site s here ≡ false → Fine turn → Fine (rows.up_row w turn s n)
  ups turn s n other fine =
      folds Runs (λ now r. join w s now r r.phase) (rows.with_vector turn s n) turn.state.running fine.1 (λ now r h fine. joins s now r r.phase other h.reads h.phase fine) fine

  copies : (turn : Turn SiteState) (x : Item) (target : Site) (n : ℕ) → Fine turn → Fine (rows.copy_row turn x target n)
  copies turn x target n fine =
      options (λ (c : Copy). send turn (target.0 + 1, n, letters.CopyValue x c.value c.version)) (copy_of turn.state x) turn (λ c. fine) fine

  votes : (turn : Turn SiteState) (t : Txn) (s : Site) (n : ℕ) (answer : Answer) → Fine turn → Fine (rows.vote_row turn t s n answer)
  votes turn t s n Yes fine = either (session turn.state.vector s == n) (change turn t (without_vote s)) turn (changes turn t (without_vote s) (vote_fine s) fine) fine
  votes turn t s n (No named own) fine = fine

  refreshes : (turn : Turn SiteState) (x : Item) (v : ℤ) (version : ℕ) (c : Copy) → Fine turn → Fine (rows.refresh turn x v version c)
  refreshes turn x v version c fine =
      either (nat_le c.version version) (tell (with_state turn (record (turn.state) { copies = set_copy x v version turn.state.copies })) (letters.CopyDone x version)) turn fine fine

  another : (s : Site) → (s.0 + 1 == here.0 + 1) ≡ false → is_site s here ≡ false
  another s q = grind (arith, common_steps, q)

  sequencer_rows : (turn : Turn SiteState) (m : Message) → IsOfAnother (here.0 + 1) m → Fine turn → Fine (rows.sequencer_row w turn m)
  sequencer_rows turn (letters.Welcome v next) other fine = starts (with_state turn (record (turn.state) { vector = v; next = next })) fine
  sequencer_rows turn (letters.ReadDo t k x h n) other fine = reads_copy turn t k x h n fine
  sequencer_rows turn (letters.Serving t k s) other fine = changes turn t (noted_at k s) (noted_fine k s) fine
  sequencer_rows turn (letters.Apply t number) other fine = applies turn t number fine
  sequencer_rows turn (letters.Done t) other fine = starts (ended turn t) (ended_fine turn t fine)
  sequencer_rows turn (letters.Drop t again) other fine = drops turn t again fine
  sequencer_rows turn (letters.DownNote s) other fine = downs turn s fine
  sequencer_rows turn (letters.UpNote s n) other fine = ups turn s n (another s other) fine
  sequencer_rows turn (letters.CopyDo x target n) other fine = copies turn x target n fine
  sequencer_rows turn m other fine = fine

  peer_rows : (turn : Turn SiteState) (s : Site) (n : ℕ) (m : Message) → Fine turn → Fine (rows.peer_row w turn s n m)
  peer_rows turn s n (letters.Value t k v) fine = gives turn t k v fine
  peer_rows turn s n (letters.Prepare t writes) fine = fine
  peer_rows turn s n (letters.Vote t answer) fine = votes turn t s n answer fine
  peer_rows turn s n (letters.CopyValue x v version) fine = options (rows.refresh turn x v version) (copy_of turn.state x) turn (λ c. refreshes turn x v version c fine) fine
  peer_rows turn s n other fine = fine

  -- the step
  module _ (state : SiteState) (h : Fine (opened state)) where
    hears_if : (fits : Bool) (after : Turn SiteState) → Fine after → Fine (rows.hear_if fits state after)
    hears_if fits after fine = either fits (ask_commits after) (opened state) (asks_commits after fine) h

    refuses : (from : ℕ) (letter : Letter) (m : Message) → Fine (rows.refuse state from letter m)
    refuses from letter (letters.Prepare t writes) = h
    refuses from letter other = h

    stops : (m : Message) → Fine (rows.stop w state m)
    stops letters.Stop = (h.0, tt)
    stops other = h

    returns : (m : Message) → Fine (rows.return state m)
    returns letters.Return = h
    returns other = h

    hears_up : (from : ℕ) (letter : Letter) → IsOfAnother (here.0 + 1) letter.message → Fine (rows.hear_up w state from letter)
    hears_up zero letter other = stops letter.message
    hears_up (suc zero) letter other =
        either (letter.to == state.session) (rows.hear_sequencer w state letter) (opened state)
        (hears_if (is_of_sequencer w letter.message && rows.fits_here w state letter.message) (rows.sequencer_row w (opened state) letter.message) (sequencer_rows (opened state) letter.message other h)) h
    hears_up (suc (suc k)) letter other =
        either (letter.to == state.session) (rows.hear_peer w state (site (k + 1)) letter) (rows.refuse state (k + 2) letter letter.message)
        (hears_if (is_of_site w letter.message && rows.fits_here w state letter.message) (rows.peer_row w (opened state) (site (k + 1)) letter.from letter.message)
        (peer_rows (opened state) (site (k + 1)) letter.from letter.message h)) (refuses (k + 2) letter letter.message)

    hears_down : (from : ℕ) (letter : Letter) → Fine (rows.hear_down state from letter)
    hears_down zero letter = returns letter.message
    hears_down (suc k) letter = h

    hears : (from : ℕ) (letter : Letter) → IsOfAnother (here.0 + 1) letter.message → Fine (rows.hear_site w state from letter)
    hears from letter other = either state.up (rows.hear_up w state from letter) (rows.hear_down state from letter) (hears_up from letter other) (hears_down from letter)

pub still_there : (w : Workload) (state : SiteState) (from : ℕ) (letter : Letter) → IsOfAnother (state.site.0 + 1) letter.message → AreStanding w state → (rows.hear_site w state from letter).state.site ≡ state.site
still_there w state from letter other h = (hears w state.site state (refl, h) from letter other).0

pub site_stands : (w : Workload) (state : SiteState) (from : ℕ) (letter : Letter) → IsOfAnother (state.site.0 + 1) letter.message → AreStanding w state → AreStanding w (rows.hear_site w state from letter).state
site_stands w state from letter other h =
    let fine = hears w state.site state (refl, h) from letter other in
    subst (λ s. AllByRecursion (Stands w s) (rows.hear_site w state from letter).state.running) (sym fine.0) fine.1
