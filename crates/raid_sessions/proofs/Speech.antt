-- What a site's step says of sessions to others: none after the last that the history has of the site.
use Rattle.std.proofs.Common.{◌≡◌, ◌⊎◌, inl, inr, refl, ℕ, ℤ, zero, suc, ◌+◌, ◌-◌, ◌<◌, ◌≤◌, ◌==◌, nat_le, Bool, true, false, ◌&&◌, List, [], ◌∷◌, ◌++◌, length, map, fold, replicate, Option, Some, None, if◌then◌else◌, arith, sym, subst, ap}
use Rattle.std.specs.Prelude.{slice_index, slice_set}
use Rattle.std.proofs.lemmas.Bool.{eqb-true}
use Rattle.std.specs.List.{AllByRecursion}
use Rattle.std.specs.Option.{option_map_or}
use Rattle.raid_base.specs.declared.names.Txn.{Txn}
use Rattle.raid_base.specs.declared.names.Item.{Item}
use Rattle.raid_base.specs.declared.names.Site.{Site}
use Rattle.raid_base.specs.declared.entry.Answer.{Answer}
use Rattle.raid_base.specs.declared.entry.Answer.TheVariants.{Yes, No}
use Rattle.raid_base.specs.Names.{is_site}
use Rattle.raid_base.specs.Find.{first_of}
use Rattle.raid_base.specs.Sites.{session, site}
use Rattle.raid_program.specs.declared.program.Outcome.{Outcome}
use Rattle.raid_program.specs.declared.program.Want.{Want}
use Rattle.raid_program.specs.declared.program.Want.TheVariants as wants
use Rattle.raid_program.specs.Run.{outcome_of, put}
use Rattle.raid_workload.specs.declared.workload.Workload.{Workload}
use Rattle.raid_workload.specs.Parts.{count_from, program}
use Rattle.raid_legal.specs.Seen.{holds_some}
use Rattle.raid_message.specs.declared.letter.Message.{Message}
use Rattle.raid_message.specs.declared.letter.Message.TheVariants as letters
use Rattle.raid_message.specs.declared.letter.Letter.{Letter}
use Rattle.raid_steps.specs.State.{Out, Turn, with_state, opened, send, tell, Copy, Phase, asking, preparing, sent, Running, SiteState}
use Rattle.raid_steps.specs.Fits.{knows_site, is_of_sequencer, is_of_site}
use Rattle.raid_steps.specs.Sequencer.{is_hello}
use Rattle.raid_steps.specs.Copies.{copy_of, staged_of, apply, unstage, stage, set_copy}
use Rattle.raid_steps.specs.Programs as programs
use Rattle.raid_steps.specs.Site as rows
use Rattle.raid_steps.proofs.Parts.{number_known}
use Rattle.raid_sessions.proofs.Lists.{apart, all_append, all_weaken, index_other, set_less, set_most, within}
use Rattle.raid_sessions.proofs.Timely.{IsPast, ArePast, IsNote, IsWithin, within_site, IsSaid}

module _ (w : Workload) (L : Site → ℕ) where
  abbrev Kept : Turn SiteState → Type 0
  Kept turn = ArePast w L turn.state.vector × AllByRecursion (IsWithin w L) turn.outs

  plus : (turn : Turn SiteState) (outs : List Out) → AllByRecursion (IsWithin w L) outs → Kept turn → AllByRecursion (IsWithin w L) (turn.outs ++ outs)
  plus turn outs good k = all_append (IsWithin w L) turn.outs outs k.1 good

  -- what the sequencer is told is for no session, and what another site is told is for a past one
  nowhere : (k : ℕ) → 1 ≡ k + 2 → ⊥
  nowhere k to = omega (arith, to)

  told : (s : Site) (n : ℕ) (m : Message) → IsPast w L s n → AllByRecursion (IsWithin w L) (let out : Out = (s.0 + 1, n, m) in out ∷ [])
  told s n m past = (within_site w L s n m past, tt)

  either : (b : Bool) (x y : Turn SiteState) → Kept x → Kept y → Kept (if b then x else y)
  either true x y k l = k
  either false x y k l = l

  folds : {X : Type 0} (step : Turn SiteState → X → Turn SiteState) (turn : Turn SiteState) (xs : List X) → ((turn : Turn SiteState) (x : X) → Kept turn → Kept (step turn x)) → Kept turn → Kept (fold step turn xs)
  folds step turn [] each k = k
  folds step turn (x ∷ xs) each k = folds step (step turn x) xs each (each turn x k)

  options : {X : Type 0} (f : X → Turn SiteState) (o : Option X) (turn : Turn SiteState) → ((x : X) → Kept (f x)) → Kept turn → Kept (option_map_or f o turn)
  options f None turn each k = k
  options f (Some x) turn each k = each x

  -- programs
  prepared : (v : List ℕ) (t : Txn) (writes : List (Item × ℤ)) (ss : List Site) → ArePast w L v → AllByRecursion (IsWithin w L) (map (programs.prepare_out w v t writes) ss)
  prepared v t writes [] past = tt
  prepared v t writes (s ∷ ss) past = (within_site w L s (session v s) (letters.Prepare t (programs.held_by w s writes)) (past s), prepared v t writes ss past)

  prepares : (turn : Turn SiteState) (r : Running) (o : Outcome) → Kept turn → Kept (programs.prepare w turn r o)
  prepares turn r o k = go (holds_some w o.writes turn.state.site) (stage r.txn (programs.held_by w turn.state.site o.writes) turn.state.staged)
    where
      outs : List Out
      outs = map (programs.prepare_out w turn.state.vector r.txn o.writes) (programs.voters w turn.state o.writes)

      go : (b : Bool) (staged : List (Txn × List (Item × ℤ))) → ArePast w L (if b then record (turn.state) { staged = staged } else turn.state).vector × AllByRecursion (IsWithin w L) (turn.outs ++ outs)
      go true staged = (k.0, plus turn outs (prepared turn.state.vector r.txn o.writes (programs.voters w turn.state o.writes) k.0) k)
      go false staged = (k.0, plus turn outs (prepared turn.state.vector r.txn o.writes (programs.voters w turn.state o.writes) k.0) k)

  turns_to : (turn : Turn SiteState) (r : Running) (o : Outcome) (want : Want) → Kept turn → Kept (programs.turn_to w turn r o want)
  turns_to turn r o (wants.Read x) k = (k.0, plus turn _ (λ i below to. absurd (nowhere i to), tt) k)
  turns_to turn r o wants.Done k = prepares turn r o k
  turns_to turn r o wants.Own k = (k.0, plus turn _ (λ i below to. absurd (nowhere i to), tt) k)
  turns_to turn r o wants.Overflow k = (k.0, plus turn _ (λ i below to. absurd (nowhere i to), tt) k)

  goes_on : (turn : Turn SiteState) (r : Running) → Kept turn → Kept (programs.go_on w turn r)
  goes_on turn r k = let o = outcome_of (program w r.txn) (λ x. first_of x r.answers) in turns_to turn r o o.end k

  begins : (turn : Turn SiteState) (t : Txn) → Kept turn → Kept (programs.begin w turn t)
  begins turn t k = goes_on (tell turn (letters.Begin t)) (record { txn = t; answers = []; asks = 0; phase = sent }) (k.0, plus turn _ (λ i below to. absurd (nowhere i to), tt) k)

  begins_next : (turn : Turn SiteState) → Kept turn → Kept (programs.begin_next w turn)
  begins_next turn k =
      let now : Turn SiteState = with_state turn (record (turn.state) { next = programs.following w turn.state.site turn.state.next }) in
      let x : Txn = record { 0 = turn.state.next } in
      either (turn.state.next == 0) turn (programs.begin w now x) k (begins now x k)

  starts : (turn : Turn SiteState) → Kept turn → Kept (programs.start w turn)
  starts turn k = folds (λ t i. programs.begin_next w t) turn (count_from 0 (w.together - length turn.state.running)) (λ t i k. begins_next t k) k

  gives_to : (turn : Turn SiteState) (i : ℕ) (v : ℤ) (r : Running) (phase : Phase) → Kept turn → Kept (programs.give_to w turn i v r phase)
  gives_to turn i v r (asking j x s) k = either (j == i) (programs.go_on w turn (record r { answers = put r.answers x v })) turn (goes_on turn (record r { answers = put r.answers x v }) k) k
  gives_to turn i v r (preparing reads writes awaited) k = k
  gives_to turn i v r sent k = k

  gives : (turn : Turn SiteState) (t : Txn) (i : ℕ) (v : ℤ) → Kept turn → Kept (programs.give w turn t i v)
  gives turn t i v k = options (λ r. programs.give_to w turn i v r r.phase) (programs.running_of turn.state t) turn (λ r. gives_to turn i v r r.phase k) k

  changes : (turn : Turn SiteState) (t : Txn) (f : Phase → Phase) → Kept turn → Kept (programs.change turn t f)
  changes turn t f k = options (λ r. programs.with_running turn (record r { phase = f r.phase })) (programs.running_of turn.state t) turn (λ r. k) k

  loses : (s : Site) (turn : Turn SiteState) (r : Running) (phase : Phase) → Kept turn → Kept (programs.lose s turn r phase)
  loses s turn r (asking i x None) k = k
  loses s turn r (asking i x (Some q)) k = either (is_site s q) (programs.ask turn r x) turn (k.0, plus turn _ (λ i below to. absurd (nowhere i to), tt) k) k
  loses s turn r (preparing reads writes awaited) k = k
  loses s turn r sent k = k

  joins : (s : Site) (turn : Turn SiteState) (r : Running) (phase : Phase) → Kept turn → Kept (programs.join w s turn r phase)
  joins s turn r (asking i x q) k = k
  joins s turn r (preparing reads writes awaited) k =
      either (holds_some w writes s) (send (programs.with_running turn (record r { phase = preparing reads writes (programs.with_vote s awaited) })) (programs.prepare_out w turn.state.vector r.txn writes s)) turn
      (k.0, plus turn _ (told s (session turn.state.vector s) (letters.Prepare r.txn (programs.held_by w s writes)) (k.0 s)) k) k
  joins s turn r sent k = k

  asks_commit : (turn : Turn SiteState) (r : Running) (phase : Phase) → Kept turn → Kept (programs.ask_commit turn r phase)
  asks_commit turn r (asking i x q) k = k
  asks_commit turn r (preparing reads writes []) k = (k.0, plus turn _ (λ i below to. absurd (nowhere i to), tt) k)
  asks_commit turn r (preparing reads writes (s ∷ ss)) k = k
  asks_commit turn r sent k = k

  asks_commits : (turn : Turn SiteState) → Kept turn → Kept (programs.ask_commits turn)
  asks_commits turn k = folds (λ now r. programs.ask_commit now r r.phase) turn turn.state.running (λ now r k. asks_commit now r r.phase k) k

  -- the rows
  serves : (turn : Turn SiteState) (t : Txn) (i : ℕ) (h : Site) (n : ℕ) (c : Copy) → IsPast w L h n → Kept turn → Kept (rows.serve w turn t i h n c)
  serves turn t i h n c past k = either (is_site turn.state.site h) (programs.give w turn t i c.value) (send turn (h.0 + 1, n, letters.Value t i c.value)) (gives turn t i c.value k) (k.0, plus turn _ (told h n (letters.Value t i c.value) past) k)

  -- the vector, where a site goes down or comes up in it
  lowered : (v : List ℕ) (s : Site) → ArePast w L v → ArePast w L (slice_set v (s.0 - 1) 0)
  lowered v s past r known = (let most = past r known in let less = set_less v (s.0 - 1) (r.0 - 1) in omega (arith, most, less))

  raised : (v : List ℕ) (s : Site) (n : ℕ) → knows_site w s ≡ true → n ≤ L s → ArePast w L v → ArePast w L (slice_set v (s.0 - 1) n)
  raised v s n known low past r known_too = go (s.0 == r.0) refl
    where
      go : (b : Bool) → (s.0 == r.0) ≡ b → session (slice_set v (s.0 - 1) n) r ≤ L r
      go true q =
          let same : s ≡ r = ap (λ i. let x : Site = record { 0 = i } in x) (eqb-true s.0 r.0 q) in
          subst (λ x. session (slice_set v (s.0 - 1) n) x ≤ L x) same (let most = set_most v (s.0 - 1) n in omega (arith, most, low))
      go false q =
          let other = index_other v (s.0 - 1) (r.0 - 1) n (apart s.0 r.0 q (within w.sites s.0 known).0 (within w.sites r.0 known_too).0) in
          let most = past r known_too in
          omega (arith, other, most)

  drops : (turn : Turn SiteState) (t : Txn) (again : Bool) → Kept turn → Kept (rows.drop_row w turn t again)
  drops turn t again k =
      let dropped = programs.ended (with_state turn (record (turn.state) { staged = unstage t turn.state.staged })) t in
      starts (if programs.runs_here turn.state t && again then programs.begin w dropped (programs.next_attempt w t) else dropped)
      (either (programs.runs_here turn.state t && again) (programs.begin w dropped (programs.next_attempt w t)) dropped (begins dropped (programs.next_attempt w t) k) k)

  votes : (turn : Turn SiteState) (t : Txn) (s : Site) (n : ℕ) (answer : Answer) → Kept turn → Kept (rows.vote_row turn t s n answer)
  votes turn t s n Yes k = either (session turn.state.vector s == n) (programs.change turn t (programs.without_vote s)) turn (changes turn t (programs.without_vote s) k) k
  votes turn t s n (No named own) k = k

  refreshes : (turn : Turn SiteState) (x : Item) (v : ℤ) (version : ℕ) (c : Copy) → Kept turn → Kept (rows.refresh turn x v version c)
  refreshes turn x v version c k =
      either (nat_le c.version version) (tell (with_state turn (record (turn.state) { copies = set_copy x v version turn.state.copies })) (letters.CopyDone x version)) turn
      (k.0, plus turn _ (λ i below to. absurd (nowhere i to), tt) k) k

  sequencer_rows : (turn : Turn SiteState) (message : Message) → is_of_sequencer w message ≡ true → IsNote w L message → Kept turn → Kept (rows.sequencer_row w turn message)
  sequencer_rows turn (letters.Welcome v next) fits note k = starts (with_state turn (record (turn.state) { vector = v; next = next })) (note, k.1)
  sequencer_rows turn (letters.ReadDo t i x h n) fits note k = options (rows.serve w turn t i h n) (copy_of turn.state x) turn (λ c. serves turn t i h n c note k) k
  sequencer_rows turn (letters.Serving t i s) fits note k = changes turn t (programs.noted_at i s) k
  sequencer_rows turn (letters.Apply t number) fits note k =
      options (λ ps. tell (with_state turn (apply turn.state t number ps)) (letters.Ack t)) (staged_of turn.state t) turn (λ ps. (k.0, plus turn _ (λ i below to. absurd (nowhere i to), tt) k)) k
  sequencer_rows turn (letters.Done t) fits note k = starts (programs.ended turn t) k
  sequencer_rows turn (letters.Drop t again) fits note k = drops turn t again k
  sequencer_rows turn (letters.DownNote s) fits note k = folds (λ now r. programs.lose s now r r.phase) (rows.with_vector turn s 0) turn.state.running (λ now r k. loses s now r r.phase k) (lowered turn.state.vector s k.0, k.1)
  sequencer_rows turn (letters.UpNote s n) fits note k = folds (λ now r. programs.join w s now r r.phase) (rows.with_vector turn s n) turn.state.running (λ now r k. joins s now r r.phase k) (raised turn.state.vector s n fits (note fits) k.0, k.1)
  sequencer_rows turn (letters.CopyDo x target n) fits note k =
      options (λ (c : Copy). send turn (target.0 + 1, n, letters.CopyValue x c.value c.version)) (copy_of turn.state x) turn (λ c. (k.0, plus turn _ (told target n (letters.CopyValue x c.value c.version) note) k)) k
  sequencer_rows turn other fits note k = k

  peer_rows : (turn : Turn SiteState) (s : Site) (n : ℕ) (message : Message) → IsSaid w L s n message → Kept turn → Kept (rows.peer_row w turn s n message)
  peer_rows turn s n (letters.Value t i v) word k = gives turn t i v k
  peer_rows turn s n (letters.Prepare t writes) word k = (k.0, plus turn _ (told s n (letters.Vote t Yes) word) k)
  peer_rows turn s n (letters.Vote t answer) word k = votes turn t s n answer k
  peer_rows turn s n (letters.CopyValue x v version) word k = options (rows.refresh turn x v version) (copy_of turn.state x) turn (λ c. refreshes turn x v version c k) k
  peer_rows turn s n other word k = k

  hears_if : (fits here : Bool) (state : SiteState) (after : Turn SiteState) → Kept (opened state) → (fits ≡ true → Kept after) → Kept (rows.hear_if (fits && here) state after)
  hears_if true true state after k l = asks_commits after (l refl)
  hears_if true false state after k l = k
  hears_if false here state after k l = k

  -- what a site may send: for a session that the history has, and what it asks, it asks in such a session; but a Hello opens a new one
  abbrev pub IsSpeech : Site → ℕ → Out → Type 0
  IsSpeech self n out = IsWithin w L out × IsSaid w L self n out.2 × (out.0 ≡ 1 → (is_hello out.2 ≡ true) ⊎ (n ≤ L self))

  -- what the step of a site is to leave: all that it sends is such, and what it asks to be staged it asks in this session
  abbrev pub Speaks : Site → ℕ → Turn SiteState → Type 0
  Speaks self n turn = ArePast w L turn.state.vector × AllByRecursion (IsSpeech self n) turn.outs

  any_said : (self : Site) (n : ℕ) (m : Message) → n ≤ L self → IsSaid w L self n m
  any_said self n (letters.Prepare t writes) low = λ known. low
  any_said self n other low = tt

  speaks : (self : Site) (n : ℕ) (turn : Turn SiteState) → n ≤ L self → Kept turn → Speaks self n turn
  speaks self n turn low k = (k.0, all_weaken (IsWithin w L) (IsSpeech self n) turn.outs (λ out q. (q, any_said self n out.2 low, λ to. inr low)) k.1)

  -- a refusal is meant for the session in which the site was asked
  refuses : (self : Site) (n : ℕ) (state : SiteState) (i : ℕ) (letter : Letter) (message : Message) → ArePast w L state.vector → IsSaid w L (site (i + 1)) letter.from message → Speaks self n (rows.refuse state (i + 2) letter message)
  refuses self n state i letter (letters.Prepare t writes) past word = (past, ((within_other, tt, λ to. absurd (omega (arith, to))), tt))
    where
      within_other : (k : ℕ) → k < w.sites → i + 2 ≡ k + 2 → letter.from ≤ L (site (k + 1))
      within_other k below to =
          let here : i ≡ k = omega (arith, to) in
          subst (λ j. letter.from ≤ L (site (j + 1))) here (word (subst (λ j. knows_site w (site (j + 1)) ≡ true) (sym here) (number_known w k (omega (arith, below)))))
  refuses self n state i letter other past word = (past, tt)

  module _ (self : Site) (state : SiteState) (letter : Letter) (past : ArePast w L state.vector) where
    silent : Speaks self state.session (opened state)
    silent = (past, tt)

    speaks_up : (from : ℕ) → from < w.sites + 2 → (from ≡ 1 → (letter.to ≤ L self) × IsNote w L letter.message) → ((j : ℕ) → from ≡ j + 2 → (letter.to ≤ L self) × IsSaid w L (site (j + 1)) letter.from letter.message) →
        Speaks self state.session (rows.hear_up w state from letter)
    speaks_up zero below note word = stops letter.message
      where
        no_sessions : (n : ℕ) → ArePast w L (replicate n 0)
        no_sessions n s known = (let q = nothing n (s.0 - 1) in omega (arith, q))
          where
            nothing : (n k : ℕ) → slice_index (replicate n 0) k ≡ 0
            nothing zero k = refl
            nothing (suc n) zero = refl
            nothing (suc n) (suc k) = nothing n k

        stops : (m : Message) → Speaks self state.session (rows.stop w state m)
        stops letters.Stop = (no_sessions w.sites, ((λ k below to. absurd (omega (arith, to)), tt, λ to. absurd (omega (arith, to))), tt))
        stops other = (past, tt)
    speaks_up (suc zero) below note word = go (letter.to == state.session) refl
      where
        go : (b : Bool) → (letter.to == state.session) ≡ b → Speaks self state.session (if b then rows.hear_sequencer w state letter else opened state)
        go true q =
            let heard = note refl in
            let low : state.session ≤ L self = subst (λ n. n ≤ L self) (eqb-true letter.to state.session q) heard.0 in
            speaks self state.session (rows.hear_sequencer w state letter) low
            (hears_if (is_of_sequencer w letter.message) (rows.fits_here w state letter.message) state (rows.sequencer_row w (opened state) letter.message) (past, tt) (λ fits. sequencer_rows (opened state) letter.message fits heard.1 (past, tt)))
        go false q = silent
    speaks_up (suc (suc i)) below note word = go (letter.to == state.session) refl
      where
        heard : (letter.to ≤ L self) × IsSaid w L (site (i + 1)) letter.from letter.message
        heard = word i (omega arith)

        go : (b : Bool) → (letter.to == state.session) ≡ b → Speaks self state.session (if b then rows.hear_peer w state (site (i + 1)) letter else rows.refuse state (i + 2) letter letter.message)
        go true q =
            let low : state.session ≤ L self = subst (λ n. n ≤ L self) (eqb-true letter.to state.session q) heard.0 in
            speaks self state.session (rows.hear_peer w state (site (i + 1)) letter) low
            (hears_if (is_of_site w letter.message) (rows.fits_here w state letter.message) state (rows.peer_row w (opened state) (site (i + 1)) letter.from letter.message) (past, tt) (λ fits. peer_rows (opened state) (site (i + 1)) letter.from letter.message heard.1 (past, tt)))
        go false q = refuses self state.session state i letter letter.message past heard.1

    speaks_down : (from : ℕ) → Speaks self state.session (rows.hear_down state from letter)
    speaks_down zero = returns letter.message
      where
        returns : (m : Message) → Speaks self state.session (rows.return state m)
        returns letters.Return = (past, ((λ k below to. absurd (omega (arith, to)), tt, λ to. inl refl), tt))
        returns other = (past, tt)
    speaks_down (suc i) = silent

    pub site_speaks : (from : ℕ) → from < w.sites + 2 → (from ≡ 1 → (letter.to ≤ L self) × IsNote w L letter.message) → ((j : ℕ) → from ≡ j + 2 → (letter.to ≤ L self) × IsSaid w L (site (j + 1)) letter.from letter.message) →
        Speaks self state.session (rows.hear_site w state from letter)
    site_speaks from below note word = go state.up
      where
        go : (u : Bool) → Speaks self state.session (if u then rows.hear_up w state from letter else rows.hear_down state from letter)
        go true = speaks_up from below note word
        go false = speaks_down from
