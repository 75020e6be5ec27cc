-- What each program that runs at a site has come to after a step that goes through all of them.
use Rattle.std.proofs.Common.{◌≡◌, ℕ, suc, ◌+◌, ◌<◌, ◌==◌, nat_lt, Bool, true, false, not, ◌&&◌, List, [], ◌∷◌, map, fold, find, Some, None, if◌then◌else◌, sym, ap, subst, ◌∙◌, refl}
use Rattle.std.specs.List.{AllByRecursion}
use Rattle.raid_base.specs.declared.names.Txn.{Txn}
use Rattle.raid_base.specs.declared.names.Site.{Site}
use Rattle.raid_base.specs.Names.{is_txn, is_site, has_site}
use Rattle.raid_base.specs.Sites.{site}
use Rattle.raid_workload.specs.declared.workload.Workload.{Workload}
use Rattle.raid_legal.specs.Seen.{holds_some}
use Rattle.raid_message.specs.declared.letter.Message.{Message}
use Rattle.raid_message.specs.declared.letter.Message.TheVariants as letters
use Rattle.raid_message.specs.declared.letter.Letter.{Letter}
use Rattle.raid_steps.specs.State.{Turn, opened, send, Phase, asking, preparing, sent, Running, SiteState}
use Rattle.raid_steps.specs.Fits.{is_of_sequencer, is_of_site}
use Rattle.raid_steps.specs.Programs.{running_of, put_running, with_running, ask, without_vote, with_vote, prepare_out, lose, join, ask_commit, ask_commits}
use Rattle.raid_steps.specs.Site as rows
use Rattle.raid_moves.specs.Moves.{Ascend, Tells, Says, Reached, but}
use Rattle.raid_moves.specs.After.{lost_in, lost, joined_in, joined, committed_in, committed, is_ready, needs, NoneIsReady, NoneNeeds}
use Rattle.raid_moves.proofs.Places.{all_both, IsBehind, self, apart, not_less, ascend_put, put_other, put_same, IsFoundIn, each_found}
use Rattle.raid_moves.proofs.Steps.{sequencer_rows, peer_rows, ascend_row, ascend_moves}

-- all programs changed, one after the other
module _ (f : Running → Running) (same : (r : Running) → (f r).txn ≡ r.txn) where
  abbrev puts : List Running → List Running → List Running
  puts all rs = fold (λ qs r. put_running (f r) qs) all rs

  put_first : (r : Running) (rs : List Running) → put_running (f r) (r ∷ rs) ≡ f r ∷ rs
  put_first r rs = (let equal : (r.txn.0 == (f r).txn.0) ≡ true = subst (λ (t : Txn). (r.txn.0 == t.0) ≡ true) (sym (same r)) (self r.txn.0) in rw equal refl)

  put_after : (q r : Running) (qs : List Running) → q.txn.0 < r.txn.0 → put_running (f r) (q ∷ qs) ≡ q ∷ put_running (f r) qs
  put_after q r qs l =
      let other : (q.txn.0 == (f r).txn.0) ≡ false = subst (λ (t : Txn). (q.txn.0 == t.0) ≡ false) (sym (same r)) (apart q.txn.0 r.txn.0 l) in
      let after : nat_lt (f r).txn.0 q.txn.0 ≡ false = subst (λ (t : Txn). nat_lt t.0 q.txn.0 ≡ false) (sym (same r)) (not_less r.txn.0 q.txn.0 l) in
      rw (other, after) refl

  puts_after : (q : Running) (qs rs : List Running) → AllByRecursion (IsBehind q.txn) rs → puts (q ∷ qs) rs ≡ q ∷ puts qs rs
  puts_after q qs [] a = refl
  puts_after q qs (r ∷ rs) a = ap (λ ps. puts ps rs) (put_after q r qs a.0) ∙ puts_after q (put_running (f r) qs) rs a.1

  puts_all : (rs : List Running) → Ascend rs → puts rs rs ≡ map f rs
  puts_all [] a = refl
  puts_all (r ∷ rs) a =
      ap (λ ps. puts ps rs) (put_first r rs) ∙ puts_after (f r) rs rs (subst (λ (t : Txn). AllByRecursion (IsBehind t) rs) (sym (same r)) a.0) ∙ ap (λ ps. f r ∷ ps) (puts_all rs a.1)

  abbrev Does : (Turn SiteState → Running → Turn SiteState) → Type 0
  Does step = (turn : Turn SiteState) (r : Running) → Ascend turn.state.running → running_of turn.state r.txn ≡ Some r → (step turn r).state.running ≡ put_running (f r) turn.state.running

  gone_through : (step : Turn SiteState → Running → Turn SiteState) → Does step → (rs : List Running) (turn : Turn SiteState) → Ascend turn.state.running → Ascend rs → AllByRecursion (IsFoundIn turn.state.running) rs → (fold step turn rs).state.running ≡ puts turn.state.running rs
  gone_through step does [] turn a b all = refl
  gone_through step does (r ∷ rs) turn a b all =
      let put = does turn r a all.0 in
      let others : (t : Txn) → (r.txn.0 == t.0) ≡ false → running_of (step turn r).state t ≡ running_of turn.state t =
      (λ t d. ap (λ qs. find (λ (q : Running). is_txn t q.txn) qs) put ∙ put_other t (f r) turn.state.running (subst (λ (u : Txn). (u.0 == t.0) ≡ false) (sym (same r)) d)) in
      gone_through step does rs (step turn r) (subst Ascend (sym put) (ascend_put (f r) turn.state.running a)) b.1
      (all_both (IsBehind r.txn) (IsFoundIn turn.state.running) (IsFoundIn (step turn r).state.running) rs (λ q l g. others q.txn (apart r.txn.0 q.txn.0 l) ∙ g) b.0 all.1)
      ∙ ap (λ qs. puts qs rs) put

  through : (step : Turn SiteState → Running → Turn SiteState) → Does step → (turn : Turn SiteState) → Ascend turn.state.running → (fold step turn turn.state.running).state.running ≡ map f turn.state.running
  through step does turn a = gone_through step does turn.state.running turn a a (each_found turn.state.running a) ∙ puts_all turn.state.running a

-- a site is down
lost_same : (s : Site) (r : Running) → (lost s r).txn ≡ r.txn
lost_same s r = go r.phase
  where
    go : (phase : Phase) → (lost_in s r phase).txn ≡ r.txn
    go (asking k x None) = refl
    go (asking k x (Some q)) = again (is_site s q)
      where
        again : (b : Bool) → (if b then record r { asks = r.asks + 1; phase = asking (r.asks + 1) x None } else r).txn ≡ r.txn
        again true = refl
        again false = refl
    go (preparing reads writes awaited) = refl
    go sent = refl

loses : (s : Site) → Does (lost s) (lost_same s) (λ now r. lose s now r r.phase)
loses s turn r a f = go r.phase refl
  where
    kept : turn.state.running ≡ put_running r turn.state.running
    kept = sym (put_same r turn.state.running a f)

    go : (phase : Phase) → r.phase ≡ phase → (lose s turn r phase).state.running ≡ put_running (lost_in s r phase) turn.state.running
    go (asking k x None) p = kept
    go (asking k x (Some q)) p = again (is_site s q)
      where
        again : (b : Bool) → (if b then ask turn r x else turn).state.running ≡ put_running (if b then record r { asks = r.asks + 1; phase = asking (r.asks + 1) x None } else r) turn.state.running
        again true = refl
        again false = kept
    go (preparing reads writes awaited) p = ap (λ phase. put_running (record r { phase = without_vote s phase }) turn.state.running) p
    go sent p = kept

-- a site is up again
joined_same : (w : Workload) (s : Site) (r : Running) → (joined w s r).txn ≡ r.txn
joined_same w s r = go r.phase
  where
    go : (phase : Phase) → (joined_in w s r phase).txn ≡ r.txn
    go (asking k x q) = refl
    go (preparing reads writes awaited) = holds (holds_some w writes s)
      where
        holds : (b : Bool) → (if b then record r { phase = preparing reads writes (with_vote s awaited) } else r).txn ≡ r.txn
        holds true = refl
        holds false = refl
    go sent = refl

joins : (w : Workload) (s : Site) → Does (joined w s) (joined_same w s) (λ now r. join w s now r r.phase)
joins w s turn r a f = go r.phase
  where
    kept : turn.state.running ≡ put_running r turn.state.running
    kept = sym (put_same r turn.state.running a f)

    go : (phase : Phase) → (join w s turn r phase).state.running ≡ put_running (joined_in w s r phase) turn.state.running
    go (asking k x q) = kept
    go (preparing reads writes awaited) = holds (holds_some w writes s)
      where
        now : Running
        now = record r { phase = preparing reads writes (with_vote s awaited) }

        holds : (b : Bool) → (if b then send (with_running turn now) (prepare_out w turn.state.vector r.txn writes s) else turn).state.running ≡ put_running (if b then now else r) turn.state.running
        holds true = refl
        holds false = kept
    go sent = kept

-- commits are asked for
committed_same : (r : Running) → (committed r).txn ≡ r.txn
committed_same r = go r.phase
  where
    go : (phase : Phase) → (committed_in r phase).txn ≡ r.txn
    go (asking k x q) = refl
    go (preparing reads writes []) = refl
    go (preparing reads writes (s ∷ ss)) = refl
    go sent = refl

commits : Does committed committed_same (λ now r. ask_commit now r r.phase)
commits turn r a f = go r.phase
  where
    kept : turn.state.running ≡ put_running r turn.state.running
    kept = sym (put_same r turn.state.running a f)

    go : (phase : Phase) → (ask_commit turn r phase).state.running ≡ put_running (committed_in r phase) turn.state.running
    go (asking k x q) = kept
    go (preparing reads writes []) = refl
    go (preparing reads writes (s ∷ ss)) = kept
    go sent = kept

pub committed_all : (turn : Turn SiteState) → Ascend turn.state.running → (ask_commits turn).state.running ≡ map committed turn.state.running
committed_all turn a = through committed committed_same (λ now r. ask_commit now r r.phase) commits turn a

pub lost_all : (s : Site) (turn : Turn SiteState) → Ascend turn.state.running → (rows.down_row turn s).state.running ≡ map (lost s) turn.state.running
lost_all s turn a = through (lost s) (lost_same s) (λ now r. lose s now r r.phase) (loses s) (rows.with_vector turn s 0) a

pub joined_all : (w : Workload) (s : Site) (n : ℕ) (turn : Turn SiteState) → Ascend turn.state.running → (rows.up_row w turn s n).state.running ≡ map (joined w s) turn.state.running
joined_all w s n turn a = through (joined w s) (joined_same w s) (λ now r. join w s now r r.phase) (joins w s) (rows.with_vector turn s n) a

-- The step on a letter that is heard
module _ (w : Workload) (state : SiteState) (from : ℕ) (letter : Letter) where
  pub told_is : (m : Message) → Tells w state from letter m → rows.hear_site w state from letter ≡ ask_commits (rows.sequencer_row w (opened state) m)
  told_is m t =
      subst (λ n. rows.hear_site w state n letter ≡ after) (sym t.by)
      (subst (λ b. (if b then rows.hear_up w state 1 letter else rows.hear_down state 1 letter) ≡ after) (sym t.heard.up)
      (subst (λ b. (if b then rows.hear_sequencer w state letter else opened state) ≡ after) (sym t.heard.meant)
      (subst (λ n. rows.hear_if (is_of_sequencer w n && rows.fits_here w state n) state (rows.sequencer_row w (opened state) n) ≡ after) (sym t.is)
      (subst (λ b. rows.hear_if b state (rows.sequencer_row w (opened state) m) ≡ after) (sym t.fits) refl))))
    where
      after : Turn SiteState
      after = ask_commits (rows.sequencer_row w (opened state) m)

  pub said_is : (k : ℕ) (m : Message) → Says w state from letter k m → rows.hear_site w state from letter ≡ ask_commits (rows.peer_row w (opened state) (site (k + 1)) letter.from m)
  said_is k m t =
      subst (λ n. rows.hear_site w state n letter ≡ after) (sym t.by)
      (subst (λ b. (if b then rows.hear_up w state (suc (suc k)) letter else rows.hear_down state (suc (suc k)) letter) ≡ after) (sym t.heard.up)
      (subst (λ b. (if b then rows.hear_peer w state (site (k + 1)) letter else rows.refuse state (k + 2) letter letter.message) ≡ after) (sym t.heard.meant)
      (subst (λ n. rows.hear_if (is_of_site w n && rows.fits_here w state n) state (rows.peer_row w (opened state) (site (k + 1)) letter.from n) ≡ after) (sym t.is)
      (subst (λ b. rows.hear_if b state (rows.peer_row w (opened state) (site (k + 1)) letter.from m) ≡ after) (sym t.fits) refl))))
    where
      after : Turn SiteState
      after = ask_commits (rows.peer_row w (opened state) (site (k + 1)) letter.from m)

  ascends : Ascend state.running → {last : Turn SiteState} → Reached w state from letter last → Ascend last.state.running
  ascends a (after, (r, s)) = ascend_moves w state from letter (ascend_row w state from letter a r) s

  ascends_told : (m : Message) → Tells w state from letter m → Ascend state.running → Ascend (rows.sequencer_row w (opened state) m).state.running
  ascends_told m t a = ascends a (sequencer_rows w state from letter a m t)

  ascends_said : (k : ℕ) (m : Message) → Says w state from letter k m → Ascend state.running → Ascend (rows.peer_row w (opened state) (site (k + 1)) letter.from m).state.running
  ascends_said k m t a = ascends a (peer_rows w state from letter a k m t)

  -- what is so of each that was changed is so of all
  all_mapped : (P : Running → Type 0) (f : Running → Running) (rs : List Running) → ((r : Running) → P (f r)) → AllByRecursion P (map f rs)
  all_mapped P f [] each = tt
  all_mapped P f (r ∷ rs) each = (each r, all_mapped P f rs each)

  not_ready : (r : Running) → is_ready (committed r).phase ≡ false
  not_ready r = go r.phase refl
    where
      go : (phase : Phase) → r.phase ≡ phase → is_ready (committed_in r phase).phase ≡ false
      go (asking k x q) p = ap is_ready p
      go (preparing reads writes []) p = refl
      go (preparing reads writes (s ∷ ss)) p = ap is_ready p
      go sent p = ap is_ready p

  none_ready : (turn : Turn SiteState) → Ascend turn.state.running → NoneIsReady (ask_commits turn).state
  none_ready turn a = subst (AllByRecursion (λ (r : Running). is_ready r.phase ≡ false)) (sym (committed_all turn a)) (all_mapped (λ r. is_ready r.phase ≡ false) committed turn.state.running not_ready)

  pub none_ready_told : (m : Message) → Tells w state from letter m → Ascend state.running → NoneIsReady (rows.hear_site w state from letter).state
  none_ready_told m t a = subst (λ (turn : Turn SiteState). NoneIsReady turn.state) (sym (told_is m t)) (none_ready (rows.sequencer_row w (opened state) m) (ascends_told m t a))

  pub none_ready_said : (k : ℕ) (m : Message) → Says w state from letter k m → Ascend state.running → NoneIsReady (rows.hear_site w state from letter).state
  none_ready_said k m t a = subst (λ (turn : Turn SiteState). NoneIsReady turn.state) (sym (said_is k m t)) (none_ready (rows.peer_row w (opened state) (site (k + 1)) letter.from m) (ascends_said k m t a))

  -- a site is down, or up again
  pub fallen : (s : Site) → Tells w state from letter (letters.DownNote s) → Ascend state.running → (rows.hear_site w state from letter).state.running ≡ map committed (map (lost s) state.running)
  fallen s t a = ap (λ (turn : Turn SiteState). turn.state.running) (told_is (letters.DownNote s) t) ∙ committed_all (rows.down_row (opened state) s) (ascends_told (letters.DownNote s) t a) ∙ ap (map committed) (lost_all s (opened state) a)

  pub risen : (s : Site) (n : ℕ) → Tells w state from letter (letters.UpNote s n) → Ascend state.running → (rows.hear_site w state from letter).state.running ≡ map committed (map (joined w s) state.running)
  risen s n t a = ap (λ (turn : Turn SiteState). turn.state.running) (told_is (letters.UpNote s n) t) ∙ committed_all (rows.up_row w (opened state) s n) (ascends_told (letters.UpNote s n) t a) ∙ ap (map committed) (joined_all w s n (opened state) a)

  -- nothing is needed of a site that is down
  needless : (s : Site) (r : Running) → needs s (lost s r).phase ≡ false
  needless s r = go r.phase refl
    where
      go : (phase : Phase) → r.phase ≡ phase → needs s (lost_in s r phase).phase ≡ false
      go (asking k x None) p = ap (needs s) p
      go (asking k x (Some q)) p = again (is_site s q) refl
        where
          again : (b : Bool) → is_site s q ≡ b → needs s (if b then record r { asks = r.asks + 1; phase = asking (r.asks + 1) x None } else r).phase ≡ false
          again true i = refl
          again false i = ap (needs s) p ∙ i
      go (preparing reads writes awaited) p = none awaited
        where
          none : (ss : List Site) → has_site (but s ss) s ≡ false
          none [] = refl
          none (q ∷ ss) = left_out (is_site s q) refl (none ss)
            where
              left_out : (b : Bool) → is_site s q ≡ b → has_site (but s ss) s ≡ false → has_site (if not b then q ∷ but s ss else but s ss) s ≡ false
              left_out true i rest = rest
              left_out false i rest = rw i rest
      go sent p = ap (needs s) p

  still_needless : (s : Site) (r : Running) → needs s r.phase ≡ false → needs s (committed r).phase ≡ false
  still_needless s r n = go r.phase
    where
      go : (phase : Phase) → needs s (committed_in r phase).phase ≡ false
      go (asking k x q) = n
      go (preparing reads writes []) = refl
      go (preparing reads writes (q ∷ qs)) = n
      go sent = n

  pub none_needs : (s : Site) → Tells w state from letter (letters.DownNote s) → Ascend state.running → NoneNeeds s (rows.hear_site w state from letter).state
  none_needs s t a = subst (AllByRecursion (λ (r : Running). needs s r.phase ≡ false)) (sym (fallen s t a)) (both state.running)
    where
      both : (rs : List Running) → AllByRecursion (λ (r : Running). needs s r.phase ≡ false) (map committed (map (lost s) rs))
      both [] = tt
      both (r ∷ rs) = (still_needless s (lost s r) (needless s r), both rs)
