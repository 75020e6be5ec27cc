-- A site's step is its row, and then a chain of moves.
use Rattle.std.proofs.Common.{◌≡◌, ℕ, ℤ, zero, suc, ◌+◌, ◌-◌, ◌<◌, ◌≤◌, ◌==◌, nat_le, Bool, true, false, not, ◌&&◌, List, [], ◌∷◌, length, find, fold, option_map, Option, Some, None, if◌then◌else◌, arith, sym, ap, subst, ◌∙◌, refl}
use Rattle.std.specs.List.{AllByRecursion, list_any}
use Rattle.std.specs.Option.{option_map_or}
use Rattle.std.proofs.lemmas.Bool.{eqb-true, and_parts}
use Rattle.raid_base.specs.declared.names.Txn.{Txn}
use Rattle.raid_base.specs.declared.names.Item.{Item}
use Rattle.raid_base.specs.declared.names.Site.{Site}
use Rattle.raid_base.specs.declared.entry.Answer.{Answer}
use Rattle.raid_base.specs.declared.entry.Answer.TheVariants.{Yes, No}
use Rattle.raid_base.specs.Names.{is_txn, is_item, is_site}
use Rattle.raid_base.specs.Sites.{session, site}
use Rattle.raid_program.specs.declared.program.Want.{Want}
use Rattle.raid_program.specs.declared.program.Want.TheVariants as wants
use Rattle.raid_program.specs.Run.{put}
use Rattle.raid_workload.specs.declared.workload.Workload.{Workload}
use Rattle.raid_workload.specs.Parts.{count_from}
use Rattle.raid_legal.specs.Seen.{holds_some}
use Rattle.raid_message.specs.declared.letter.Message.{Message}
use Rattle.raid_message.specs.declared.letter.Message.TheVariants as letters
use Rattle.raid_message.specs.declared.letter.Letter.{Letter}
use Rattle.raid_steps.specs.State.{Turn, with_state, opened, send, tell, Copy, Phase, asking, preparing, sent, Running, SiteState}
use Rattle.raid_steps.specs.Fits.{is_of_sequencer, is_of_site}
use Rattle.raid_steps.specs.Copies.{copy_of, holds_copy, set_copy, apply, stage}
use Rattle.raid_steps.specs.Programs.{running_of, runs_here, put_running, with_running, change, ended, ask, held_by, voters, turn_to, go_on, begin, begin_next, start, give_to, give, noted_at, without_vote, with_vote, prepare_out, lose, join, ask_commit, ask_commits, next_attempt}
use Rattle.raid_steps.specs.Site as rows
use Rattle.raid_moves.specs.Moves.{Ascend, Hears, Tells, Says, Given, read_here, read_elsewhere, comes_to, Goes, reads_next, prepares, stops, overflows, fresh, Begins, is_stop, is_return, is_prepare, awaits, is_preparing, NoneAwaits, NonePrepares, but, drops, Row, Starts, at_welcome, at_done, at_drop, next_of, passed, Move, Moves, Reached}
use Rattle.raid_moves.specs.Moves as parts
use Rattle.raid_moves.proofs.Places.{nothing, something, all_both, one_found, IsBehind, apart, ascend_put, ascend_kept, found_txn, put_other, put_same, IsFoundIn, each_found, length_put}

-- going on
pub goes_on : (w : Workload) (turn : Turn SiteState) (r : Running) → Goes w turn r (go_on w turn r)
goes_on w turn r = go (comes_to w r).end refl
  where
    go : (want : Want) → (comes_to w r).end ≡ want → Goes w turn r (turn_to w turn r (comes_to w r) want)
    go (wants.Read x) e = reads_next x e
    go wants.Done e = prepares e
    go wants.Own e = stops e
    go wants.Overflow e = overflows e

-- what holds of the programs with one put holds where one goes on
pub goes_put : (w : Workload) (P : List Running → Type 0) (turn : Turn SiteState) (r : Running) {after : Turn SiteState} → ((now : Running) → now.txn ≡ r.txn → P (put_running now turn.state.running)) → Goes w turn r after → P after.state.running
goes_put w P turn r each (reads_next x e) = each _ refl
goes_put w P turn r each (prepares e) = go (holds_some w (comes_to w r).writes turn.state.site)
  where
    now : Running
    now = record r { phase = preparing (comes_to w r).reads (comes_to w r).writes (voters w turn.state (comes_to w r).writes) }

    go : (b : Bool) → P (put_running now (if b then record (turn.state) { staged = stage r.txn (held_by w turn.state.site (comes_to w r).writes) turn.state.staged } else turn.state).running)
    go true = each now refl
    go false = each now refl
goes_put w P turn r each (stops e) = each _ refl
goes_put w P turn r each (overflows e) = each _ refl

ascend_goes : (w : Workload) (turn : Turn SiteState) (r : Running) {after : Turn SiteState} → Ascend turn.state.running → Goes w turn r after → Ascend after.state.running
ascend_goes w turn r a g = goes_put w Ascend turn r (λ now q. ascend_put now turn.state.running a) g

module _ (w : Workload) (state : SiteState) (from : ℕ) (letter : Letter) where
  abbrev pub Then : Turn SiteState → Turn SiteState → Type 0
  Then turn last = Moves w state from letter turn last

  abbrev pub At : Turn SiteState → Type 0
  At last = Reached w state from letter last

  pub on : {a b c : Turn SiteState} → Then a b → Then b c → Then a c
  on parts.done s = s
  on (parts.moves m r) s = parts.moves m (on r s)

  one : {a b : Turn SiteState} → Move w state from letter a b → Then a b
  one m = parts.moves m parts.done

  -- programs ascend all along
  pub ascend_row : {after : Turn SiteState} → Ascend state.running → Row w state from letter after → Ascend after.state.running
  ascend_row a (parts.halts u f m) = tt
  ascend_row a (parts.returns u f m) = a
  ascend_row a (parts.refuses k t writes u f l m) = a
  ascend_row a (parts.idle i) = a
  ascend_row a (parts.welcomed v next m) = a
  ascend_row a (parts.served t k x h n c m q i) = a
  ascend_row a (parts.notes r k x q s f p m) = ascend_put _ state.running a
  ascend_row a (parts.applied t number ps m q) = a
  ascend_row a (parts.over t m) = ascend_kept (λ (r : Running). not (is_txn t r.txn)) state.running a
  ascend_row a (parts.dropped t again m q) = ascend_kept (λ (r : Running). not (is_txn t r.txn)) state.running a
  ascend_row a (parts.retried t m q g) = ascend_goes w (tell (drops state t) (letters.Begin (next_attempt w t))) (fresh (next_attempt w t)) (ascend_kept (λ (r : Running). not (is_txn t r.txn)) state.running a) g
  ascend_row a (parts.falls s m) = a
  ascend_row a (parts.rises s n m) = a
  ascend_row a (parts.copies x target n c m q) = a
  ascend_row a (parts.staged k t writes m) = a
  ascend_row a (parts.counts k r read writes awaited f p m q) = ascend_put _ state.running a
  ascend_row a (parts.renewed k x v version c m q l) = a
  ascend_row a (parts.given r k x q v f p m g) = ascend_goes w (opened state) (record r { answers = put r.answers x v }) a g

  pub ascend_move : {turn after : Turn SiteState} → Ascend turn.state.running → Move w state from letter turn after → Ascend after.state.running
  ascend_move {turn = turn} a (parts.begins s n l g) = ascend_goes w (tell (passed w turn) (letters.Begin (next_of turn))) (fresh (next_of turn)) a g
  ascend_move {turn = turn} a (parts.asks r k x s q f p m i) = ascend_put _ turn.state.running a
  ascend_move {turn = turn} a (parts.loses r read writes awaited s f p m) = ascend_put _ turn.state.running a
  ascend_move {turn = turn} a (parts.joins r read writes awaited s n f p m h) = ascend_put _ turn.state.running a
  ascend_move {turn = turn} a (parts.commits r read writes f p m) = ascend_put _ turn.state.running a

  pub ascend_moves : {turn last : Turn SiteState} → Ascend turn.state.running → Then turn last → Ascend last.state.running
  ascend_moves a parts.done = a
  ascend_moves a (parts.moves m r) = ascend_moves (ascend_move a m) r

  -- transactions begin
  module _ (s : Starts w state from letter) where
    begins_next : (turn : Turn SiteState) → length turn.state.running < w.together → Then turn (begin_next w turn) × (length (begin_next w turn).state.running ≤ length turn.state.running + 1)
    begins_next turn few = go (turn.state.next == 0) refl
      where
        begun : Turn SiteState
        begun = tell (passed w turn) (letters.Begin (next_of turn))

        goes : Goes w begun (fresh (next_of turn)) (begin w (passed w turn) (next_of turn))
        goes = goes_on w begun (fresh (next_of turn))

        go : (b : Bool) → (turn.state.next == 0) ≡ b → Then turn (if b then turn else begin w (passed w turn) (next_of turn)) × (length (if b then turn else begin w (passed w turn) (next_of turn)).state.running ≤ length turn.state.running + 1)
        go true q = (parts.done, omega arith)
        go false q = (one (parts.begins s q few goes), goes_put w (λ rs. length rs ≤ length turn.state.running + 1) begun (fresh (next_of turn)) (λ now same. length_put now turn.state.running) goes)

    starts_from : (is : List ℕ) (turn : Turn SiteState) → length is ≤ w.together - length turn.state.running → Then turn (fold (λ t i. begin_next w t) turn is)
    starts_from [] turn few = parts.done
    starts_from (i ∷ is) turn few = (let next = begins_next turn (omega (arith, few)) in let more = next.1 in on next.0 (starts_from is (begin_next w turn) (omega (arith, few, more))))

    length_count : (k n : ℕ) → length (count_from k n) ≡ n
    length_count k zero = refl
    length_count k (suc n) = ap suc (length_count (k + 1) n)

    pub starts : (turn : Turn SiteState) → Then turn (start w turn)
    starts turn = (let n = w.together - length turn.state.running in let long = length_count 0 n in starts_from (count_from 0 n) turn (omega (arith, long)))

  -- a program after the other, each as it stands
  abbrev Alone : Turn SiteState → Running → Turn SiteState → Type 0
  Alone turn r after = Then turn after × ((t : Txn) → (r.txn.0 == t.0) ≡ false → running_of after.state t ≡ running_of turn.state t)

  abbrev Each : (Turn SiteState → Running → Turn SiteState) → Type 0
  Each step = (turn : Turn SiteState) (r : Running) → running_of turn.state r.txn ≡ Some r → Alone turn r (step turn r)

  sweeps : (step : Turn SiteState → Running → Turn SiteState) → Each step → (rs : List Running) (turn : Turn SiteState) → Ascend rs → AllByRecursion (IsFoundIn turn.state.running) rs → Then turn (fold step turn rs)
  sweeps step each [] turn a f = parts.done
  sweeps step each (r ∷ rs) turn a f =
      let first = each turn r f.0 in
      on first.0 (sweeps step each rs (step turn r) a.1 (all_both (IsBehind r.txn) (IsFoundIn turn.state.running) (IsFoundIn (step turn r).state.running) rs (λ q l g. first.1 q.txn (apart r.txn.0 q.txn.0 l) ∙ g) a.0 f.1))

  stays : (turn : Turn SiteState) (r : Running) → Alone turn r turn
  stays turn r = (parts.done, λ t d. refl)

  puts : (turn : Turn SiteState) (r now : Running) {after : Turn SiteState} → now.txn ≡ r.txn → after.state.running ≡ put_running now turn.state.running → Move w state from letter turn after → Alone turn r after
  puts turn r now same is m = (one m, λ t d. ap (λ rs. find (λ (q : Running). is_txn t q.txn) rs) is ∙ put_other t now turn.state.running (subst (λ (u : Txn). (u.0 == t.0) ≡ false) (sym same) d))

  loses_each : (s : Site) → Tells w state from letter (letters.DownNote s) → Each (λ now r. lose s now r r.phase)
  loses_each s m turn r f = go r.phase refl
    where
      go : (phase : Phase) → r.phase ≡ phase → Alone turn r (lose s turn r phase)
      go (asking k x None) p = stays turn r
      go (asking k x (Some q)) p = again (is_site s q) refl
        where
          again : (b : Bool) → is_site s q ≡ b → Alone turn r (if b then ask turn r x else turn)
          again true i = puts turn r (record r { asks = r.asks + 1; phase = asking (r.asks + 1) x None }) refl refl (parts.asks r k x s q f p m i)
          again false i = stays turn r
      go (preparing read writes awaited) p = subst (λ phase. Alone turn r (with_running turn (record r { phase = without_vote s phase }))) (sym p)
          (puts turn r (record r { phase = preparing read writes (but s awaited) }) refl refl (parts.loses r read writes awaited s f p m))
      go sent p = stays turn r

  joins_each : (s : Site) (n : ℕ) → Tells w state from letter (letters.UpNote s n) → Each (λ now r. join w s now r r.phase)
  joins_each s n m turn r f = go r.phase refl
    where
      go : (phase : Phase) → r.phase ≡ phase → Alone turn r (join w s turn r phase)
      go (asking k x q) p = stays turn r
      go (preparing read writes awaited) p = joined (holds_some w writes s) refl
        where
          now : Running
          now = record r { phase = preparing read writes (with_vote s awaited) }

          joined : (b : Bool) → holds_some w writes s ≡ b → Alone turn r (if b then send (with_running turn now) (prepare_out w turn.state.vector r.txn writes s) else turn)
          joined true h = puts turn r now refl refl (parts.joins r read writes awaited s n f p m h)
          joined false h = stays turn r
      go sent p = stays turn r

  commits_each : Hears state letter → Each (λ now r. ask_commit now r r.phase)
  commits_each m turn r f = go r.phase refl
    where
      go : (phase : Phase) → r.phase ≡ phase → Alone turn r (ask_commit turn r phase)
      go (asking k x q) p = stays turn r
      go (preparing read writes []) p = puts turn r (record r { phase = sent }) refl refl (parts.commits r read writes f p m)
      go (preparing read writes (s ∷ ss)) p = stays turn r
      go sent p = stays turn r

  pub asks_commits : Hears state letter → (turn : Turn SiteState) → Ascend turn.state.running → Then turn (ask_commits turn)
  asks_commits m turn a = sweeps (λ now r. ask_commit now r r.phase) (commits_each m) turn.state.running turn a (each_found turn.state.running a)

  -- the rows
  found_as : (t : Txn) (r : Running) → running_of state t ≡ Some r → running_of state r.txn ≡ Some r
  found_as t r f = subst (λ u. running_of state u ≡ Some r) (sym (found_txn t state.running r f)) f

  -- what holds of the program that is found holds of all
  found_only : (P : Running → Type 0) (t : Txn) (r : Running) → running_of state t ≡ Some r → P r → (q : Running) → running_of state t ≡ Some q → P q
  found_only P t r f h q g = subst P (something (sym f ∙ g)) h

  none_found : (P : Running → Type 0) (t : Txn) → running_of state t ≡ None → (q : Running) → running_of state t ≡ Some q → P q
  none_found P t f q g = absurd (nothing (sym f ∙ g))

  opens : {last : Turn SiteState} → Row w state from letter last → At last
  opens {last = last} r = (last, (r, parts.done))

  stays_idle : parts.Idle w state from letter → At (opened state)
  stays_idle i = opens (parts.idle i)

  gives : (t : Txn) (k : ℕ) (v : ℤ) → Given w state from letter t k v → At (give w (opened state) t k v)
  gives t k v g = go (running_of state t) refl
    where
      go : (o : Option Running) → running_of state t ≡ o → At (option_map_or (λ r. give_to w (opened state) k v r r.phase) o (opened state))
      go None f = stays_idle (parts.unasked t k v g (none_found (λ r. awaits k r.phase ≡ false) t f))
      go (Some r) f = to r.phase refl
        where
          unasked : (phase : Phase) → r.phase ≡ phase → awaits k phase ≡ false → At (opened state)
          unasked phase p n = stays_idle (parts.unasked t k v g (found_only (λ q. awaits k q.phase ≡ false) t r f (ap (awaits k) p ∙ n)))

          to : (phase : Phase) → r.phase ≡ phase → At (give_to w (opened state) k v r phase)
          to (asking j x q) p = asked (j == k) refl
            where
              asked : (b : Bool) → (j == k) ≡ b → At (if b then go_on w (opened state) (record r { answers = put r.answers x v }) else opened state)
              asked true e = opens (parts.given r k x q v (found_as t r f) (p ∙ ap (λ i. asking i x q) (eqb-true j k e)) (subst (λ u. Given w state from letter u k v) (sym (found_txn t state.running r f)) g) (goes_on w (opened state) (record r { answers = put r.answers x v })))
              asked false e = unasked (asking j x q) p e
          to (preparing read writes awaited) p = unasked (preparing read writes awaited) p refl
          to sent p = unasked sent p refl

  reads : (t : Txn) (k : ℕ) (x : Item) (h : Site) (n : ℕ) → Tells w state from letter (letters.ReadDo t k x h n) → At (rows.read_row w (opened state) t k x h n)
  reads t k x h n m = go (copy_of state x) refl
    where
      go : (o : Option Copy) → copy_of state x ≡ o → At (option_map_or (rows.serve w (opened state) t k h n) o (opened state))
      go None q = absurd (one_found (λ (c : Copy). is_item x c.item) state.copies (and_parts (is_of_sequencer w (letters.ReadDo t k x h n)) (holds_copy state x) m.fits).1 q)
      go (Some c) q = serves (is_site state.site h) refl
        where
          serves : (b : Bool) → is_site state.site h ≡ b → At (if b then give w (opened state) t k c.value else send (opened state) (h.0 + 1, n, letters.Value t k c.value))
          serves true i = gives t k c.value (read_here x h n c m q i)
          serves false i = opens (parts.served t k x h n c m q i)

  -- a change of a program's phase, where it makes none
  unchanged : (f : Phase → Phase) (r : Running) → Ascend state.running → running_of state r.txn ≡ Some r → f r.phase ≡ r.phase → with_running (opened state) (record r { phase = f r.phase }) ≡ opened state
  unchanged f r a q same =
      ap (λ phase. with_running (opened state) (record r { phase = phase })) same ∙ ap (λ rs. let turn : Turn SiteState = opened (record state { running = rs }) in turn) (put_same r state.running a q)

  serving : Ascend state.running → (t : Txn) (k : ℕ) (s : Site) → Tells w state from letter (letters.Serving t k s) → At (change (opened state) t (noted_at k s))
  serving a t k s m = go (running_of state t) refl
    where
      go : (o : Option Running) → running_of state t ≡ o → At (option_map_or (λ r. with_running (opened state) (record r { phase = noted_at k s r.phase })) o (opened state))
      go None f = stays_idle (parts.unserved t k s m (none_found (λ r. awaits k r.phase ≡ false) t f))
      go (Some r) f = to r.phase refl
        where
          unasked : noted_at k s r.phase ≡ r.phase → awaits k r.phase ≡ false → At (with_running (opened state) (record r { phase = noted_at k s r.phase }))
          unasked same n = subst At (sym (unchanged (noted_at k s) r a (found_as t r f) same)) (stays_idle (parts.unserved t k s m (found_only (λ q. awaits k q.phase ≡ false) t r f n)))

          to : (phase : Phase) → r.phase ≡ phase → At (with_running (opened state) (record r { phase = noted_at k s r.phase }))
          to (asking j x q) p = asked (j == k) refl
            where
              asked : (b : Bool) → (j == k) ≡ b → At (with_running (opened state) (record r { phase = noted_at k s r.phase }))
              asked true e =
                  let now : noted_at k s r.phase ≡ asking k x (Some s) = ap (noted_at k s) p ∙ rw e (ap (λ i. asking i x (Some s)) (eqb-true j k e)) in
                  subst (λ phase. At (with_running (opened state) (record r { phase = phase }))) (sym now)
                  (opens (parts.notes r k x q s (found_as t r f) (p ∙ ap (λ i. asking i x q) (eqb-true j k e)) (subst (λ u. Tells w state from letter (letters.Serving u k s)) (sym (found_txn t state.running r f)) m)))
              asked false e = (let as_was : noted_at k s (asking j x q) ≡ asking j x q = rw e refl in unasked (ap (noted_at k s) p ∙ as_was ∙ sym p) (ap (awaits k) p ∙ e))
          to (preparing read writes awaited) p = unasked (ap (noted_at k s) p ∙ sym p) (ap (awaits k) p)
          to sent p = unasked (ap (noted_at k s) p ∙ sym p) (ap (awaits k) p)

  votes : Ascend state.running → (k : ℕ) (t : Txn) (answer : Answer) → Says w state from letter k (letters.Vote t answer) → At (rows.vote_row (opened state) t (site (k + 1)) letter.from answer)
  votes a k t (No named own) m = stays_idle (parts.refused k t named own m)
  votes a k t Yes m = counted (session state.vector (site (k + 1)) == letter.from) refl
    where
      s : Site
      s = site (k + 1)

      go : (session state.vector s == letter.from) ≡ true → (o : Option Running) → running_of state t ≡ o → At (option_map_or (λ r. with_running (opened state) (record r { phase = without_vote s r.phase })) o (opened state))
      go now None f = stays_idle (parts.uncounted k t m (none_found (λ r. is_preparing r.phase ≡ false) t f))
      go now (Some r) f = to r.phase refl
        where
          uncounted : without_vote s r.phase ≡ r.phase → is_preparing r.phase ≡ false → At (with_running (opened state) (record r { phase = without_vote s r.phase }))
          uncounted same n = subst At (sym (unchanged (without_vote s) r a (found_as t r f) same)) (stays_idle (parts.uncounted k t m (found_only (λ q. is_preparing q.phase ≡ false) t r f n)))

          to : (phase : Phase) → r.phase ≡ phase → At (with_running (opened state) (record r { phase = without_vote s r.phase }))
          to (asking j x q) p = uncounted (ap (without_vote s) p ∙ sym p) (ap is_preparing p)
          to (preparing read writes awaited) p = subst (λ phase. At (with_running (opened state) (record r { phase = phase }))) (sym (ap (without_vote s) p))
              (opens (parts.counts k r read writes awaited (found_as t r f) p (subst (λ u. Says w state from letter k (letters.Vote u Yes)) (sym (found_txn t state.running r f)) m) now))
          to sent p = uncounted (ap (without_vote s) p ∙ sym p) (ap is_preparing p)

      counted : (b : Bool) → (session state.vector s == letter.from) ≡ b → At (if b then change (opened state) t (without_vote s) else opened state)
      counted true now = go now (running_of state t) refl
      counted false late = stays_idle (parts.outdated k t m late)

  applies : (t : Txn) (number : ℕ) → Tells w state from letter (letters.Apply t number) → At (rows.apply_row (opened state) t number)
  applies t number m = go (find (λ e. is_txn t e.0) state.staged) refl
    where
      go : (o : Option (Txn × List (Item × ℤ))) → find (λ e. is_txn t e.0) state.staged ≡ o → At (option_map_or (λ ps. tell (with_state (opened state) (apply state t number ps)) (letters.Ack t)) (option_map (λ e. e.1) o) (opened state))
      go None q = absurd (one_found (λ (e : Txn × List (Item × ℤ)). is_txn t e.0) state.staged (and_parts (is_of_sequencer w (letters.Apply t number)) (list_any (λ e. is_txn t e.0) state.staged) m.fits).1 q)
      go (Some e) q = opens (parts.applied t number e.1 m (ap (option_map (λ e. e.1)) q))

  drops_out : (t : Txn) (again : Bool) → Tells w state from letter (letters.Drop t again) → At (rows.drop_row w (opened state) t again)
  drops_out t again m = go (runs_here state t) again refl refl
    where
      after : {turn : Turn SiteState} → Row w state from letter turn → At (start w turn)
      after {turn = turn} r = (turn, (r, starts (at_drop t again m) turn))

      go : (b c : Bool) → runs_here state t ≡ b → again ≡ c → At (start w (if b && c then begin w (drops state t) (next_attempt w t) else drops state t))
      go true true q e = after (parts.retried t (subst (λ c. Tells w state from letter (letters.Drop t c)) e m) q (goes_on w (tell (drops state t) (letters.Begin (next_attempt w t))) (fresh (next_attempt w t))))
      go true false q e = after (parts.dropped t again m (ap (λ b. b && again) q ∙ e))
      go false c q e = after (parts.dropped t again m (ap (λ b. b && again) q))

  copied : (x : Item) (target : Site) (n : ℕ) → Tells w state from letter (letters.CopyDo x target n) → At (rows.copy_row (opened state) x target n)
  copied x target n m = go (copy_of state x) refl
    where
      go : (o : Option Copy) → copy_of state x ≡ o → At (option_map_or (λ (c : Copy). send (opened state) (target.0 + 1, n, letters.CopyValue x c.value c.version)) o (opened state))
      go None q = absurd (one_found (λ (c : Copy). is_item x c.item) state.copies (and_parts (is_of_sequencer w (letters.CopyDo x target n)) (holds_copy state x) m.fits).1 q)
      go (Some c) q = opens (parts.copies x target n c m q)

  renews : (k : ℕ) (x : Item) (v : ℤ) (version : ℕ) → Says w state from letter k (letters.CopyValue x v version) → At (rows.copied_row (opened state) x v version)
  renews k x v version m = go (copy_of state x) refl
    where
      go : (o : Option Copy) → copy_of state x ≡ o → At (option_map_or (rows.refresh (opened state) x v version) o (opened state))
      go None q = absurd (one_found (λ (c : Copy). is_item x c.item) state.copies (and_parts (is_of_site w (letters.CopyValue x v version)) (holds_copy state x) m.fits).1 q)
      go (Some c) q = newer (nat_le c.version version) refl
        where
          newer : (b : Bool) → nat_le c.version version ≡ b → At (if b then tell (with_state (opened state) (record state { copies = set_copy x v version state.copies })) (letters.CopyDone x version) else opened state)
          newer true l = opens (parts.renewed k x v version c m q l)
          newer false l = stays_idle (parts.older k x v version c m q l)

  unfitting : {X : Type 0} → (false ≡ true) → X
  unfitting q = absurd (cc q)

  pub sequencer_rows : Ascend state.running → (m : Message) → Tells w state from letter m → At (rows.sequencer_row w (opened state) m)
  sequencer_rows a (letters.Welcome v next) m = (with_state (opened state) (record state { vector = v; next = next }), (parts.welcomed v next m, starts (at_welcome v next m) _))
  sequencer_rows a (letters.ReadDo t k x h n) m = reads t k x h n m
  sequencer_rows a (letters.Serving t k s) m = serving a t k s m
  sequencer_rows a (letters.Apply t number) m = applies t number m
  sequencer_rows a (letters.Done t) m = (ended (opened state) t, (parts.over t m, starts (at_done t m) _))
  sequencer_rows a (letters.Drop t again) m = drops_out t again m
  sequencer_rows a (letters.DownNote s) m = (rows.with_vector (opened state) s 0, (parts.falls s m, sweeps (λ now r. lose s now r r.phase) (loses_each s m) state.running (rows.with_vector (opened state) s 0) a (each_found state.running a)))
  sequencer_rows a (letters.UpNote s n) m = (rows.with_vector (opened state) s n, (parts.rises s n m, sweeps (λ now r. join w s now r r.phase) (joins_each s n m) state.running (rows.with_vector (opened state) s n) a (each_found state.running a)))
  sequencer_rows a (letters.CopyDo x target n) m = copied x target n m
  sequencer_rows a message m = unfitting m.fits

  pub peer_rows : Ascend state.running → (k : ℕ) (m : Message) → Says w state from letter k m → At (rows.peer_row w (opened state) (site (k + 1)) letter.from m)
  peer_rows a k (letters.Value t i v) m = gives t i v (read_elsewhere k v m)
  peer_rows a k (letters.Prepare t writes) m = opens (parts.staged k t writes m)
  peer_rows a k (letters.Vote t answer) m = votes a k t answer m
  peer_rows a k (letters.CopyValue x v version) m = renews k x v version m
  peer_rows a k message m = unfitting m.fits

  -- the step
  closes : Ascend state.running → Hears state letter → {turn : Turn SiteState} → At turn → At (ask_commits turn)
  closes a h {turn = turn} (after, (r, s)) = (after, (r, on s (asks_commits h turn (ascend_moves (ascend_row a r) s))))

pub site_moves : (w : Workload) (state : SiteState) (from : ℕ) (letter : Letter) → Ascend state.running → Reached w state from letter (rows.hear_site w state from letter)
site_moves w state from letter a = go state.up refl from refl
  where
    fit : (b : Bool) (turn : Turn SiteState) → (b ≡ true → Reached w state from letter (ask_commits turn)) → (b ≡ false → parts.Idle w state from letter) → Reached w state from letter (rows.hear_if b state turn)
    fit true turn fits unfits = fits refl
    fit false turn fits unfits = stays_idle w state from letter (unfits refl)

    stopping : (m : Message) → letter.message ≡ m → state.up ≡ true → from ≡ 0 → Reached w state from letter (rows.stop w state m)
    stopping letters.Stop q u f = opens w state from letter (parts.halts u f q)
    stopping message q u f = stays_idle w state from letter (parts.stays_up u f (ap is_stop q))

    returning : (m : Message) → letter.message ≡ m → state.up ≡ false → from ≡ 0 → Reached w state from letter (rows.return state m)
    returning letters.Return q u f = opens w state from letter (parts.returns u f q)
    returning message q u f = stays_idle w state from letter (parts.stays_down u f (ap is_return q))

    refusing : (k : ℕ) (m : Message) → letter.message ≡ m → state.up ≡ true → from ≡ suc (suc k) → (letter.to == state.session) ≡ false → Reached w state from letter (rows.refuse state (k + 2) letter m)
    refusing k (letters.Prepare t writes) q u f l = opens w state from letter (parts.refuses k t writes u f l q)
    refusing k message q u f l = stays_idle w state from letter (parts.late_peer k u f l (ap is_prepare q))

    told : state.up ≡ true → from ≡ 1 → (b : Bool) → (letter.to == state.session) ≡ b → Reached w state from letter (if b then rows.hear_sequencer w state letter else opened state)
    told u f true l =
        let h : Hears state letter = record { up = u; meant = l } in
        fit (is_of_sequencer w letter.message && rows.fits_here w state letter.message) (rows.sequencer_row w (opened state) letter.message)
        (λ fits. closes w state from letter a h (sequencer_rows w state from letter a letter.message (record { heard = h; by = f; is = refl; fits = fits }))) (parts.unfit h f)
    told u f false l = stays_idle w state from letter (parts.late u f l)

    said : (k : ℕ) → state.up ≡ true → from ≡ suc (suc k) → (b : Bool) → (letter.to == state.session) ≡ b → Reached w state from letter (if b then rows.hear_peer w state (site (k + 1)) letter else rows.refuse state (k + 2) letter letter.message)
    said k u f true l =
        let h : Hears state letter = record { up = u; meant = l } in
        fit (is_of_site w letter.message && rows.fits_here w state letter.message) (rows.peer_row w (opened state) (site (k + 1)) letter.from letter.message)
        (λ fits. closes w state from letter a h (peer_rows w state from letter a k letter.message (record { heard = h; by = f; is = refl; fits = fits }))) (parts.unfit_peer k h f)
    said k u f false l = refusing k letter.message refl u f l

    go : (b : Bool) → state.up ≡ b → (n : ℕ) → from ≡ n → Reached w state from letter (if b then rows.hear_up w state n letter else rows.hear_down state n letter)
    go true u zero f = stopping letter.message refl u f
    go true u (suc zero) f = told u f (letter.to == state.session) refl
    go true u (suc (suc k)) f = said k u f (letter.to == state.session) refl
    go false u zero f = returning letter.message refl u f
    go false u (suc k) f = stays_idle w state from letter (parts.down k u f)

-- what each row gives and each move keeps holds after the step
pub step_keeps : (w : Workload) (state : SiteState) (from : ℕ) (letter : Letter) (I : Turn SiteState → Type 0) → ((after : Turn SiteState) → Row w state from letter after → I after) → ((turn after : Turn SiteState) → Move w state from letter turn after → Ascend turn.state.running → I turn → I after) → Ascend state.running → I (rows.hear_site w state from letter)
step_keeps w state from letter I rowed moved a = go (site_moves w state from letter a)
  where
    along : {turn last : Turn SiteState} → Moves w state from letter turn last → Ascend turn.state.running → I turn → I last
    along parts.done a i = i
    along (parts.moves {turn = turn} {next = next} m rest) a i = along rest (ascend_move w state from letter a m) (moved turn next m a i)

    go : Reached w state from letter (rows.hear_site w state from letter) → I (rows.hear_site w state from letter)
    go (after, (r, s)) = along s (ascend_row w state from letter a r) (rowed after r)
