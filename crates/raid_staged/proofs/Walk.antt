-- A step of a home keeps what is staged for its transactions in preparation, so that a commit is asked for once all is.
use Rattle.std.proofs.Common.{◌≡◌, ◌≢◌, ◌⊎◌, inl, inr, ℕ, ℤ, suc, ◌+◌, ◌-◌, ◌≤◌, ◌==◌, nat_lt, nat_le, Bool, true, false, not, ◌&&◌, ◌||◌, List, [], ◌∷◌, ◌++◌, map, filter, length, Option, Some, None, if◌then◌else◌, arith, sym, subst, ap, ◌∙◌, refl, append-nil}
use Rattle.std.specs.Prelude.{⊤, slice_get, slice_set, slice_index, fold}
use Rattle.std.specs.List.{AllByRecursion}
use Rattle.std.proofs.lemmas.Bool.{and_parts, eqb-true, true≢false}
use Rattle.raid_base.specs.declared.names.Txn.{Txn}
use Rattle.raid_base.specs.declared.names.Item.{Item}
use Rattle.raid_base.specs.declared.names.Site.{Site}
use Rattle.raid_base.specs.declared.entry.Answer.TheVariants.{Yes, No}
use Rattle.raid_base.specs.declared.entry.Noted.{Noted}
use Rattle.raid_base.specs.Names.{is_txn, is_site, has_site}
use Rattle.raid_base.specs.Sites.{session, site, all_sites}
use Rattle.raid_program.specs.Run.{put}
use Rattle.raid_workload.specs.declared.workload.Workload.{Workload}
use Rattle.raid_workload.specs.Parts.{sites}
use Rattle.raid_rules.specs.History.{has_ended}
use Rattle.raid_rules.specs.Sessions.{last_session, is_site_up}
use Rattle.raid_rules.proofs.Sources.{has_kept}
use Rattle.raid_legal.specs.Seen.{holds_some}
use Rattle.raid_message.specs.declared.letter.Message.{Message}
use Rattle.raid_message.specs.declared.letter.Message.TheVariants as letters
use Rattle.raid_message.specs.declared.letter.Letter.{Letter}
use Rattle.raid_steps.specs.State.{Out, Turn, opened, send, tell, Phase, asking, preparing, sent, Running, SiteState}
use Rattle.raid_steps.specs.Copies.{stage}
use Rattle.raid_steps.specs.Fits.{is_of_sequencer, knows_site}
use Rattle.raid_steps.specs.Programs as programs
use Rattle.raid_steps.specs.Programs.{put_running, running_of, prepare_out, voters}
use Rattle.raid_sessions.proofs.Lists.{all_append, all_weaken, at_most, apart, index_other, set_most}
use Rattle.raid_sessions.proofs.Mail.{same_or_not}
use Rattle.raid_steps.specs.Site as rows
use Rattle.raid_steps.specs.Site.{fits_here}
use Rattle.raid_moves.specs.Moves as parts
use Rattle.raid_moves.specs.Moves.{Ascend, Hears, Tells, Says, Given, read_here, read_elsewhere, comes_to, Goes, fresh, Begins, Idle, Row, next_of, passed, Move, Moves}
use Rattle.raid_moves.specs.After.{joined_in, joined}
use Rattle.raid_moves.proofs.Places.{program_of, nothing, something, put_found, put_other}
use Rattle.raid_moves.proofs.Steps.{site_moves, sequencer_rows, asks_commits, ascend_row, ascend_moves}
use Rattle.raid_moves.proofs.Swept.{joined_all, told_is}
use Rattle.raid_letters.specs.Says.{NoteSays}
use Rattle.raid_layers.proofs.Turns.{filtered_out, filtered_other}
use Rattle.raid_staged.specs.Staged.{is_staged, IsStagedAt, VoteStaged, IsPrepared}
use Rattle.raid_staged.proofs.Kept.{staged_in, still_staged, staged_now, unstaged_other, IsSpared, row_keeps, alive_spared}

none_runs : (rs : List Running) (t : Txn) (r : Running) → (length rs == 0) ≡ true → program_of t rs ≡ Some r → ⊥
none_runs [] t r none f = nothing f
none_runs (q ∷ rs) t r none f = (let e = eqb-true (length (q ∷ rs)) 0 none in omega (arith, e))

half : (a b : Bool) → (a && b) ≡ false → b ≡ true → a ≡ false
half true b q r = absurd (true≢false (sym r ∙ q))
half false b q r = refl

module _ (w : Workload) (p : List Noted) (all : List SiteState) (k : ℕ) (state : SiteState) (from : ℕ) (letter : Letter) (at_home : state.site ≡ site (k + 1)) (some : from ≡ 0 → ⊥) (note : from ≡ 1 → NoteSays w p (site (k + 1)) letter.to letter.message)
    (vote : (i : ℕ) → from ≡ suc (suc i) → VoteStaged p all i letter.from letter.message) (of_workload : (j : ℕ) (s : SiteState) → slice_get all j ≡ Some s → has_site (sites w) (site (j + 1)) ≡ true) (few : (j : ℕ) (s : SiteState) → slice_get all j ≡ Some s → has_site all_sites (site (j + 1)) ≡ true)
    (live : (j : ℕ) (s : SiteState) → slice_get all j ≡ Some s → s.up ≡ true → last_session p (site (j + 1)) ≡ s.session → 1 ≤ s.session) where
  abbrev pub Own : Txn → SiteState → Type 0
  Own t s = (has_ended p t ≡ true) ⊎ (is_staged t s ≡ true)

  -- of the other sites that hold a written item, those that aren't awaited have it staged
  abbrev pub Others : Txn → List ℕ → List (Item × ℤ) → List Site → Type 0
  Others t v writes awaited = (j : ℕ) → (j ≡ k → ⊥) → holds_some w writes (site (j + 1)) ≡ true → has_site awaited (site (j + 1)) ≡ false → IsStagedAt p all t j (session v (site (j + 1)))

  -- a vote and a commit that are sent
  abbrev pub SentOk : SiteState → Message → Type 0
  SentOk s (letters.Vote u Yes) = Own u s
  SentOk s (letters.CommitAsk u q) = (holds_some w q.writes (site (k + 1)) ≡ true → Own u s) × ((j : ℕ) → (j ≡ k → ⊥) → holds_some w q.writes (site (j + 1)) ≡ true → IsStagedAt p all u j (session q.under (site (j + 1))))
  SentOk s other = ⊤

  abbrev pub Ready : SiteState → Txn → Phase → Type 0
  Ready s t phase = IsPrepared w p all k s t phase

  pub record Now (turn : Turn SiteState) : Type 0 where
    pub place : turn.state.site ≡ site (k + 1)
    pub each : (t : Txn) (r : Running) → running_of turn.state t ≡ Some r → Ready turn.state t r.phase
    pub sent : AllByRecursion (λ (out : Out). SentOk turn.state out.2) turn.outs
    pub fallen : (s : Site) → Tells w state from letter (letters.DownNote s) → session turn.state.vector s ≡ 0

  -- from one state to a later one
  abbrev pub Keeps : SiteState → SiteState → Type 0
  Keeps a b = (t : Txn) → Own t a → Own t b

  ready_on : (a b : SiteState) → Keeps a b → b.vector ≡ a.vector → (t : Txn) (phase : Phase) → Ready a t phase → Ready b t phase
  ready_on a b keeps same t (asking i x q) h = tt
  ready_on a b keeps same t (preparing reads writes awaited) h = ((λ holds. keeps t (h.0 holds)), (λ j differ holds none. subst (λ v. IsStagedAt p all t j (session v (site (j + 1)))) (sym same) (h.1 j differ holds none)))
  ready_on a b keeps same t sent h = tt

  sent_on : (a b : SiteState) → Keeps a b → (m : Message) → SentOk a m → SentOk b m
  sent_on a b keeps (letters.Vote u Yes) h = keeps u h
  sent_on a b keeps (letters.CommitAsk u q) h = ((λ holds. keeps u (h.0 holds)), h.1)
  sent_on a b keeps other h = tt

  all_sent : (a b : SiteState) → Keeps a b → (outs : List Out) → AllByRecursion (λ (out : Out). SentOk a out.2) outs → AllByRecursion (λ (out : Out). SentOk b out.2) outs
  all_sent a b keeps outs h = all_weaken (λ (out : Out). SentOk a out.2) (λ (out : Out). SentOk b out.2) outs (λ out q. sent_on a b keeps out.2 q) h

  -- more is sent, and programs stay as they are
  pub now_sends : (turn after : Turn SiteState) (new : List Out) → Keeps turn.state after.state → after.state.site ≡ turn.state.site → after.state.vector ≡ turn.state.vector → after.state.running ≡ turn.state.running → after.outs ≡ turn.outs ++ new →
      AllByRecursion (λ (out : Out). SentOk after.state out.2) new → Now turn → Now after
  now_sends turn after new keeps here v same more ok n = record {
    place = here ∙ n.place;
    each = λ t r f. ready_on turn.state after.state keeps v t r.phase (n.each t r (ap (program_of t) (sym same) ∙ f));
    sent = subst (AllByRecursion (λ (out : Out). SentOk after.state out.2)) (sym more) (all_append (λ (out : Out). SentOk after.state out.2) turn.outs new (all_sent turn.state after.state keeps turn.outs n.sent) ok);
    fallen = λ s tells. ap (λ v. session v s) v ∙ n.fallen s tells;
  }

  -- a program is put
  pub now_puts : (turn after : Turn SiteState) (now : Running) (new : List Out) → Keeps turn.state after.state → after.state.site ≡ turn.state.site → after.state.vector ≡ turn.state.vector → after.state.running ≡ put_running now turn.state.running → after.outs ≡ turn.outs ++ new →
      AllByRecursion (λ (out : Out). SentOk after.state out.2) new → Ready after.state now.txn now.phase → Now turn → Now after
  now_puts turn after now new keeps here v same more ok ready n = record {
    place = here ∙ n.place;
    each = λ t r f. each t r (ap (program_of t) (sym same) ∙ f) (now.txn.0 == t.0) refl;
    sent = subst (AllByRecursion (λ (out : Out). SentOk after.state out.2)) (sym more) (all_append (λ (out : Out). SentOk after.state out.2) turn.outs new (all_sent turn.state after.state keeps turn.outs n.sent) ok);
    fallen = λ s tells. ap (λ v. session v s) v ∙ n.fallen s tells;
  }
    where
      each : (t : Txn) (r : Running) → program_of t (put_running now turn.state.running) ≡ Some r → (b : Bool) → (now.txn.0 == t.0) ≡ b → Ready after.state t r.phase
      each t r f true e =
          let its : now.txn ≡ t = ap (λ n. let u : Txn = record { 0 = n } in u) (eqb-true now.txn.0 t.0 e) in
          let is : now ≡ r = cc (put_found now turn.state.running, subst (λ u. program_of u (put_running now turn.state.running) ≡ Some r) (sym its) f) in
          subst (λ (z : Running). Ready after.state t z.phase) is (subst (λ u. Ready after.state u now.phase) its ready)
      each t r f false e = ready_on turn.state after.state keeps v t r.phase (n.each t r (sym (put_other t now turn.state.running e) ∙ f))

  -- at site numbers apart
  other_place : (j : ℕ) → (j ≡ k → ⊥) → (b : Bool) → is_site (site (k + 1)) (site (j + 1)) ≡ b → b ≡ false
  other_place j differ true q = absurd (differ (let e = eqb-true (j + 1) (k + 1) q in omega (arith, e)))
  other_place j differ false q = refl

  -- no site is up in no session
  nowhere : (t : Txn) (j n : ℕ) → n ≡ 0 → IsStagedAt p all t j n
  nowhere t j n none = inr (λ s at up same last. absurd (let one = live j s at up (last ∙ sym same) in omega (arith, one, same, none)))

  not_up : (n : ℕ) → nat_lt 0 n ≡ false → n ≡ 0
  not_up n q = grind (arith, q)

  kept_same : (s : SiteState) → Keeps s s
  kept_same s t h = h

  -- a program goes on
  goes_now : (turn : Turn SiteState) (r : Running) {after : Turn SiteState} → Goes w turn r after → Now turn → Now after
  goes_now turn r (parts.reads_next x e) n = now_puts turn (programs.ask turn r x) _ ((1, 0, letters.ReadAsk r.txn (r.asks + 1) x) ∷ []) (kept_same turn.state) refl refl refl refl (tt, tt) tt n
  goes_now turn r (parts.stops e) n = now_puts turn _ (record r { phase = sent }) ((1, 0, letters.EndAsk r.txn _ (comes_to w r).reads) ∷ []) (kept_same turn.state) refl refl refl refl (tt, tt) tt n
  goes_now turn r (parts.overflows e) n = now_puts turn _ (record r { phase = sent }) ((1, 0, letters.EndAsk r.txn _ (comes_to w r).reads) ∷ []) (kept_same turn.state) refl refl refl refl (tt, tt) tt n
  goes_now turn r (parts.prepares e) n =
      now_puts turn (programs.prepare w turn r (comes_to w r)) now (map (prepare_out w turn.state.vector r.txn writes) vs) (keeps (holds_some w writes turn.state.site)) (here (holds_some w writes turn.state.site)) (vectors (holds_some w writes turn.state.site)) (runs (holds_some w writes turn.state.site)) refl
      (prepares vs) ((λ holds. own (holds_some w writes turn.state.site) refl holds), others) n
    where
      writes : List (Item × ℤ)
      writes = (comes_to w r).writes

      vs : List Site
      vs = voters w turn.state (comes_to w r).writes

      now : Running
      now = record r { phase = preparing (comes_to w r).reads (comes_to w r).writes (voters w turn.state (comes_to w r).writes) }

      keeps : (b : Bool) → Keeps turn.state (record (if b then record (turn.state) { staged = stage r.txn (programs.held_by w turn.state.site (comes_to w r).writes) turn.state.staged } else turn.state) { running = put_running now (if b then record (turn.state) { staged = stage r.txn (programs.held_by w turn.state.site (comes_to w r).writes) turn.state.staged } else turn.state).running })
      keeps true t (inl over) = inl over
      keeps true t (inr h) = inr (still_staged t r.txn (programs.held_by w turn.state.site (comes_to w r).writes) turn.state.staged h)
      keeps false t h = h

      here : (b : Bool) → (let s : SiteState = (if b then record (turn.state) { staged = stage r.txn (programs.held_by w turn.state.site (comes_to w r).writes) turn.state.staged } else turn.state) in s.site) ≡ turn.state.site
      here true = refl
      here false = refl

      vectors : (b : Bool) → (let s : SiteState = (if b then record (turn.state) { staged = stage r.txn (programs.held_by w turn.state.site (comes_to w r).writes) turn.state.staged } else turn.state) in s.vector) ≡ turn.state.vector
      vectors true = refl
      vectors false = refl

      runs : (b : Bool) → (let s : SiteState = (if b then record (turn.state) { staged = stage r.txn (programs.held_by w turn.state.site (comes_to w r).writes) turn.state.staged } else turn.state) in put_running now s.running) ≡ put_running now turn.state.running
      runs true = refl
      runs false = refl

      prepares : (ss : List Site) → AllByRecursion (λ (out : Out). SentOk (programs.prepare w turn r (comes_to w r)).state out.2) (map (prepare_out w turn.state.vector r.txn (comes_to w r).writes) ss)
      prepares [] = tt
      prepares (s ∷ ss) = (tt, prepares ss)

      own : (b : Bool) → holds_some w (comes_to w r).writes turn.state.site ≡ b → holds_some w (comes_to w r).writes (site (k + 1)) ≡ true → (has_ended p r.txn ≡ true) ⊎ (is_staged r.txn (if b then record (turn.state) { staged = stage r.txn (programs.held_by w turn.state.site (comes_to w r).writes) turn.state.staged } else turn.state) ≡ true)
      own true q holds = inr (staged_now r.txn (programs.held_by w turn.state.site (comes_to w r).writes) turn.state.staged)
      own false q holds = absurd (true≢false (sym holds ∙ ap (holds_some w (comes_to w r).writes) (sym n.place) ∙ q))

      others : Others r.txn (programs.prepare w turn r (comes_to w r)).state.vector (comes_to w r).writes (voters w turn.state (comes_to w r).writes)
      others j differ holds none = inr (λ s at up same last. absurd (empty s at up same last))
        where
          v_is : (programs.prepare w turn r (comes_to w r)).state.vector ≡ turn.state.vector
          v_is = vectors (holds_some w (comes_to w r).writes turn.state.site)

          empty : (s : SiteState) → slice_get all j ≡ Some s → s.up ≡ true → s.session ≡ session (programs.prepare w turn r (comes_to w r)).state.vector (site (j + 1)) → last_session p (site (j + 1)) ≡ session (programs.prepare w turn r (comes_to w r)).state.vector (site (j + 1)) → ⊥
          empty s at up same last =
              let tested = half ((is_site_up turn.state.vector (site (j + 1)) && not (is_site turn.state.site (site (j + 1)))) && holds_some w (comes_to w r).writes (site (j + 1))) (has_site (sites w) (site (j + 1)))
              (sym (has_kept (λ s. is_site_up turn.state.vector s && not (is_site turn.state.site s) && holds_some w (comes_to w r).writes s) (site (j + 1)) (sites w)) ∙ none) (of_workload j s at) in
              let first = half (is_site_up turn.state.vector (site (j + 1)) && not (is_site turn.state.site (site (j + 1)))) (holds_some w (comes_to w r).writes (site (j + 1))) tested holds in
              let apart : is_site turn.state.site (site (j + 1)) ≡ false = other_place j differ (is_site turn.state.site (site (j + 1))) (ap (λ z. is_site z (site (j + 1))) (sym n.place)) in
              let down = half (is_site_up turn.state.vector (site (j + 1))) (not (is_site turn.state.site (site (j + 1)))) first (ap not apart) in
              let none_there = not_up (session turn.state.vector (site (j + 1))) down in
              let one = live j s at up (last ∙ sym same) in
              let v = ap (λ v. session v (site (j + 1))) v_is in
              omega (arith, one, same, v, none_there)

  begins_now : (turn : Turn SiteState) (t : Txn) {after : Turn SiteState} → Begins w turn t after → Now turn → Now after
  begins_now turn t g n = goes_now (tell turn (letters.Begin t)) (fresh t) g (now_sends turn (tell turn (letters.Begin t)) ((1, 0, letters.Begin t) ∷ []) (kept_same turn.state) refl refl refl refl (tt, tt) n)

  -- a program in preparation that is found
  its : (turn : Turn SiteState) (r : Running) (reads writes : List (Item × ℤ)) (awaited : List Site) → running_of turn.state r.txn ≡ Some r → r.phase ≡ preparing reads writes awaited → Now turn → Ready turn.state r.txn (preparing reads writes awaited)
  its turn r reads writes awaited f is n = subst (Ready turn.state r.txn) is (n.each r.txn r f)

  -- fewer are awaited: those that were, but one that is down or has voted
  but_one : (t : Txn) (v : List ℕ) (writes : List (Item × ℤ)) (awaited : List Site) (s : Site) → ((j : ℕ) → is_site s (site (j + 1)) ≡ true → IsStagedAt p all t j (session v (site (j + 1)))) → Others t v writes awaited → Others t v writes (parts.but s awaited)
  but_one t v writes awaited s voted others j differ holds none = go (is_site s (site (j + 1))) refl
    where
      go : (b : Bool) → is_site s (site (j + 1)) ≡ b → IsStagedAt p all t j (session v (site (j + 1)))
      go true q = voted j q
      go false q = others j differ holds (half (has_site awaited (site (j + 1))) (not (is_site s (site (j + 1)))) (turned (not (is_site s (site (j + 1)))) (has_site awaited (site (j + 1))) (sym (has_kept (λ r. not (is_site s r)) (site (j + 1)) awaited) ∙ none)) (ap not q))
        where
          turned : (a b : Bool) → (a && b) ≡ false → (b && a) ≡ false
          turned true true q = q
          turned true false q = refl
          turned false true q = refl
          turned false false q = refl

  same_site : (s r : Site) → is_site s r ≡ true → r ≡ s
  same_site s r q = ap (λ n. let z : Site = record { 0 = n } in z) (eqb-true r.0 s.0 q)

  -- one more is awaited
  with_one : (s : Site) (awaited : List Site) (j : ℕ) (z : SiteState) → slice_get all j ≡ Some z → has_site (programs.with_vote s awaited) (site (j + 1)) ≡ false → (has_site awaited (site (j + 1)) ≡ false) × (is_site s (site (j + 1)) ≡ false)
  with_one s awaited j z at none = parted (has_site awaited (site (j + 1))) (is_site s (site (j + 1))) (half (has_site awaited (site (j + 1)) || is_site s (site (j + 1))) (has_site all_sites (site (j + 1))) (sym (has_kept (λ r. has_site awaited r || is_site s r) (site (j + 1)) all_sites) ∙ none) (few j z at))
    where
      parted : (a b : Bool) → (a || b) ≡ false → (a ≡ false) × (b ≡ false)
      parted true b q = absurd (true≢false q)
      parted false b q = (refl, q)

  move_now : {turn after : Turn SiteState} → Move w state from letter turn after → Now turn → Now after
  move_now {turn = turn} (parts.begins s z l g) n = begins_now (passed w turn) (next_of turn) g (now_sends turn (passed w turn) [] (kept_same turn.state) refl refl refl (sym (append-nil turn.outs)) tt n)
  move_now {turn = turn} (parts.asks r ask x s q f ph m y) n = now_puts turn (programs.ask turn r x) _ ((1, 0, letters.ReadAsk r.txn (r.asks + 1) x) ∷ []) (kept_same turn.state) refl refl refl refl (tt, tt) tt n
  move_now {turn = turn} (parts.loses r reads writes awaited s f ph m) n =
      let ready = its turn r reads writes awaited f ph n in
      now_puts turn _ (record r { phase = preparing reads writes (parts.but s awaited) }) [] (kept_same turn.state) refl refl refl (sym (append-nil turn.outs)) tt
      (ready.0, but_one r.txn turn.state.vector writes awaited s (λ j q. nowhere r.txn j (session turn.state.vector (site (j + 1))) (ap (session turn.state.vector) (same_site s (site (j + 1)) q) ∙ n.fallen s m)) ready.1) n
  move_now {turn = turn} (parts.joins r reads writes awaited s z f ph m y) n =
      let ready = its turn r reads writes awaited f ph n in
      now_puts turn _ (record r { phase = preparing reads writes (programs.with_vote s awaited) }) (prepare_out w turn.state.vector r.txn writes s ∷ []) (kept_same turn.state) refl refl refl refl (tt, tt)
      (ready.0, λ j differ holds none. joined r.txn turn.state.vector writes awaited s ready.1 j differ holds none) n
    where
      joined : (t : Txn) (v : List ℕ) (writes : List (Item × ℤ)) (awaited : List Site) (s : Site) → Others t v writes awaited → Others t v writes (programs.with_vote s awaited)
      joined t v writes awaited s others j differ holds none = among (slice_get all j) refl
        where
          among : (o : Option SiteState) → slice_get all j ≡ o → IsStagedAt p all t j (session v (site (j + 1)))
          among None q = inr (λ z at up same last. absurd (cc (q, at)))
          among (Some z) q = others j differ holds (with_one s awaited j z q none).0
  move_now {turn = turn} (parts.commits r reads writes f ph m) n =
      let ready = its turn r reads writes [] f ph n in
      now_puts turn _ (record r { phase = sent }) ((1, 0, letters.CommitAsk r.txn (record { reads = reads; writes = writes; under = turn.state.vector })) ∷ []) (kept_same turn.state) refl refl refl refl
      ((ready.0, λ j differ holds. ready.1 j differ holds refl), tt) tt n

  pub moves_now : {turn last : Turn SiteState} → Moves w state from letter turn last → Now turn → Now last
  moves_now parts.done n = n
  moves_now (parts.moves m rest) n = moves_now rest (move_now m n)

  -- a program has ended
  now_ends : (turn after : Turn SiteState) (t : Txn) → Keeps turn.state after.state → after.state.site ≡ turn.state.site → after.state.vector ≡ turn.state.vector →
      after.state.running ≡ filter (λ (r : Running). not (is_txn t r.txn)) turn.state.running → after.outs ≡ turn.outs → Now turn → Now after
  now_ends turn after t keeps here v same outs n = record {
    place = here ∙ n.place;
    each = λ u r f. each u r (ap (program_of u) (sym same) ∙ f) (t.0 == u.0) refl;
    sent = subst (AllByRecursion (λ (out : Out). SentOk after.state out.2)) (sym outs) (all_sent turn.state after.state keeps turn.outs n.sent);
    fallen = λ s tells. ap (λ v. session v s) v ∙ n.fallen s tells;
  }
    where
      left : List Running
      left = filter (λ (r : Running). not (is_txn t r.txn)) turn.state.running

      each : (u : Txn) (r : Running) → program_of u left ≡ Some r → (b : Bool) → (t.0 == u.0) ≡ b → Ready after.state u r.phase
      each u r f true e =
          let its : u ≡ t = ap (λ n. let z : Txn = record { 0 = n } in z) (sym (eqb-true t.0 u.0 e)) in
          absurd (found_none (filtered_out t turn.state.running) (subst (λ z. program_of z left ≡ Some r) its f))
        where
          found_none : {o : Option Running} → o ≡ None → o ≡ Some r → ⊥
          found_none a b = cc (a, b)
      each u r f false e = ready_on turn.state after.state keeps v u r.phase (n.each u r (sym (filtered_other t u turn.state.running e) ∙ f))

  module _ (ascend : Ascend state.running) (before : (t : Txn) (r : Running) → running_of state t ≡ Some r → Ready state t r.phase) where
    -- what the row keeps
    spared : (t : Txn) → has_ended p t ≡ false → IsSpared from letter t
    spared t alive = alive_spared w p k from letter note t alive

    row_kept : {after : Turn SiteState} → Row w state from letter after → Keeps state after.state
    row_kept row t (inl over) = inl over
    row_kept {after = after} row t (inr h) = go (has_ended p t) refl
      where
        go : (b : Bool) → has_ended p t ≡ b → Own t after.state
        go true q = inl q
        go false q = inr (row_keeps w state from letter t (spared t q) some row h)

    drop_kept : (u : Txn) (again : Bool) → Tells w state from letter (letters.Drop u again) → Keeps state (parts.drops state u).state
    drop_kept u again e t (inl over) = inl over
    drop_kept u again e t (inr h) = go (has_ended p t) refl
      where
        go : (b : Bool) → has_ended p t ≡ b → Own t (parts.drops state u).state
        go true q = inl q
        go false q = inr (unstaged_other t u state.staged ((spared t q).dropped e.by u again e.is) h)

    -- the letter is no note that a site is down
    abbrev NoFall : Type 0
    NoFall = (s : Site) → Tells w state from letter (letters.DownNote s) → ⊥

    by_peer : (i : ℕ) → from ≡ suc (suc i) → NoFall
    by_peer i by s tells = (let one = tells.by in omega (arith, one, by))

    tells_else : {m : Message} → Tells w state from letter m → ((s : Site) → m ≡ letters.DownNote s → ⊥) → NoFall
    tells_else e other s tells = other s (sym e.is ∙ tells.is)

    given_else : {t : Txn} {ask : ℕ} {v : ℤ} → Given w state from letter t ask v → NoFall
    given_else (read_here x h n c e q i) = tells_else e (λ s q. cc q)
    given_else (read_elsewhere i v e) = by_peer i e.by

    idle_else : Idle w state from letter → NoFall
    idle_else (parts.down i u by) s tells = true≢false (sym tells.heard.up ∙ u)
    idle_else (parts.stays_down u by r) s tells = true≢false (sym tells.heard.up ∙ u)
    idle_else (parts.stays_up u by r) s tells = (let one = tells.by in omega (arith, one, by))
    idle_else (parts.late u by l) s tells = true≢false (sym tells.heard.meant ∙ l)
    idle_else (parts.late_peer i u by l r) s tells = by_peer i by s tells
    idle_else (parts.unfit h by bad) s tells = true≢false (sym tells.fits ∙ subst (λ m. (is_of_sequencer w m && fits_here w state m) ≡ false) tells.is bad)
    idle_else (parts.unfit_peer i h by bad) s tells = by_peer i by s tells
    idle_else (parts.unasked t ask v g none) s tells = given_else g s tells
    idle_else (parts.unserved t ask r e none) s tells = tells_else e (λ s q. cc q) s tells
    idle_else (parts.refused i t named own e) s tells = by_peer i e.by s tells
    idle_else (parts.outdated i t e q) s tells = by_peer i e.by s tells
    idle_else (parts.uncounted i t e none) s tells = by_peer i e.by s tells
    idle_else (parts.older i x v version c e q l) s tells = by_peer i e.by s tells

    opening : NoFall → Now (opened state)
    opening none = record { place = at_home; each = before; sent = tt; fallen = λ s tells. absurd (none s tells) }

    ready : (r : Running) {phase : Phase} → running_of state r.txn ≡ Some r → r.phase ≡ phase → Ready state r.txn phase
    ready r f is = subst (Ready state r.txn) is (before r.txn r f)

    -- places in a vector, counted from 0
    place_is : (j : ℕ) → (site (j + 1)).0 - 1 ≡ j
    place_is j = omega arith

    -- a site is down
    fall_now : (s : Site) → Tells w state from letter (letters.DownNote s) → Now (rows.with_vector (opened state) s 0)
    fall_now s e = record {
      place = at_home;
      each = λ t r f. fall t r.phase (before t r f);
      sent = tt;
      fallen = λ r tells. subst (λ (z : Site). session (slice_set state.vector (s.0 - 1) 0) z ≡ 0) (same r (sym e.is ∙ tells.is)) (let most = set_most state.vector (s.0 - 1) 0 in omega (arith, most));
    }
      where
        same : (r : Site) → letters.DownNote s ≡ letters.DownNote r → s ≡ r
        same r q = cc q

        fall : (t : Txn) (phase : Phase) → Ready state t phase → Ready (rows.with_vector (opened state) s 0).state t phase
        fall t (asking i x q) h = tt
        fall t (preparing reads writes awaited) h = (h.0, λ j differ holds none. at j (h.1 j differ holds none) (same_or_not ((site (j + 1)).0 - 1) (s.0 - 1)))
          where
            at : (j : ℕ) → IsStagedAt p all t j (session state.vector (site (j + 1))) → ((site (j + 1)).0 - 1 ≡ s.0 - 1) ⊎ ((site (j + 1)).0 - 1 ≢ s.0 - 1) → IsStagedAt p all t j (session (slice_set state.vector (s.0 - 1) 0) (site (j + 1)))
            at j old (inl here) = nowhere t j _ (ap (slice_index (slice_set state.vector (s.0 - 1) 0)) here ∙ (let most = set_most state.vector (s.0 - 1) 0 in omega (arith, most)))
            at j old (inr other) = subst (IsStagedAt p all t j) (sym (index_other state.vector (s.0 - 1) ((site (j + 1)).0 - 1) 0 other)) old
        fall t sent h = tt

    -- a site is up again: each program joins it, one after the other, and asks for nothing meanwhile
    record Joined (s : Site) (n : ℕ) (turn : Turn SiteState) : Type 0 where
      place : turn.state.site ≡ state.site
      vector : turn.state.vector ≡ slice_set state.vector (s.0 - 1) n
      staged : turn.state.staged ≡ state.staged
      sent : (z : SiteState) → AllByRecursion (λ (out : Out). SentOk z out.2) turn.outs

    joins_all : (s : Site) (n : ℕ) (rs : List Running) (turn : Turn SiteState) → Joined s n turn → Joined s n (fold (λ now r. programs.join w s now r r.phase) turn rs)
    joins_all s n [] turn j = j
    joins_all s n (r ∷ rs) turn j = joins_all s n rs (programs.join w s turn r r.phase) (one r.phase)
      where
        one : (phase : Phase) → Joined s n (programs.join w s turn r phase)
        one (asking i x q) = j
        one (preparing reads writes awaited) = joins (holds_some w writes s)
          where
            joins : (b : Bool) → Joined s n (if b then send (programs.with_running turn (record r { phase = preparing reads writes (programs.with_vote s awaited) })) (prepare_out w turn.state.vector r.txn writes s) else turn)
            joins true = record {
              place = j.place;
              vector = j.vector;
              staged = j.staged;
              sent = λ z. all_append (λ (out : Out). SentOk z out.2) turn.outs (prepare_out w turn.state.vector r.txn writes s ∷ []) (j.sent z) (tt, tt);
            }
            joins false = j
        one sent = j

    joined_found : (s : Site) (t : Txn) (rs : List Running) (r : Running) → program_of t (map (joined w s) rs) ≡ Some r → (q : Running) × ((program_of t rs ≡ Some q) × (joined w s q ≡ r))
    joined_found s t [] r f = absurd (nothing f)
    joined_found s t (q ∷ rs) r f = go (q.txn.0 == t.0) refl (subst (λ (z : Txn). (if z.0 == t.0 then Some (joined w s q) else program_of t (map (joined w s) rs)) ≡ Some r) (still q.phase) f) (joined_found s t rs r)
      where
        still : (phase : Phase) → (joined_in w s q phase).txn ≡ q.txn
        still (asking i x z) = refl
        still (preparing reads writes awaited) = either (holds_some w writes s)
          where
            either : (b : Bool) → (if b then record q { phase = preparing reads writes (programs.with_vote s awaited) } else q).txn ≡ q.txn
            either true = refl
            either false = refl
        still sent = refl

        go : (b : Bool) → (q.txn.0 == t.0) ≡ b → (if b then Some (joined w s q) else program_of t (map (joined w s) rs)) ≡ Some r →
            (program_of t (map (joined w s) rs) ≡ Some r → (z : Running) × ((program_of t rs ≡ Some z) × (joined w s z ≡ r))) → (z : Running) × ((program_of t (q ∷ rs) ≡ Some z) × (joined w s z ≡ r))
        go true e h rest = (q, (ap (λ b. if b then Some q else program_of t rs) e, something h))
        go false e h rest = (let found = rest h in (found.0, (ap (λ b. if b then Some q else program_of t rs) e ∙ found.1.0, found.1.1)))

    module _ (s : Site) (n : ℕ) (e : Tells w state from letter (letters.UpNote s n)) where
      abbrev risen : Turn SiteState
      risen = rows.up_row w (opened state) s n

      all_joined : Joined s n risen
      all_joined = joins_all s n state.running (rows.with_vector (opened state) s n) (record { place = refl; vector = refl; staged = refl; sent = λ z. tt })

      -- the sessions of the others are left
      same_session : (j : ℕ) → is_site s (site (j + 1)) ≡ false → session risen.state.vector (site (j + 1)) ≡ session state.vector (site (j + 1))
      same_session j other =
          let known = at_most 1 s.0 (and_parts (nat_le 1 s.0) (nat_le s.0 w.sites) (and_parts (knows_site w s) true e.fits).0).0 in
          let differ = apart (j + 1) s.0 other (omega arith) known in
          ap (λ v. session v (site (j + 1))) all_joined.vector ∙ index_other state.vector (s.0 - 1) ((site (j + 1)).0 - 1) n (λ q. differ (sym q))

      own_still : (t : Txn) → Own t state → Own t risen.state
      own_still t (inl over) = inl over
      own_still t (inr h) = inr (ap (staged_in t) all_joined.staged ∙ h)

      others_joined : (t : Txn) (writes : List (Item × ℤ)) (awaited : List Site) → Others t state.vector writes awaited → Others t risen.state.vector writes (programs.with_vote s awaited)
      others_joined t writes awaited others j differ holds none = among (slice_get all j) refl
        where
          among : (o : Option SiteState) → slice_get all j ≡ o → IsStagedAt p all t j (session risen.state.vector (site (j + 1)))
          among None q = inr (λ z at up same last. absurd (cc (q, at)))
          among (Some z) q = (let both = with_one s awaited j z q none in subst (IsStagedAt p all t j) (sym (same_session j both.1)) (others j differ holds both.0))

      others_left : (t : Txn) (writes : List (Item × ℤ)) (awaited : List Site) → holds_some w writes s ≡ false → Others t state.vector writes awaited → Others t risen.state.vector writes awaited
      others_left t writes awaited not_held others j differ holds none = subst (IsStagedAt p all t j) (sym (same_session j (other (is_site s (site (j + 1))) refl))) (others j differ holds none)
        where
          other : (b : Bool) → is_site s (site (j + 1)) ≡ b → b ≡ false
          other true q = absurd (true≢false (sym holds ∙ ap (holds_some w writes) (same_site s (site (j + 1)) q) ∙ not_held))
          other false q = refl

      rise : (t : Txn) (r : Running) (phase : Phase) → r.phase ≡ phase → Ready state t phase → Ready risen.state t (joined_in w s r phase).phase
      rise t r (asking i x q) is h = subst (Ready risen.state t) (sym is) tt
      rise t r (preparing reads writes awaited) is h = go (holds_some w writes s) refl
        where
          go : (b : Bool) → holds_some w writes s ≡ b → Ready risen.state t (if b then record r { phase = preparing reads writes (programs.with_vote s awaited) } else r).phase
          go true q = ((λ holds. own_still t (h.0 holds)), others_joined t writes awaited h.1)
          go false q = subst (Ready risen.state t) (sym is) ((λ holds. own_still t (h.0 holds)), others_left t writes awaited q h.1)
      rise t r sent is h = subst (Ready risen.state t) (sym is) tt

      rise_now : Now risen
      rise_now = record {
        place = all_joined.place ∙ at_home;
        each = λ t r f. one t r (joined_found s t state.running r (ap (program_of t) (sym (joined_all w s n (opened state) ascend)) ∙ f));
        sent = all_joined.sent risen.state;
        fallen = λ q tells. absurd (tells_else e (λ s q. cc q) q tells);
      }
        where
          one : (t : Txn) (r : Running) → (q : Running) × ((program_of t state.running ≡ Some q) × (joined w s q ≡ r)) → Ready risen.state t r.phase
          one t r (q, (f, is)) = subst (λ (z : Running). Ready risen.state t z.phase) is (rise t q q.phase refl (before t q f))

      -- and then commits are asked for
      pub rises_now : Now (rows.hear_site w state from letter)
      rises_now =
          let reached = sequencer_rows w state from letter ascend (letters.UpNote s n) e in
          let still = ascend_moves w state from letter (ascend_row w state from letter ascend reached.1.0) reached.1.1 in
          subst Now (sym (told_is w state from letter (letters.UpNote s n) e)) (moves_now (asks_commits w state from letter e.heard risen still) rise_now)

    -- the whole step
    row_now : {after : Turn SiteState} → Row w state from letter after → Moves w state from letter after (rows.hear_site w state from letter) → Now (rows.hear_site w state from letter)
    row_now (parts.halts u f e) rest = absurd (some f)
    row_now (parts.returns u f e) rest = absurd (some f)
    row_now (parts.refuses i u writes v f l e) rest = moves_now rest (now_sends (opened state) _ ((i + 2, letter.from, letters.Vote u (No letter.to state.session)) ∷ []) (kept_same state) refl refl refl refl (tt, tt) (opening (by_peer i f)))
    row_now (parts.idle i) rest = moves_now rest (opening (idle_else i))
    row_now (parts.welcomed v z e) rest = moves_now rest (record {
      place = at_home;
      each = λ t r f. absurd (none_runs state.running t r (and_parts (is_of_sequencer w (letters.Welcome v z)) (length state.running == 0) e.fits).1 f);
      sent = tt;
      fallen = λ s tells. absurd (tells_else e (λ s q. cc q) s tells);
    })
    row_now (parts.served u ask x h z c e q o) rest = moves_now rest (now_sends (opened state) _ ((h.0 + 1, z, letters.Value u ask c.value) ∷ []) (kept_same state) refl refl refl refl (tt, tt) (opening (tells_else e (λ s q. cc q))))
    row_now (parts.notes r ask x q s f ph e) rest = moves_now rest (now_puts (opened state) _ (record r { phase = asking ask x (Some s) }) [] (kept_same state) refl refl refl refl tt tt (opening (tells_else e (λ s q. cc q))))
    row_now (parts.applied u number ps e q) rest = moves_now rest (now_sends (opened state) _ ((1, 0, letters.Ack u) ∷ []) (row_kept (parts.applied u number ps e q)) refl refl refl refl (tt, tt) (opening (tells_else e (λ s q. cc q))))
    row_now (parts.over u e) rest = moves_now rest (now_ends (opened state) _ u (kept_same state) refl refl refl refl (opening (tells_else e (λ s q. cc q))))
    row_now (parts.dropped u again e q) rest = moves_now rest (now_ends (opened state) (parts.drops state u) u (drop_kept u again e) refl refl refl refl (opening (tells_else e (λ s q. cc q))))
    row_now (parts.retried u e q g) rest = moves_now rest (begins_now (parts.drops state u) (programs.next_attempt w u) g (now_ends (opened state) (parts.drops state u) u (drop_kept u true e) refl refl refl refl (opening (tells_else e (λ s q. cc q)))))
    row_now (parts.falls s e) rest = moves_now rest (fall_now s e)
    row_now (parts.rises s z e) rest = rises_now s z e
    row_now (parts.copies x target z c e q) rest = moves_now rest (now_sends (opened state) _ ((target.0 + 1, z, letters.CopyValue x c.value c.version) ∷ []) (kept_same state) refl refl refl refl (tt, tt) (opening (tells_else e (λ s q. cc q))))
    row_now (parts.staged i u writes e) rest =
        moves_now rest (now_sends (opened state) _ (((site (i + 1)).0 + 1, letter.from, letters.Vote u Yes) ∷ []) (row_kept (parts.staged i u writes e)) refl refl refl refl (inr (staged_now u writes state.staged), tt) (opening (by_peer i e.by)))
    row_now (parts.counts i r reads writes awaited f ph e q) rest =
        moves_now rest (now_puts (opened state) _ (record r { phase = preparing reads writes (parts.but (site (i + 1)) awaited) }) [] (kept_same state) refl refl refl refl tt
        ((ready r f ph).0, but_one r.txn state.vector writes awaited (site (i + 1)) voted (ready r f ph).1) (opening (by_peer i e.by)))
      where
        its_vote : IsStagedAt p all r.txn i letter.from
        its_vote = subst (VoteStaged p all i letter.from) e.is (vote i e.by)

        voted : (j : ℕ) → is_site (site (i + 1)) (site (j + 1)) ≡ true → IsStagedAt p all r.txn j (session state.vector (site (j + 1)))
        voted j same = subst (λ z. IsStagedAt p all r.txn z (session state.vector (site (z + 1)))) (let z = eqb-true (j + 1) (i + 1) same in let here : i ≡ j = omega (arith, z) in here)
            (subst (IsStagedAt p all r.txn i) (sym (eqb-true (session state.vector (site (i + 1))) letter.from q)) its_vote)
    row_now (parts.renewed i x v version c e q l) rest = moves_now rest (now_sends (opened state) _ ((1, 0, letters.CopyDone x version) ∷ []) (kept_same state) refl refl refl refl (tt, tt) (opening (by_peer i e.by)))
    row_now (parts.given r ask x q v f ph g gg) rest = moves_now rest (goes_now (opened state) (record r { answers = put r.answers x v }) gg (opening (given_else g)))

    pub step_now : Now (rows.hear_site w state from letter)
    step_now = (let reached = site_moves w state from letter ascend in row_now reached.1.0 reached.1.1)
