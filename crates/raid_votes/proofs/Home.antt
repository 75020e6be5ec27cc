-- A step of a home keeps the votes coming that its programs in preparation await.
use Rattle.std.proofs.Common.{◌≡◌, inl, inr, ℕ, ℤ, ◌+◌, ◌≤◌, ◌==◌, nat_lt, Bool, true, false, not, ◌&&◌, ◌||◌, List, [], ◌∷◌, ◌++◌, map, filter, length, Some, if◌then◌else◌, arith, sym, subst, ap, ◌∙◌, refl, append-nil, append_assoc}
use Rattle.std.specs.List.{AllByRecursion, list_any}
use Rattle.std.proofs.lemmas.Bool.{and_parts, eqb-true, true≢false}
use Rattle.raid_base.specs.declared.names.Txn.{Txn}
use Rattle.raid_base.specs.declared.names.Item.{Item}
use Rattle.raid_base.specs.declared.names.Site.{Site}
use Rattle.raid_base.specs.declared.entry.Answer.TheVariants.{Yes, No}
use Rattle.raid_base.specs.Names.{is_txn, is_site, has_site}
use Rattle.raid_base.specs.Sites.{session, site, all_sites}
use Rattle.raid_program.specs.Run.{put}
use Rattle.raid_workload.specs.declared.workload.Workload.{Workload}
use Rattle.raid_workload.specs.Parts.{sites}
use Rattle.raid_rules.specs.Sessions.{is_site_up}
use Rattle.raid_rules.proofs.Sources.{has_kept}
use Rattle.raid_legal.specs.Seen.{holds_some}
use Rattle.raid_message.specs.declared.letter.Message.TheVariants as letters
use Rattle.raid_message.specs.declared.letter.Letter.{Letter}
use Rattle.raid_steps.specs.State.{Out, Turn, opened, send, tell, Phase, asking, preparing, sent, Running, SiteState}
use Rattle.raid_steps.specs.Copies.{stage}
use Rattle.raid_steps.specs.Fits.{is_of_sequencer, knows_site}
use Rattle.raid_steps.specs.Programs as programs
use Rattle.raid_steps.specs.Programs.{put_running, running_of, prepare_out, voters}
use Rattle.raid_steps.specs.Site.{hear_site}
use Rattle.raid_steps.proofs.Parts.{sites_known}
use Rattle.raid_sessions.proofs.Lists.{not_false, same_self}
use Rattle.raid_sessions.proofs.Mail.{letters_to}
use Rattle.raid_moves.specs.Moves as parts
use Rattle.raid_moves.specs.Moves.{Ascend, Tells, comes_to, Goes, fresh, Begins, Row, next_of, passed, Move, Moves}
use Rattle.raid_moves.proofs.Places.{all_put, all_kept, all_found, all_weaken}
use Rattle.raid_moves.proofs.Steps.{site_moves}
use Rattle.raid_asks.proofs.Facts.{or_parts}
use Rattle.raid_asks.proofs.Notes.{letters_append}
use Rattle.raid_letters.proofs.Sends.{same_site}
use Rattle.raid_votes.specs.Votes.{asks_vote, VoteComes, asked, voted, ended}
use Rattle.raid_votes.proofs.Expects.{any_on, any_new, each_in, one_of, one_passes, Expects, ExpectsAll, phase_on}

positive : (n : ℕ) → nat_lt 0 n ≡ true → 1 ≤ n
positive n q = grind (arith, q)

module _ (w : Workload) (all : List SiteState) (k : ℕ) (state : SiteState) (from clock : ℕ) (letter : Letter) (asks votes : Site → List Letter) where
  -- the letters to a site with those that are sent by now
  abbrev pub with_outs : List Out → Site → List Letter
  with_outs outs a = asks a ++ letters_to (a.0 + 1) state.session clock outs

  abbrev pub Waits : Turn SiteState → Txn → Phase → Type 0
  Waits turn t phase = ExpectsAll w all k state.session turn.state.vector (with_outs turn.outs) votes t phase

  abbrev pub Each : Turn SiteState → Type 0
  Each turn = AllByRecursion (λ (r : Running). Waits turn r.txn r.phase) turn.state.running

  -- who is told to be up is another site, and so it is in the vector
  abbrev pub Rises : List ℕ → Type 0
  Rises v = (z : Site) (n : ℕ) → Tells w state from letter (letters.UpNote z n) → (is_site (site (k + 1)) z ≡ false) × (1 ≤ session v z)

  pub record Now (turn : Turn SiteState) : Type 0 where
    pub place : turn.state.site ≡ site (k + 1)
    pub each : AllByRecursion (λ (r : Running). Waits turn r.txn r.phase) turn.state.running
    pub rises : Rises turn.state.vector

  -- more is sent
  more_out : (outs new : List Out) (a : Site) → with_outs (outs ++ new) a ≡ with_outs outs a ++ letters_to (a.0 + 1) state.session clock new
  more_out outs new a = ap (λ ls. asks a ++ ls) (letters_append (a.0 + 1) state.session clock outs new) ∙ sym (append_assoc (asks a) (letters_to (a.0 + 1) state.session clock outs) (letters_to (a.0 + 1) state.session clock new))

  pub comes_on : (outs new : List Out) (n : ℕ) (t : Txn) (a : Site) → VoteComes all (with_outs outs a) (votes a) state.session n t a → VoteComes all (with_outs (outs ++ new) a) (votes a) state.session n t a
  comes_on outs new n t a (asked q) = asked (ap (list_any (asks_vote state.session n t)) (more_out outs new a) ∙ any_on (asks_vote state.session n t) (with_outs outs a) (letters_to (a.0 + 1) state.session clock new) q)
  comes_on outs new n t a (voted q) = voted q
  comes_on outs new n t a (ended q) = ended q

  -- a letter that is sent now asks for the vote
  pub comes_new : (outs new : List Out) (n : ℕ) (t : Txn) (a : Site) → list_any (asks_vote state.session n t) (letters_to (a.0 + 1) state.session clock new) ≡ true → VoteComes all (with_outs (outs ++ new) a) (votes a) state.session n t a
  comes_new outs new n t a q = asked (ap (list_any (asks_vote state.session n t)) (more_out outs new a) ∙ any_new (asks_vote state.session n t) (with_outs outs a) (letters_to (a.0 + 1) state.session clock new) q)

  waits_on : (turn after : Turn SiteState) (new : List Out) → after.state.vector ≡ turn.state.vector → after.outs ≡ turn.outs ++ new → (t : Txn) (phase : Phase) → Waits turn t phase → Waits after t phase
  waits_on turn after new same more t phase h =
      subst (λ v. ExpectsAll w all k state.session v (with_outs after.outs) votes t phase) (sym same)
      (subst (λ os. ExpectsAll w all k state.session turn.state.vector (with_outs os) votes t phase) (sym more)
      (phase_on w all all k state.session state.session turn.state.vector turn.state.vector (with_outs turn.outs) votes (with_outs (turn.outs ++ new)) votes t
      (λ writes a e. record { known = e.known; other = e.other; holds = e.holds; up = e.up; comes = comes_on turn.outs new (session turn.state.vector a) t a e.comes }) phase h))

  pub each_on : (turn after : Turn SiteState) (new : List Out) → after.state.vector ≡ turn.state.vector → after.outs ≡ turn.outs ++ new → Each turn → AllByRecursion (λ (r : Running). Waits after r.txn r.phase) turn.state.running
  each_on turn after new same more each = all_weaken (λ (r : Running). Waits turn r.txn r.phase) (λ (r : Running). Waits after r.txn r.phase) turn.state.running (λ r h. waits_on turn after new same more r.txn r.phase h) each

  now_sends : (turn after : Turn SiteState) (new : List Out) → after.state.site ≡ turn.state.site → after.state.vector ≡ turn.state.vector → after.state.running ≡ turn.state.running → after.outs ≡ turn.outs ++ new → Now turn → Now after
  now_sends turn after new here v same more n = record {
    place = here ∙ n.place;
    each = subst (AllByRecursion (λ (r : Running). Waits after r.txn r.phase)) (sym same) (each_on turn after new v more n.each);
    rises = subst Rises (sym v) n.rises;
  }

  now_puts : (turn after : Turn SiteState) (now : Running) (new : List Out) → after.state.site ≡ turn.state.site → after.state.vector ≡ turn.state.vector → after.state.running ≡ put_running now turn.state.running → after.outs ≡ turn.outs ++ new →
      Waits after now.txn now.phase → Now turn → Now after
  now_puts turn after now new here v put more waits n = record {
    place = here ∙ n.place;
    each = subst (AllByRecursion (λ (r : Running). Waits after r.txn r.phase)) (sym put) (all_put (λ (r : Running). Waits after r.txn r.phase) now turn.state.running waits (each_on turn after new v more n.each));
    rises = subst Rises (sym v) n.rises;
  }

  now_ends : (turn after : Turn SiteState) (t : Txn) → after.state.site ≡ turn.state.site → after.state.vector ≡ turn.state.vector → after.state.running ≡ filter (λ (r : Running). not (is_txn t r.txn)) turn.state.running → after.outs ≡ turn.outs → Now turn → Now after
  now_ends turn after t here v left outs n = record {
    place = here ∙ n.place;
    each = subst (AllByRecursion (λ (r : Running). Waits after r.txn r.phase)) (sym left)
        (all_kept (λ (r : Running). Waits after r.txn r.phase) (λ (r : Running). not (is_txn t r.txn)) turn.state.running (each_on turn after [] v (outs ∙ sym (append-nil turn.outs)) n.each));
    rises = subst Rises (sym v) n.rises;
  }

  -- a Prepare to each of some sites
  pub one_asked : (v : List ℕ) (t : Txn) (writes : List (Item × ℤ)) (z : Site) → list_any (asks_vote state.session (session v z) t) (letters_to (z.0 + 1) state.session clock (prepare_out w v t writes z ∷ [])) ≡ true
  one_asked v t writes z = rw (same_self (z.0 + 1), same_self state.session, same_self (session v z), same_self t.0) refl

  all_asked : (v : List ℕ) (t : Txn) (writes : List (Item × ℤ)) (ss : List Site) (a : Site) → has_site ss a ≡ true → list_any (asks_vote state.session (session v a) t) (letters_to (a.0 + 1) state.session clock (map (prepare_out w v t writes) ss)) ≡ true
  all_asked v t writes [] a has = absurd (true≢false (sym has))
  all_asked v t writes (s ∷ ss) a has =
      ap (list_any (asks_vote state.session (session v a) t)) (letters_append (a.0 + 1) state.session clock (prepare_out w v t writes s ∷ []) (map (prepare_out w v t writes) ss))
      ∙ elim (or_parts (is_site a s) (has_site ss a) has) [
        | inl here ↦ any_on (asks_vote state.session (session v a) t) (letters_to (a.0 + 1) state.session clock (prepare_out w v t writes s ∷ [])) (letters_to (a.0 + 1) state.session clock (map (prepare_out w v t writes) ss))
            (subst (λ z. list_any (asks_vote state.session (session v z) t) (letters_to (z.0 + 1) state.session clock (prepare_out w v t writes s ∷ [])) ≡ true) (same_site a s here) (one_asked v t writes s))
        | inr more ↦ any_new (asks_vote state.session (session v a) t) (letters_to (a.0 + 1) state.session clock (prepare_out w v t writes s ∷ [])) (letters_to (a.0 + 1) state.session clock (map (prepare_out w v t writes) ss)) (all_asked v t writes ss a more)
      ]

  -- a program goes on
  goes_now : (turn : Turn SiteState) (r : Running) {after : Turn SiteState} → Goes w turn r after → Now turn → Now after
  goes_now turn r (parts.reads_next x e) n = now_puts turn (programs.ask turn r x) _ ((1, 0, letters.ReadAsk r.txn (r.asks + 1) x) ∷ []) refl refl refl refl tt n
  goes_now turn r (parts.stops e) n = now_puts turn _ (record r { phase = sent }) ((1, 0, letters.EndAsk r.txn _ (comes_to w r).reads) ∷ []) refl refl refl refl tt n
  goes_now turn r (parts.overflows e) n = now_puts turn _ (record r { phase = sent }) ((1, 0, letters.EndAsk r.txn _ (comes_to w r).reads) ∷ []) refl refl refl refl tt n
  goes_now turn r (parts.prepares e) n =
      now_puts turn (programs.prepare w turn r (comes_to w r)) now (map (prepare_out w turn.state.vector r.txn writes) vs) (here (holds_some w writes turn.state.site)) (vectors (holds_some w writes turn.state.site)) (runs (holds_some w writes turn.state.site)) refl
      (subst (λ v. ExpectsAll w all k state.session v (with_outs (turn.outs ++ map (prepare_out w turn.state.vector r.txn writes) vs)) votes r.txn now.phase) (sym (vectors (holds_some w writes turn.state.site)))
      (each_in (Expects w all k state.session turn.state.vector (with_outs (turn.outs ++ map (prepare_out w turn.state.vector r.txn writes) vs)) votes r.txn writes) vs expects)) n
    where
      writes : List (Item × ℤ)
      writes = (comes_to w r).writes

      vs : List Site
      vs = voters w turn.state (comes_to w r).writes

      now : Running
      now = record r { phase = preparing (comes_to w r).reads (comes_to w r).writes (voters w turn.state (comes_to w r).writes) }

      here : (b : Bool) → (let s : SiteState = (if b then record (turn.state) { staged = stage r.txn (programs.held_by w turn.state.site (comes_to w r).writes) turn.state.staged } else turn.state) in s.site) ≡ turn.state.site
      here true = refl
      here false = refl

      vectors : (b : Bool) → (let s : SiteState = (if b then record (turn.state) { staged = stage r.txn (programs.held_by w turn.state.site (comes_to w r).writes) turn.state.staged } else turn.state) in s.vector) ≡ turn.state.vector
      vectors true = refl
      vectors false = refl

      runs : (b : Bool) → (let s : SiteState = (if b then record (turn.state) { staged = stage r.txn (programs.held_by w turn.state.site (comes_to w r).writes) turn.state.staged } else turn.state) in put_running now s.running) ≡ put_running now turn.state.running
      runs true = refl
      runs false = refl

      expects : (a : Site) → has_site (voters w turn.state (comes_to w r).writes) a ≡ true →
          Expects w all k state.session turn.state.vector (with_outs (turn.outs ++ map (prepare_out w turn.state.vector r.txn (comes_to w r).writes) (voters w turn.state (comes_to w r).writes))) votes r.txn (comes_to w r).writes a
      expects a has =
          let kept = and_parts ((is_site_up turn.state.vector a && not (is_site turn.state.site a)) && holds_some w writes a) (has_site (sites w) a)
          (sym (has_kept (λ s. is_site_up turn.state.vector s && not (is_site turn.state.site s) && holds_some w writes s) a (sites w)) ∙ has) in
          let both = and_parts (is_site_up turn.state.vector a && not (is_site turn.state.site a)) (holds_some w writes a) kept.0 in
          let first = and_parts (is_site_up turn.state.vector a) (not (is_site turn.state.site a)) both.0 in
          record {
            known = one_passes (knows_site w) (sites w) a (sites_known w) kept.1;
            other = ap (λ z. is_site z a) (sym n.place) ∙ not_false (is_site turn.state.site a) first.1;
            holds = both.1;
            up = positive (session turn.state.vector a) first.0;
            comes = comes_new turn.outs (map (prepare_out w turn.state.vector r.txn writes) vs) (session turn.state.vector a) r.txn a (all_asked turn.state.vector r.txn writes vs a has);
          }

  begins_now : (turn : Turn SiteState) (t : Txn) {after : Turn SiteState} → Begins w turn t after → Now turn → Now after
  begins_now turn t g n = goes_now (tell turn (letters.Begin t)) (fresh t) g (now_sends turn (tell turn (letters.Begin t)) ((1, 0, letters.Begin t) ∷ []) refl refl refl refl n)

  -- a program in preparation that is found
  its : (turn : Turn SiteState) (r : Running) (reads writes : List (Item × ℤ)) (awaited : List Site) → running_of turn.state r.txn ≡ Some r → r.phase ≡ preparing reads writes awaited → Now turn → Waits turn r.txn (preparing reads writes awaited)
  its turn r reads writes awaited f is n = subst (Waits turn r.txn) is (all_found (λ (r : Running). Waits turn r.txn r.phase) (λ (z : Running). is_txn r.txn z.txn) turn.state.running r n.each f)

  -- one more is awaited
  pub with_one : (P : Site → Type 0) (z : Site) (awaited : List Site) → P z → ((a : Site) → is_site z a ≡ false → has_site awaited a ≡ true → P a) → AllByRecursion P (programs.with_vote z awaited)
  with_one P z awaited new old = each_in P (programs.with_vote z awaited) (λ a has. go a (is_site z a) refl (and_parts (has_site awaited a || is_site z a) (has_site all_sites a) (sym (has_kept (λ r. has_site awaited r || is_site z r) a all_sites) ∙ has)).0)
    where
      go : (a : Site) (b : Bool) → is_site z a ≡ b → (has_site awaited a || is_site z a) ≡ true → P a
      go a true q has = subst P (sym (same_site z a q)) new
      go a false q has = elim (or_parts (has_site awaited a) (is_site z a) has) [ inl before ↦ old a q before | inr now ↦ absurd (true≢false (sym now ∙ q)) ]

  move_now : {turn after : Turn SiteState} → Move w state from letter turn after → Now turn → Now after
  move_now {turn = turn} (parts.begins s z l g) n = begins_now (passed w turn) (next_of turn) g (now_sends turn (passed w turn) [] refl refl refl (sym (append-nil turn.outs)) n)
  move_now {turn = turn} (parts.asks r ask x s q f ph m y) n = now_puts turn (programs.ask turn r x) _ ((1, 0, letters.ReadAsk r.txn (r.asks + 1) x) ∷ []) refl refl refl refl tt n
  move_now {turn = turn} (parts.loses r reads writes awaited s f ph m) n =
      now_puts turn _ (record r { phase = preparing reads writes (parts.but s awaited) }) [] refl refl refl (sym (append-nil turn.outs))
      (all_kept (Expects w all k state.session turn.state.vector (with_outs turn.outs) votes r.txn writes) (λ a. not (is_site s a)) awaited (its turn r reads writes awaited f ph n)) n
  move_now {turn = turn} (parts.joins r reads writes awaited s z f ph m y) n =
      now_puts turn after (record r { phase = preparing reads writes (programs.with_vote s awaited) }) new refl refl refl refl
      (with_one (Expects w all k state.session turn.state.vector (with_outs (turn.outs ++ new)) votes r.txn writes) s awaited
      (record {
        known = (and_parts (knows_site w s) true m.fits).0;
        other = (n.rises s z m).0;
        holds = y;
        up = (n.rises s z m).1;
        comes = comes_new turn.outs new (session turn.state.vector s) r.txn s (one_asked turn.state.vector r.txn writes s);
      })
      (λ a differ has. one_of (Expects w all k state.session turn.state.vector (with_outs (turn.outs ++ new)) votes r.txn writes) awaited a (waits_on turn after new refl refl r.txn (preparing reads writes awaited) (its turn r reads writes awaited f ph n)) has)) n
    where
      new : List Out
      new = prepare_out w turn.state.vector r.txn writes s ∷ []

      after : Turn SiteState
      after = send (programs.with_running turn (record r { phase = preparing reads writes (programs.with_vote s awaited) })) (prepare_out w turn.state.vector r.txn writes s)
  move_now {turn = turn} (parts.commits r reads writes f ph m) n =
      now_puts turn _ (record r { phase = sent }) ((1, 0, letters.CommitAsk r.txn (record { reads = reads; writes = writes; under = turn.state.vector })) ∷ []) refl refl refl refl tt n

  pub moves_now : {turn last : Turn SiteState} → Moves w state from letter turn last → Now turn → Now last
  moves_now parts.done n = n
  moves_now (parts.moves m rest) n = moves_now rest (move_now m n)

  none_run : (P : Running → Type 0) (rs : List Running) → (length rs == 0) ≡ true → AllByRecursion P rs
  none_run P [] none = tt
  none_run P (r ∷ rs) none = absurd (let e = eqb-true (length (r ∷ rs)) 0 none in omega (arith, e))

  -- a step on a letter that is no note that a site is down or up
  module _ (start : Now (opened state)) (no_fall : (z : Site) → Tells w state from letter (letters.DownNote z) → ⊥) (no_rise : (z : Site) (n : ℕ) → Tells w state from letter (letters.UpNote z n) → ⊥) where
    row_now : {after : Turn SiteState} → Row w state from letter after → Now after
    row_now (parts.halts u f e) = record { place = start.place; each = tt; rises = λ z n tells. absurd (no_rise z n tells) }
    row_now (parts.returns u f e) = now_sends (opened state) _ ((1, 0, letters.Hello) ∷ []) refl refl refl refl start
    row_now (parts.refuses i u writes v f l e) = now_sends (opened state) _ ((i + 2, letter.from, letters.Vote u (No letter.to state.session)) ∷ []) refl refl refl refl start
    row_now (parts.idle i) = start
    row_now {after = after} (parts.welcomed v z e) = record {
      place = start.place;
      each = none_run (λ (r : Running). Waits after r.txn r.phase) state.running (and_parts (is_of_sequencer w (letters.Welcome v z)) (length state.running == 0) e.fits).1;
      rises = λ z n tells. absurd (no_rise z n tells);
    }
    row_now (parts.served u ask x h z c e q o) = now_sends (opened state) _ ((h.0 + 1, z, letters.Value u ask c.value) ∷ []) refl refl refl refl start
    row_now (parts.notes r ask x q s f ph e) = now_puts (opened state) _ (record r { phase = asking ask x (Some s) }) [] refl refl refl refl tt start
    row_now (parts.applied u number ps e q) = now_sends (opened state) _ ((1, 0, letters.Ack u) ∷ []) refl refl refl refl start
    row_now (parts.over u e) = now_ends (opened state) _ u refl refl refl refl start
    row_now (parts.dropped u again e q) = now_ends (opened state) (parts.drops state u) u refl refl refl refl start
    row_now (parts.retried u e q g) = begins_now (parts.drops state u) (programs.next_attempt w u) g (now_ends (opened state) (parts.drops state u) u refl refl refl refl start)
    row_now (parts.falls s e) = absurd (no_fall s e)
    row_now (parts.rises s z e) = absurd (no_rise s z e)
    row_now (parts.copies x target z c e q) = now_sends (opened state) _ ((target.0 + 1, z, letters.CopyValue x c.value c.version) ∷ []) refl refl refl refl start
    row_now (parts.staged i u writes e) = now_sends (opened state) _ (((site (i + 1)).0 + 1, letter.from, letters.Vote u Yes) ∷ []) refl refl refl refl start
    row_now (parts.counts i r reads writes awaited f ph e q) =
        now_puts (opened state) _ (record r { phase = preparing reads writes (parts.but (site (i + 1)) awaited) }) [] refl refl refl refl
        (all_kept (Expects w all k state.session state.vector (with_outs []) votes r.txn writes) (λ a. not (is_site (site (i + 1)) a)) awaited (its (opened state) r reads writes awaited f ph start)) start
    row_now (parts.renewed i x v version c e q l) = now_sends (opened state) _ ((1, 0, letters.CopyDone x version) ∷ []) refl refl refl refl start
    row_now (parts.given r ask x q v f ph g gg) = goes_now (opened state) (record r { answers = put r.answers x v }) gg start

    pub step_now : Ascend state.running → Now (hear_site w state from letter)
    step_now ascend = (let reached = site_moves w state from letter ascend in moves_now reached.1.1 (row_now reached.1.0))
