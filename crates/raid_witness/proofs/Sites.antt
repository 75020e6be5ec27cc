-- A step of a site leaves its programs, but for those whose transactions have ended.
use Rattle.std.proofs.Common.{◌≡◌, ◌⊎◌, inl, inr, ℕ, ℤ, ◌+◌, ◌==◌, Bool, true, false, not, ◌||◌, List, [], ◌∷◌, ◌++◌, map, filter, Some, None, if◌then◌else◌, sym, subst, ap, ◌∙◌, refl, append-nil}
use Rattle.std.proofs.lemmas.Bool.{true≢false}
use Rattle.raid_base.specs.declared.names.Txn.{Txn}
use Rattle.raid_base.specs.declared.names.Item.{Item}
use Rattle.raid_base.specs.declared.names.Site.{Site}
use Rattle.raid_base.specs.declared.request.Request.{Request}
use Rattle.raid_base.specs.declared.entry.Answer.TheVariants.{Yes, No}
use Rattle.raid_base.specs.declared.entry.Cause.TheVariants as causes
use Rattle.raid_base.specs.declared.entry.Noted.{Noted}
use Rattle.raid_base.specs.Names.{is_txn, has_txn}
use Rattle.raid_base.specs.Sites.{session, site}
use Rattle.raid_workload.specs.declared.workload.Workload.{Workload}
use Rattle.raid_rules.specs.Entries.{is_commit_of, is_abort_of, is_end_of}
use Rattle.raid_rules.specs.History.{has_aborted, has_ended}
use Rattle.raid_rules.proofs.Push.{same_txn}
use Rattle.raid_legal.specs.Seen.{holds_some}
use Rattle.raid_message.specs.declared.letter.Message.{Message}
use Rattle.raid_message.specs.declared.letter.Message.TheVariants as letters
use Rattle.raid_message.specs.declared.letter.Letter.{Letter}
use Rattle.raid_steps.specs.State.{Out, Turn, opened, send, tell, asking, preparing, sent, Running, SiteState}
use Rattle.raid_steps.specs.Copies.{stage}
use Rattle.raid_steps.specs.Programs as programs
use Rattle.raid_steps.specs.Programs.{put_running, running_of, prepare_out, voters}
use Rattle.raid_steps.specs.Site.{hear_site}
use Rattle.raid_moves.specs.Moves as parts
use Rattle.raid_moves.specs.Moves.{Ascend, Given, comes_to, Goes, fresh, Row, next_of, passed, Move}
use Rattle.raid_moves.proofs.Places.{program_of, put_found, put_other}
use Rattle.raid_moves.proofs.Steps.{step_keeps}
use Rattle.raid_asks.specs.Way.{begun_by}
use Rattle.raid_asks.proofs.Facts.{or_right, any_weaken}
use Rattle.raid_asks.proofs.Line.{has_push}
use Rattle.raid_asks.proofs.Programs.{told, told_append}
use Rattle.raid_letters.specs.Says.{NoteSays}
use Rattle.raid_layers.proofs.Histories.{no_more, committed_ended}
use Rattle.raid_layers.proofs.Turns.{filtered_other}
use Rattle.raid_witness.specs.AtHome.{RunsAt}

-- what tells of no Begin
quiet : (outs new : List Out) → told new ≡ [] → told (outs ++ new) ≡ told outs
quiet outs new none = told_append outs new ∙ ap (λ ts. told outs ++ ts) none ∙ append-nil (told outs)

unheard : (n m : ℕ) (message : Message) → begun_by message ≡ [] → told (let out : Out = (n, m, message) in out ∷ []) ≡ []
unheard n m message none = go (n == 1)
  where
    go : (b : Bool) → (if b then begun_by message ++ [] else []) ≡ []
    go true = ap (λ ts. ts ++ []) none
    go false = refl

prepared : (w : Workload) (v : List ℕ) (t : Txn) (writes : List (Item × ℤ)) (ss : List Site) → told (map (prepare_out w v t writes) ss) ≡ []
prepared w v t writes [] = refl
prepared w v t writes (s ∷ ss) = go (s.0 + 1 == 1) (prepared w v t writes ss)
  where
    go : (b : Bool) → told (map (prepare_out w v t writes) ss) ≡ [] → (if b then told (map (prepare_out w v t writes) ss) else told (map (prepare_out w v t writes) ss)) ≡ []
    go true q = q
    go false q = q

-- a program that goes on is put in its place, and no Begin is told
record Puts (turn after : Turn SiteState) (t : Txn) : Type 0 where
  now : Running
  its : now.txn ≡ t
  put : after.state.running ≡ put_running now turn.state.running
  same : told after.outs ≡ told turn.outs

goes_puts : (w : Workload) (turn : Turn SiteState) (r : Running) {after : Turn SiteState} → Goes w turn r after → Puts turn after r.txn
goes_puts w turn r (parts.reads_next x e) = record { now = record r { asks = r.asks + 1; phase = asking (r.asks + 1) x None }; its = refl; put = refl; same = quiet turn.outs ((1, 0, letters.ReadAsk r.txn (r.asks + 1) x) ∷ []) refl }
goes_puts w turn r (parts.prepares e) = record { now = now; its = refl; put = runs (holds_some w (comes_to w r).writes turn.state.site); same = quiet turn.outs (map (prepare_out w turn.state.vector r.txn (comes_to w r).writes) vs) (prepared w turn.state.vector r.txn (comes_to w r).writes vs) }
  where
    vs : List Site
    vs = voters w turn.state (comes_to w r).writes

    now : Running
    now = record r { phase = preparing (comes_to w r).reads (comes_to w r).writes vs }

    runs : (b : Bool) → (let s : SiteState = (if b then record (turn.state) { staged = stage r.txn (programs.held_by w turn.state.site (comes_to w r).writes) turn.state.staged } else turn.state) in put_running now s.running) ≡ put_running now turn.state.running
    runs true = refl
    runs false = refl
goes_puts w turn r (parts.stops e) = record { now = record r { phase = sent }; its = refl; put = refl; same = quiet turn.outs ((1, 0, letters.EndAsk r.txn causes.Own (comes_to w r).reads) ∷ []) refl }
goes_puts w turn r (parts.overflows e) = record { now = record r { phase = sent }; its = refl; put = refl; same = quiet turn.outs ((1, 0, letters.EndAsk r.txn causes.Overflow (comes_to w r).reads) ∷ []) refl }

module _ (w : Workload) (p : List Noted) (k : ℕ) (state : SiteState) (from : ℕ) (letter : Letter) (note : from ≡ 1 → NoteSays w p (site (k + 1)) letter.to letter.message) (not_monitor : from ≡ 0 → ⊥) where
  -- who ran here, or was begun, has ended or runs
  pub record Stays (turn : Turn SiteState) : Type 0 where
    pub all : (t : Txn) → RunsAt state t ⊎ (has_txn (told turn.outs) t ≡ true) → (has_ended p t ≡ true) ⊎ RunsAt turn.state t

  start : Stays (opened state)
  start = record { all = λ t was. elim was [ inl runs ↦ inr runs | inr way ↦ absurd (true≢false (sym way)) ] }

  stays_same : (turn after : Turn SiteState) → after.state.running ≡ turn.state.running → told after.outs ≡ told turn.outs → Stays turn → Stays after
  stays_same turn after same silent h = record {
    all = λ t was. elim (h.all t (elim was [ inl runs ↦ inl runs | inr way ↦ inr (ap (λ ts. has_txn ts t) (sym silent) ∙ way) ])) [
      | inl over ↦ inl over
      | inr r ↦ inr (r.0, ap (program_of t) same ∙ r.1)
    ];
  }

  stays_put : (turn after : Turn SiteState) (now : Running) → after.state.running ≡ put_running now turn.state.running →
      ((t : Txn) → (now.txn.0 == t.0) ≡ false → has_txn (told after.outs) t ≡ true → has_txn (told turn.outs) t ≡ true) → Stays turn → Stays after
  stays_put turn after now put silent h = record { all = λ t was. go t was (now.txn.0 == t.0) refl }
    where
      go : (t : Txn) → RunsAt state t ⊎ (has_txn (told after.outs) t ≡ true) → (b : Bool) → (now.txn.0 == t.0) ≡ b → (has_ended p t ≡ true) ⊎ RunsAt after.state t
      go t was true e = inr (now, ap (program_of t) put ∙ subst (λ u. program_of u (put_running now turn.state.running) ≡ Some now) (same_txn now.txn t e) (put_found now turn.state.running))
      go t was false e = elim (h.all t (elim was [ inl runs ↦ inl runs | inr way ↦ inr (silent t e way) ])) [
        | inl over ↦ inl over
        | inr r ↦ inr (r.0, ap (program_of t) put ∙ put_other t now turn.state.running e ∙ r.1)
      ]

  silently : (turn after : Turn SiteState) (now : Running) → after.state.running ≡ put_running now turn.state.running → told after.outs ≡ told turn.outs → Stays turn → Stays after
  silently turn after now put same h = stays_put turn after now put (λ t e way. ap (λ ts. has_txn ts t) (sym same) ∙ way) h

  stays_ends : (turn after : Turn SiteState) (t : Txn) → after.state.running ≡ filter (λ (r : Running). not (is_txn t r.txn)) turn.state.running → told after.outs ≡ told turn.outs → has_ended p t ≡ true → Stays turn → Stays after
  stays_ends turn after t less same over h = record { all = λ u was. go u was (t.0 == u.0) refl }
    where
      go : (u : Txn) → RunsAt state u ⊎ (has_txn (told after.outs) u ≡ true) → (b : Bool) → (t.0 == u.0) ≡ b → (has_ended p u ≡ true) ⊎ RunsAt after.state u
      go u was true e = inl (subst (λ z. has_ended p z ≡ true) (same_txn t u e) over)
      go u was false e = elim (h.all u (elim was [ inl runs ↦ inl runs | inr way ↦ inr (ap (λ ts. has_txn ts u) (sym same) ∙ way) ])) [
        | inl over ↦ inl over
        | inr r ↦ inr (r.0, ap (program_of u) less ∙ filtered_other t u turn.state.running e ∙ r.1)
      ]

  -- a program goes on; one begins
  goes_stay : (turn : Turn SiteState) (r : Running) {after : Turn SiteState} → Goes w turn r after → Stays turn → Stays after
  goes_stay turn r {after} g h = (let puts = goes_puts w turn r g in silently turn after puts.now puts.put puts.same h)

  begins_stay : (turn : Turn SiteState) (t : Txn) {after : Turn SiteState} → Goes w (tell turn (letters.Begin t)) (fresh t) after → Stays turn → Stays after
  begins_stay turn t {after} g h = stays_put turn after puts.now puts.put others h
    where
      puts : Puts (tell turn (letters.Begin t)) after t
      puts = goes_puts w (tell turn (letters.Begin t)) (fresh t) g

      told_is : told after.outs ≡ told turn.outs ++ t ∷ []
      told_is = puts.same ∙ told_append turn.outs ((1, 0, letters.Begin t) ∷ [])

      others : (u : Txn) → (puts.now.txn.0 == u.0) ≡ false → has_txn (told after.outs) u ≡ true → has_txn (told turn.outs) u ≡ true
      others u e way =
          sym (no_more (has_txn (told turn.outs) u)) ∙ ap (λ b. has_txn (told turn.outs) u || b) (sym (subst (λ z. (z.0 == u.0) ≡ false) puts.its e)) ∙ sym (has_push (told turn.outs) t u) ∙ ap (λ ts. has_txn ts u) (sym told_is) ∙ way

  move_stays : {turn after : Turn SiteState} → Move w state from letter turn after → Stays turn → Stays after
  move_stays {turn = turn} (parts.begins s z l g) h = begins_stay (passed w turn) (next_of turn) g (record { all = h.all })
  move_stays {turn = turn} (parts.asks r i x s q f ph m y) h = silently turn (programs.ask turn r x) (record r { asks = r.asks + 1; phase = asking (r.asks + 1) x None }) refl (quiet turn.outs ((1, 0, letters.ReadAsk r.txn (r.asks + 1) x) ∷ []) refl) h
  move_stays {turn = turn} (parts.loses r told_reads writes awaited s f ph m) h = (let now : Running = record r { phase = preparing told_reads writes (parts.but s awaited) } in silently turn (programs.with_running turn now) now refl refl h)
  move_stays {turn = turn} (parts.joins r told_reads writes awaited s z f ph m y) h =
      let now : Running = record r { phase = preparing told_reads writes (programs.with_vote s awaited) } in
      silently turn (send (programs.with_running turn now) (prepare_out w turn.state.vector r.txn writes s)) now refl (quiet turn.outs (prepare_out w turn.state.vector r.txn writes s ∷ []) (unheard (s.0 + 1) (session turn.state.vector s) (letters.Prepare r.txn (programs.held_by w s writes)) refl)) h
  move_stays {turn = turn} (parts.commits r told_reads writes f ph m) h =
      let request : Request = record { reads = told_reads; writes = writes; under = turn.state.vector } in
      silently turn (tell (programs.with_running turn (record r { phase = sent })) (letters.CommitAsk r.txn request)) (record r { phase = sent }) refl (quiet turn.outs ((1, 0, letters.CommitAsk r.txn request) ∷ []) refl) h

  aborted_ended : (t : Txn) → has_aborted p t ≡ true → has_ended p t ≡ true
  aborted_ended t q = any_weaken (λ n. is_abort_of t n.entry) (λ n. is_end_of t n.entry) (λ n h. or_right (is_commit_of t n.entry) (is_abort_of t n.entry) h) p q

  sends : (n m : ℕ) (message : Message) (after : Turn SiteState) → after.state.running ≡ state.running → after.outs ≡ (let out : Out = (n, m, message) in out ∷ []) → begun_by message ≡ [] → Stays after
  sends n m message after same is none = stays_same (opened state) after same (ap told is ∙ unheard n m message none) start

  row_stays : {after : Turn SiteState} → Row w state from letter after → Stays after
  row_stays (parts.halts u f e) = absurd (not_monitor f)
  row_stays (parts.returns u f e) = absurd (not_monitor f)
  row_stays (parts.refuses i t writes u f l e) = sends (i + 2) letter.from (letters.Vote t (No letter.to state.session)) _ refl refl refl
  row_stays (parts.idle i) = start
  row_stays (parts.welcomed v z e) = stays_same (opened state) _ refl refl start
  row_stays (parts.served t ask x h z c e q o) = sends (h.0 + 1) z (letters.Value t ask c.value) _ refl refl refl
  row_stays (parts.notes r ask x q s f ph e) = silently (opened state) _ (record r { phase = asking ask x (Some s) }) refl refl start
  row_stays (parts.applied t number ps e q) = sends 1 0 (letters.Ack t) _ refl refl refl
  row_stays (parts.over t e) = stays_ends (opened state) _ t refl refl (committed_ended p t (subst (NoteSays w p (site (k + 1)) letter.to) e.is (note e.by)).0) start
  row_stays (parts.dropped t again e q) = stays_ends (opened state) _ t refl refl (aborted_ended t (subst (NoteSays w p (site (k + 1)) letter.to) e.is (note e.by))) start
  row_stays (parts.retried t e q g) =
      begins_stay (parts.drops state t) (programs.next_attempt w t) g (stays_ends (opened state) (parts.drops state t) t refl refl (aborted_ended t (subst (NoteSays w p (site (k + 1)) letter.to) e.is (note e.by))) start)
  row_stays (parts.falls s e) = stays_same (opened state) _ refl refl start
  row_stays (parts.rises s z e) = stays_same (opened state) _ refl refl start
  row_stays (parts.copies x target z c e q) = sends (target.0 + 1) z (letters.CopyValue x c.value c.version) _ refl refl refl
  row_stays (parts.staged i t writes e) = sends ((site (i + 1)).0 + 1) letter.from (letters.Vote t Yes) _ refl refl refl
  row_stays (parts.counts i r told_reads writes awaited f ph e q) = silently (opened state) _ (record r { phase = preparing told_reads writes (parts.but (site (i + 1)) awaited) }) refl refl start
  row_stays (parts.renewed i x v version c e q l) = sends 1 0 (letters.CopyDone x version) _ refl refl refl
  row_stays (parts.given r ask x q v f ph g gg) = goes_stay (opened state) (record r { answers = _ }) gg start

  pub step_stays : Ascend state.running → Stays (hear_site w state from letter)
  step_stays ascend = step_keeps w state from letter Stays (λ after r. row_stays r) (λ turn after move a h. move_stays move h) ascend
