-- A step of a site keeps it that each ask of its programs was answered or is on its way, and that Begins are sent before asks.
use Rattle.std.proofs.Common.{◌≡◌, ◌⊎◌, inl, inr, ℕ, ◌+◌, ◌==◌, Bool, true, false, ◌||◌, List, [], ◌∷◌, ◌++◌, map, Option, Some, None, if◌then◌else◌, sym, subst, ap, ◌∙◌, refl, append-nil, append_assoc}
use Rattle.std.proofs.lemmas.Bool.{true≢false}
use Rattle.std.proofs.lemmas.List.Folds.{list_any-append}
use Rattle.raid_base.specs.declared.names.Txn.{Txn}
use Rattle.raid_base.specs.declared.names.Item.{Item}
use Rattle.raid_base.specs.declared.names.Site.{Site}
use Rattle.raid_base.specs.declared.request.Request.{Request}
use Rattle.raid_base.specs.declared.entry.Answer.TheVariants.{Yes, No}
use Rattle.raid_base.specs.declared.entry.Cause.{Cause}
use Rattle.raid_base.specs.declared.entry.Cause.TheVariants as causes
use Rattle.raid_base.specs.declared.entry.Noted.{Noted}
use Rattle.raid_base.specs.Names.{is_txn, has_txn}
use Rattle.raid_base.specs.Sites.{site}
use Rattle.raid_program.specs.Run.{put}
use Rattle.raid_workload.specs.declared.workload.Workload.{Workload}
use Rattle.raid_rules.specs.Entries.{is_commit_of, is_abort_of, is_end_of}
use Rattle.raid_rules.specs.History.{has_begun, has_aborted, has_ended}
use Rattle.raid_rules.specs.Order.{IsWhole}
use Rattle.raid_rules.proofs.Push.{same_txn}
use Rattle.raid_legal.specs.Seen.{holds_some}
use Rattle.raid_message.specs.declared.letter.Message.{Message}
use Rattle.raid_message.specs.declared.letter.Message.TheVariants as letters
use Rattle.raid_message.specs.declared.letter.Letter.{Letter}
use Rattle.raid_steps.specs.State.{Out, Turn, opened, tell, Phase, asking, preparing, sent, Running, SiteState}
use Rattle.raid_steps.specs.Copies.{stage}
use Rattle.raid_steps.specs.Programs as programs
use Rattle.raid_steps.specs.Programs.{put_running, running_of, prepare_out, voters}
use Rattle.raid_sessions.proofs.Lists.{same_self}
use Rattle.raid_moves.specs.Moves as parts
use Rattle.raid_moves.specs.Moves.{comes_to, Goes, Begins, fresh, Row, next_of, passed, Move, Moves}
use Rattle.raid_asks.specs.Way.{begun_by}
use Rattle.raid_asks.proofs.Facts.{or_left, or_right, any_weaken}
use Rattle.raid_asks.proofs.Line.{Line}
use Rattle.raid_asks.proofs.Programs.{told, told_append}
use Rattle.raid_letters.specs.Says.{NoteSays}
use Rattle.raid_layers.specs.Asks.{ask_of}
use Rattle.raid_layers.proofs.AtSite.{goes_extends, moves_extend}
use Rattle.raid_layers.proofs.Histories.{fresh_unended, committed_ended}
use Rattle.raid_layers.proofs.Turns.{line_new, asked_more, asked_same}
use Rattle.raid_answered.proofs.Counts.{ends_asked, Balance, fresh_balance, item_more, end_more}
use Rattle.raid_answered.proofs.Turns.{AreMute, mute_none, mute_one, mute_prepared, Books, asked, IsBegun, Kept, further, kept_sends, kept_puts, kept_ends}

-- what asks for one transaction, where it is known whether it is this one
known_asked : (message : Message) (b c : Bool) → b ≡ c → (if b then message ∷ [] else []) ++ [] ≡ (if c then message ∷ [] else []) ++ []
known_asked message b c q = ap (λ d. (if d then message ∷ [] else []) ++ []) q

module _ (w : Workload) (p : List Noted) (k : ℕ) (state : SiteState) (from clock : ℕ) (letter : Letter) (bs : List Txn) (asks : List Letter) (whole : IsWhole p) (note : from ≡ 1 → NoteSays w p (site (k + 1)) letter.to letter.message) (not_monitor : from ≡ 0 → ⊥) where
  abbrev m : ℕ
  m = state.session

  abbrev pub K : Turn SiteState → Type 0
  K turn = Kept p state.session clock asks bs turn

  abbrev now_asked : Txn → List Out → List Message
  now_asked t outs = asked p state.session clock asks bs t outs

  -- of a program that goes on, each ask for an item was answered or is on its way, and none for its end
  abbrev IsReady : Turn SiteState → Running → Type 0
  IsReady turn r = (has_ended p r.txn ≡ true) ⊎ Balance p r.txn (now_asked r.txn turn.outs) r.asks 0

  -- it asks for an item, or for its end
  asks_more : (turn after : Turn SiteState) (r now : Running) (message : Message) → now.txn ≡ r.txn → after.state.running ≡ put_running now turn.state.running → after.outs ≡ turn.outs ++ (1, 0, message) ∷ [] →
      ((t : Txn) → ask_of t message ≡ (if is_txn t r.txn then message ∷ [] else [])) → told ((1, 0, message) ∷ []) ≡ [] →
      (Balance p r.txn (now_asked r.txn turn.outs) r.asks 0 → Balance p r.txn (now_asked r.txn turn.outs ++ message ∷ []) now.asks (ends_asked now.phase)) → IsBegun p m clock asks bs r.txn turn.outs → IsReady turn r → K turn → K after
  asks_more turn after r now message its put more asked_of quiet balance known ready kept =
      kept_puts p m clock asks bs turn after now ((1, 0, message) ∷ []) put more quiet (λ t d. ap (λ ms. ms ++ []) (asked_of t) ∙ known_asked message (is_txn t r.txn) false (subst (λ u. (u.0 == t.0) ≡ false) its d))
      (subst (λ u. Books p u (now_asked u (turn.outs ++ (1, 0, message) ∷ [])) (Some now)) (sym its) (books ready)) (subst (λ u. IsBegun p m clock asks bs u turn.outs) (sym its) known) kept
    where
      own : now_asked r.txn (turn.outs ++ (1, 0, message) ∷ []) ≡ now_asked r.txn turn.outs ++ message ∷ []
      own = asked_more p [] 0 m asks bs r.txn turn.outs ((1, 0, message) ∷ []) ∙ ap (λ ms. now_asked r.txn turn.outs ++ (ms ++ [])) (asked_of r.txn) ∙ ap (λ ms. now_asked r.txn turn.outs ++ ms) (known_asked message (is_txn r.txn r.txn) true (same_self r.txn.0))

      books : IsReady turn r → (has_ended p r.txn ≡ true) ⊎ Balance p r.txn (now_asked r.txn (turn.outs ++ (1, 0, message) ∷ [])) now.asks (ends_asked now.phase)
      books (inl over) = inl over
      books (inr b) = inr (subst (λ ms. Balance p r.txn ms now.asks (ends_asked now.phase)) (sym own) (balance b))

  asks_item_more : (turn : Turn SiteState) (r : Running) (x : Item) → IsBegun p m clock asks bs r.txn turn.outs → IsReady turn r → K turn → K (programs.ask turn r x)
  asks_item_more turn r x known ready kept =
      asks_more turn (programs.ask turn r x) r (record r { asks = r.asks + 1; phase = asking (r.asks + 1) x None }) (letters.ReadAsk r.txn (r.asks + 1) x) refl refl refl (λ t. refl) refl
      (λ b. item_more p r.txn (now_asked r.txn turn.outs) r.txn (r.asks + 1) x r.asks 0 b) known ready kept

  ends_kept : (turn : Turn SiteState) (r : Running) (cause : Cause) → IsBegun p m clock asks bs r.txn turn.outs → IsReady turn r → K turn → K (programs.end_by turn r cause (comes_to w r))
  ends_kept turn r cause known ready kept =
      asks_more turn (programs.end_by turn r cause (comes_to w r)) r (record r { phase = sent }) (letters.EndAsk r.txn cause (comes_to w r).reads) refl refl refl (λ t. refl) refl
      (λ b. end_more p r.txn (now_asked r.txn turn.outs) (letters.EndAsk r.txn cause (comes_to w r).reads) r.asks refl b) known ready kept

  -- its phase alone is changed, and nothing is asked
  turns_kept : (turn after : Turn SiteState) (r : Running) (new : Phase) (outs : List Out) → after.state.running ≡ put_running (record r { phase = new }) turn.state.running → after.outs ≡ turn.outs ++ outs → AreMute outs → ends_asked new ≡ 0 → IsBegun p m clock asks bs r.txn turn.outs → IsReady turn r → K turn → K after
  turns_kept turn after r new outs put more mute yet known ready kept =
      kept_puts p m clock asks bs turn after (record r { phase = new }) outs put more mute.begins (λ t d. mute.asks t) (books ready) known kept
    where
      books : IsReady turn r → (has_ended p r.txn ≡ true) ⊎ Balance p r.txn (now_asked r.txn (turn.outs ++ outs)) r.asks (ends_asked new)
      books (inl over) = inl over
      books (inr b) = inr (subst (λ ms. Balance p r.txn ms r.asks (ends_asked new)) (sym (asked_same p [] 0 m asks bs r.txn turn.outs outs (mute.asks r.txn))) (subst (Balance p r.txn (now_asked r.txn turn.outs) r.asks) (sym yet) b))

  goes_kept : (turn : Turn SiteState) (r : Running) {after : Turn SiteState} → Goes w turn r after → IsBegun p m clock asks bs r.txn turn.outs → IsReady turn r → K turn → K after
  goes_kept turn r (parts.reads_next x e) known ready kept = asks_item_more turn r x known ready kept
  goes_kept turn r (parts.prepares e) known ready kept =
      turns_kept turn (programs.prepare w turn r (comes_to w r)) r (preparing (comes_to w r).reads (comes_to w r).writes vs) (map (prepare_out w turn.state.vector r.txn (comes_to w r).writes) vs) (runs (holds_some w (comes_to w r).writes turn.state.site)) refl
      (mute_prepared w turn.state.vector r.txn (comes_to w r).writes vs) refl known ready kept
    where
      vs : List Site
      vs = voters w turn.state (comes_to w r).writes

      now : Running
      now = record r { phase = preparing (comes_to w r).reads (comes_to w r).writes vs }

      runs : (b : Bool) → (let s : SiteState = (if b then record (turn.state) { staged = stage r.txn (programs.held_by w turn.state.site (comes_to w r).writes) turn.state.staged } else turn.state) in put_running now s.running) ≡ put_running now turn.state.running
      runs true = refl
      runs false = refl
  goes_kept turn r (parts.stops e) known ready kept = ends_kept turn r causes.Own known ready kept
  goes_kept turn r (parts.overflows e) known ready kept = ends_kept turn r causes.Overflow known ready kept

  -- a transaction begins
  begun_new : (turn : Turn SiteState) (t : Txn) (last : Turn SiteState) (more : List Out) → last.outs ≡ (turn.outs ++ (1, 0, letters.Begin t) ∷ []) ++ more → Line w (site (k + 1)) p (bs ++ told last.outs) → (has_begun p t ≡ false) × (has_txn (bs ++ told turn.outs) t ≡ false)
  begun_new turn t last more is line =
      let told_is = ap told is ∙ told_append (turn.outs ++ (1, 0, letters.Begin t) ∷ []) more ∙ ap (λ ts. ts ++ told more) (told_append turn.outs ((1, 0, letters.Begin t) ∷ [])) ∙ append_assoc (told turn.outs) (t ∷ []) (told more) in
      line_new w (site (k + 1)) p (bs ++ told turn.outs) (told more) t (subst (Line w (site (k + 1)) p) (ap (λ ts. bs ++ ts) told_is ∙ sym (append_assoc bs (told turn.outs) (t ∷ told more))) line)

  begins_kept : (turn : Turn SiteState) (t : Txn) {after : Turn SiteState} → Begins w turn t after → (last : Turn SiteState) (more : List Out) → last.outs ≡ after.outs ++ more → Line w (site (k + 1)) p (bs ++ told last.outs) → K turn → K after
  begins_kept turn t {after} g last more is line kept =
      goes_kept (tell turn (letters.Begin t)) (fresh t) g (inr known)
      (inr (subst (λ ms. Balance p t ms 0 0) (sym (asked_same p [] 0 m asks bs t turn.outs ((1, 0, letters.Begin t) ∷ []) refl ∙ silent)) (fresh_balance p whole t new.0)))
      (record {
        books = λ u. subst (λ ms. Books p u ms (running_of turn.state u)) (sym (asked_same p [] 0 m asks bs u turn.outs ((1, 0, letters.Begin t) ∷ []) refl)) (kept.books u);
        known = λ u r f. more_known u (kept.known u r f);
        first = λ u. further p m clock asks bs u turn.outs ((1, 0, letters.Begin t) ∷ []) (kept.first u) (inl refl, tt) (cross u (t.0 == u.0) refl);
      })
    where
      further_outs : (outs : List Out) × (after.outs ≡ (tell turn (letters.Begin t)).outs ++ outs)
      further_outs = goes_extends w (tell turn (letters.Begin t)) (fresh t) g

      new : (has_begun p t ≡ false) × (has_txn (bs ++ told turn.outs) t ≡ false)
      new = begun_new turn t last (further_outs.0 ++ more) (is ∙ ap (λ outs. outs ++ more) further_outs.1 ∙ append_assoc (turn.outs ++ (1, 0, letters.Begin t) ∷ []) further_outs.0 more) line

      silent : now_asked t turn.outs ≡ []
      silent = go (running_of turn.state t) refl (kept.books t)
        where
          go : (o : Option Running) → running_of turn.state t ≡ o → Books p t (now_asked t turn.outs) (running_of turn.state t) → now_asked t turn.outs ≡ []
          go None f b = elim (subst (Books p t (now_asked t turn.outs)) f b) [
            | inl over ↦ absurd (true≢false (sym over ∙ fresh_unended p whole t new.0))
            | inr e ↦ e
          ]
          go (Some r) f b = elim (kept.known t r f) [
            | inl begun ↦ absurd (true≢false (sym begun ∙ new.0))
            | inr way ↦ absurd (true≢false (sym way ∙ new.1))
          ]

      more_known : (u : Txn) → IsBegun p m clock asks bs u turn.outs → IsBegun p m clock asks bs u (turn.outs ++ (1, 0, letters.Begin t) ∷ [])
      more_known u (inl begun) = inl begun
      more_known u (inr way) =
          inr (ap (λ ts. has_txn (bs ++ ts) u) (told_append turn.outs ((1, 0, letters.Begin t) ∷ [])) ∙ ap (λ ts. has_txn ts u) (sym (append_assoc bs (told turn.outs) (t ∷ []))) ∙ list_any-append (is_txn u) (bs ++ told turn.outs) (t ∷ [])
          ∙ or_left (has_txn (bs ++ told turn.outs) u) (has_txn (t ∷ []) u) way)

      known : has_txn (bs ++ told (turn.outs ++ (1, 0, letters.Begin t) ∷ [])) t ≡ true
      known =
          ap (λ ts. has_txn (bs ++ ts) t) (told_append turn.outs ((1, 0, letters.Begin t) ∷ [])) ∙ list_any-append (is_txn t) bs (told turn.outs ++ t ∷ [])
          ∙ or_right (has_txn bs t) (has_txn (told turn.outs ++ t ∷ []) t) (list_any-append (is_txn t) (told turn.outs) (t ∷ []) ∙ or_right (has_txn (told turn.outs) t) (is_txn t t || false) (or_left (is_txn t t) false (same_self t.0)))

      cross : (u : Txn) (b : Bool) → (t.0 == u.0) ≡ b → (now_asked u turn.outs ≡ []) ⊎ (has_txn (t ∷ []) u ≡ false)
      cross u true e = inl (subst (λ z. now_asked z turn.outs ≡ []) (same_txn t u e) silent)
      cross u false e = inr (ap (λ b. b || false) e)

  -- what the books say of a program that is found in a turn, and hasn't asked for its end
  ready : (turn : Turn SiteState) (r : Running) (phase : Phase) → running_of turn.state r.txn ≡ Some r → r.phase ≡ phase → ends_asked phase ≡ 0 → K turn → IsReady turn r
  ready turn r phase f is yet kept = elim (subst (Books p r.txn (now_asked r.txn turn.outs)) f (kept.books r.txn)) [
    | inl over ↦ inl over
    | inr b ↦ inr (subst (Balance p r.txn (now_asked r.txn turn.outs) r.asks) (ap ends_asked is ∙ yet) b)
  ]

  -- moves
  move_kept : {turn after : Turn SiteState} → Move w state from letter turn after → (last : Turn SiteState) (more : List Out) → last.outs ≡ after.outs ++ more → Line w (site (k + 1)) p (bs ++ told last.outs) → K turn → K after
  move_kept {turn = turn} (parts.begins s z l g) last more is line kept = begins_kept (passed w turn) (next_of turn) g last more is line (record { books = kept.books; known = kept.known; first = kept.first })
  move_kept {turn = turn} (parts.asks r ask x s q f ph tells y) last more is line kept = asks_item_more turn r x (kept.known r.txn r f) (ready turn r (asking ask x (Some q)) f ph refl kept) kept
  move_kept {turn = turn} (parts.loses r told_reads writes awaited s f ph tells) last more is line kept =
      turns_kept turn _ r (preparing told_reads writes (parts.but s awaited)) [] refl (sym (append-nil turn.outs)) mute_none refl (kept.known r.txn r f) (ready turn r (preparing told_reads writes awaited) f ph refl kept) kept
  move_kept {turn = turn} (parts.joins r told_reads writes awaited s z f ph tells y) last more is line kept =
      turns_kept turn _ r (preparing told_reads writes (programs.with_vote s awaited)) (prepare_out w turn.state.vector r.txn writes s ∷ []) refl refl (mute_prepared w turn.state.vector r.txn writes (s ∷ [])) refl (kept.known r.txn r f) (ready turn r (preparing told_reads writes awaited) f ph refl kept) kept
  move_kept {turn = turn} (parts.commits r told_reads writes f ph heard) last more is line kept =
      let request : Request = record { reads = told_reads; writes = writes; under = turn.state.vector } in
      asks_more turn (tell (programs.with_running turn (record r { phase = sent })) (letters.CommitAsk r.txn request)) r (record r { phase = sent }) (letters.CommitAsk r.txn request) refl refl refl (λ t. refl) refl
      (λ b. end_more p r.txn (now_asked r.txn turn.outs) (letters.CommitAsk r.txn request) r.asks refl b) (kept.known r.txn r f) (ready turn r (preparing told_reads writes []) f ph refl kept) kept

  moves_kept : {turn last : Turn SiteState} → Moves w state from letter turn last → Line w (site (k + 1)) p (bs ++ told last.outs) → K turn → K last
  moves_kept parts.done line kept = kept
  moves_kept {last = last} (parts.moves move others) line kept = (let more = moves_extend w state from letter others in moves_kept others line (move_kept move last more.0 more.1 line kept))

  aborted_ended : (t : Txn) → has_aborted p t ≡ true → has_ended p t ≡ true
  aborted_ended t q = any_weaken (λ n. is_abort_of t n.entry) (λ n. is_end_of t n.entry) (λ n h. or_right (is_commit_of t n.entry) (is_abort_of t n.entry) h) p q

  -- the row
  module _ (start : K (opened state)) where
    sends : (after : Turn SiteState) (n to : ℕ) (message : Message) → after.state.running ≡ state.running → after.outs ≡ (let out : Out = (n, to, message) in out ∷ []) → ((t : Txn) → ask_of t message ≡ []) → begun_by message ≡ [] → K after
    sends after n to message same more none quiet = kept_sends p m clock asks bs (opened state) after ((n, to, message) ∷ []) same more (mute_one n to message none quiet) start

    still : (after : Turn SiteState) → after.state.running ≡ state.running → after.outs ≡ [] → K after
    still after same none = kept_sends p m clock asks bs (opened state) after [] same none mute_none start

    row_kept : {after : Turn SiteState} → Row w state from letter after → (last : Turn SiteState) (more : List Out) → last.outs ≡ after.outs ++ more → Line w (site (k + 1)) p (bs ++ told last.outs) → K after
    row_kept (parts.halts u f e) last more is line = absurd (not_monitor f)
    row_kept (parts.returns u f e) last more is line = absurd (not_monitor f)
    row_kept (parts.refuses i t writes u f l e) last more is line = sends _ (i + 2) letter.from (letters.Vote t (No letter.to state.session)) refl refl (λ t. refl) refl
    row_kept (parts.idle i) last more is line = start
    row_kept (parts.welcomed v z e) last more is line = still _ refl refl
    row_kept (parts.served t ask x h z c e q o) last more is line = sends _ (h.0 + 1) z (letters.Value t ask c.value) refl refl (λ t. refl) refl
    row_kept (parts.notes r ask x q s f ph e) last more is line =
        turns_kept (opened state) _ r (asking ask x (Some s)) [] refl refl mute_none refl (start.known r.txn r f) (ready (opened state) r (asking ask x q) f ph refl start) start
    row_kept (parts.applied t number ps e q) last more is line = sends _ 1 0 (letters.Ack t) refl refl (λ t. refl) refl
    row_kept (parts.over t e) last more is line = kept_ends p m clock asks bs (opened state) _ t refl refl (committed_ended p t (subst (NoteSays w p (site (k + 1)) letter.to) e.is (note e.by)).0) start
    row_kept (parts.dropped t again e q) last more is line = kept_ends p m clock asks bs (opened state) _ t refl refl (aborted_ended t (subst (NoteSays w p (site (k + 1)) letter.to) e.is (note e.by))) start
    row_kept (parts.retried t e q g) last more is line =
        begins_kept (parts.drops state t) (programs.next_attempt w t) g last more is line (kept_ends p m clock asks bs (opened state) (parts.drops state t) t refl refl (aborted_ended t (subst (NoteSays w p (site (k + 1)) letter.to) e.is (note e.by))) start)
    row_kept (parts.falls s e) last more is line = still _ refl refl
    row_kept (parts.rises s z e) last more is line = still _ refl refl
    row_kept (parts.copies x target z c e q) last more is line = sends _ (target.0 + 1) z (letters.CopyValue x c.value c.version) refl refl (λ t. refl) refl
    row_kept (parts.staged i t writes e) last more is line = sends _ ((site (i + 1)).0 + 1) letter.from (letters.Vote t Yes) refl refl (λ t. refl) refl
    row_kept (parts.counts i r told_reads writes awaited f ph e q) last more is line =
        turns_kept (opened state) _ r (preparing told_reads writes (parts.but (site (i + 1)) awaited)) [] refl refl mute_none refl (start.known r.txn r f) (ready (opened state) r (preparing told_reads writes awaited) f ph refl start) start
    row_kept (parts.renewed i x v version c e q l) last more is line = sends _ 1 0 (letters.CopyDone x version) refl refl (λ t. refl) refl
    row_kept (parts.given r ask x q v f ph g gg) last more is line =
        goes_kept (opened state) (record r { answers = put r.answers x v }) gg (start.known r.txn r f) (ready (opened state) r (asking ask x q) f ph refl start) start

  -- the step
  pub step_kept : (last : Turn SiteState) → parts.Reached w state from letter last → Line w (site (k + 1)) p (bs ++ told last.outs) → K (opened state) → K last
  step_kept last (after, (row, others)) line start = (let more = moves_extend w state from letter others in moves_kept others line (row_kept start row last more.0 more.1 line))
