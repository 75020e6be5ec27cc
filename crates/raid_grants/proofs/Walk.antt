-- What a step of a home makes of its programs that wait: they wait as before, or they have asked for more than was granted, or have begun.
use Rattle.std.proofs.Common.{◌≡◌, ◌⊎◌, inl, inr, ℕ, ℤ, ◌+◌, ◌<◌, ◌≤◌, ◌==◌, Bool, true, false, not, ◌||◌, List, [], ◌∷◌, ◌++◌, map, filter, Option, Some, None, if◌then◌else◌, arith, sym, subst, ap, ◌∙◌, refl, append-nil}
use Rattle.std.proofs.lemmas.List.Folds.{list_any-append}
use Rattle.raid_base.specs.declared.names.Txn.{Txn}
use Rattle.raid_base.specs.declared.names.Item.{Item}
use Rattle.raid_base.specs.declared.names.Site.{Site}
use Rattle.raid_base.specs.declared.request.Request.{Request}
use Rattle.raid_base.specs.declared.entry.Answer.TheVariants.{Yes, No}
use Rattle.raid_base.specs.declared.entry.Cause.TheVariants as causes
use Rattle.raid_base.specs.declared.entry.Noted.{Noted}
use Rattle.raid_base.specs.Names.{is_txn, has_txn}
use Rattle.raid_base.specs.Sites.{site}
use Rattle.raid_workload.specs.declared.workload.Workload.{Workload}
use Rattle.raid_rules.specs.History.{has_ended}
use Rattle.raid_rules.proofs.Push.{same_txn}
use Rattle.raid_legal.specs.Seen.{holds_some}
use Rattle.raid_message.specs.declared.letter.Message.{Message}
use Rattle.raid_message.specs.declared.letter.Message.TheVariants as letters
use Rattle.raid_message.specs.declared.letter.Letter.{Letter}
use Rattle.raid_steps.specs.State.{Out, Turn, opened, send, tell, Phase, asking, preparing, sent, Running, SiteState}
use Rattle.raid_steps.specs.Copies.{stage}
use Rattle.raid_steps.specs.Programs as programs
use Rattle.raid_steps.specs.Programs.{put_running, running_of, prepare_out, voters}
use Rattle.raid_steps.specs.Site.{hear_site}
use Rattle.raid_sessions.proofs.Lists.{same_self}
use Rattle.raid_moves.specs.Moves as parts
use Rattle.raid_moves.specs.Moves.{Ascend, Tells, Given, comes_to, Goes, fresh, Row, next_of, passed, Move}
use Rattle.raid_moves.proofs.Places.{program_of, put_found, put_other}
use Rattle.raid_moves.proofs.Steps.{step_keeps}
use Rattle.raid_asks.proofs.Facts.{or_left, or_right}
use Rattle.raid_asks.proofs.Programs.{told, told_append}
use Rattle.raid_layers.specs.Asks.{ask_of}
use Rattle.raid_layers.proofs.Turns.{asked_by, asked_append, filtered_out, filtered_other}
use Rattle.raid_witness.specs.Ended.{count_reads}

-- what asks for nothing
unasking : (n to : ℕ) (message : Message) → ((t : Txn) → ask_of t message ≡ []) → (t : Txn) → asked_by t (let out : Out = (n, to, message) in out ∷ []) ≡ []
unasking n to message none t = go (n == 1)
  where
    go : (b : Bool) → (if b then ask_of t message ++ [] else []) ≡ []
    go true = ap (λ ms. ms ++ []) (none t)
    go false = refl

prepared : (w : Workload) (v : List ℕ) (u : Txn) (writes : List (Item × ℤ)) (ss : List Site) (t : Txn) → asked_by t (map (prepare_out w v u writes) ss) ≡ []
prepared w v u writes [] t = refl
prepared w v u writes (s ∷ ss) t = go (s.0 + 1 == 1) (prepared w v u writes ss t)
  where
    go : (b : Bool) → asked_by t (map (prepare_out w v u writes) ss) ≡ [] → (if b then asked_by t (map (prepare_out w v u writes) ss) else asked_by t (map (prepare_out w v u writes) ss)) ≡ []
    go true q = q
    go false q = q

-- what asks for one transaction alone
one_else : (message : Message) (b : Bool) → b ≡ false → ((if b then message ∷ [] else []) ++ []) ≡ []
one_else message b q = ap (λ c. (if c then message ∷ [] else []) ++ []) q

module _ (w : Workload) (p : List Noted) (state : SiteState) (from : ℕ) (letter : Letter) (not_monitor : from ≡ 0 → ⊥)
    (counts : (t : Txn) (r : Running) (ask : ℕ) (x : Item) (o : Option Site) → running_of state t ≡ Some r → r.phase ≡ asking ask x o → has_ended p t ≡ false → (ask ≡ r.asks) × (count_reads p t < ask + 1)) where
  -- a program waits as it did before the step, but that it may know now who serves
  pub record Old (turn : Turn SiteState) (t : Txn) (ask : ℕ) (x : Item) (o : Option Site) : Type 0 where
    pub was : Running
    pub knew : Option Site
    pub ran : running_of state t ≡ Some was
    pub phase : was.phase ≡ asking ask x knew
    pub unasked : asked_by t turn.outs ≡ []
    pub knows : (o ≡ knew) ⊎ ((s : Site) × (Tells w state from letter (letters.Serving t ask s) × (o ≡ Some s)))

  -- it has asked for more than was granted, or has begun
  abbrev pub New : Turn SiteState → Txn → ℕ → Type 0
  New turn t ask = (1 ≤ ask) × ((count_reads p t < ask) ⊎ (has_txn (told turn.outs) t ≡ true))

  abbrev pub Keeps : Turn SiteState → Type 0
  Keeps turn =
      (t : Txn) (r : Running) (ask : ℕ) (x : Item) (o : Option Site) → running_of turn.state t ≡ Some r → r.phase ≡ asking ask x o → has_ended p t ≡ false →
      (ask ≡ r.asks) × (Old turn t ask x o ⊎ New turn t ask)

  start : Keeps (opened state)
  start t r ask x o f ph still = ((counts t r ask x o f ph still).0, inl (record { was = r; knew = o; ran = f; phase = ph; unasked = refl; knows = inl refl }))

  told_more : (outs new : List Out) (t : Txn) → has_txn (told outs) t ≡ true → has_txn (told (outs ++ new)) t ≡ true
  told_more outs new t q = ap (λ ts. has_txn ts t) (told_append outs new) ∙ list_any-append (is_txn t) (told outs) (told new) ∙ or_left (has_txn (told outs) t) (has_txn (told new) t) q

  on : (turn after : Turn SiteState) (new : List Out) → after.outs ≡ turn.outs ++ new → (t : Txn) (ask : ℕ) (x : Item) (o : Option Site) → asked_by t new ≡ [] → Old turn t ask x o ⊎ New turn t ask → Old after t ask x o ⊎ New after t ask
  on turn after new more t ask x o none (inl old) =
      inl (record { was = old.was; knew = old.knew; ran = old.ran; phase = old.phase; unasked = ap (asked_by t) more ∙ asked_append t turn.outs new ∙ ap (λ ms. ms ++ asked_by t new) old.unasked ∙ none; knows = old.knows })
  on turn after new more t ask x o none (inr (some, inl few)) = inr (some, inl few)
  on turn after new more t ask x o none (inr (some, inr way)) = inr (some, inr (subst (λ outs. has_txn (told outs) t ≡ true) (sym more) (told_more turn.outs new t way)))

  keeps_sends : (turn after : Turn SiteState) (new : List Out) → after.state.running ≡ turn.state.running → after.outs ≡ turn.outs ++ new → ((t : Txn) → asked_by t new ≡ []) → Keeps turn → Keeps after
  keeps_sends turn after new same more none h t r ask x o f ph still = (let a = h t r ask x o (ap (program_of t) (sym same) ∙ f) ph still in (a.0, on turn after new more t ask x o (none t) a.1))

  keeps_puts : (turn after : Turn SiteState) (now : Running) (new : List Out) → after.state.running ≡ put_running now turn.state.running → after.outs ≡ turn.outs ++ new → ((t : Txn) → (now.txn.0 == t.0) ≡ false → asked_by t new ≡ []) →
      ((ask : ℕ) (x : Item) (o : Option Site) → now.phase ≡ asking ask x o → has_ended p now.txn ≡ false → (ask ≡ now.asks) × (Old after now.txn ask x o ⊎ New after now.txn ask)) → Keeps turn → Keeps after
  keeps_puts turn after now new put more none its h t r ask x o f ph still = go (now.txn.0 == t.0) refl
    where
      own : (u : Txn) → now.txn ≡ u → program_of u (put_running now turn.state.running) ≡ Some r → has_ended p u ≡ false → (ask ≡ r.asks) × (Old after u ask x o ⊎ New after u ask)
      own u e g alive = subst (λ z. (ask ≡ r.asks) × (Old after z ask x o ⊎ New after z ask)) e (subst (λ z. (ask ≡ z.asks) × (Old after now.txn ask x o ⊎ New after now.txn ask)) is (its ask x o (ap (λ (z : Running). z.phase) is ∙ ph) (subst (λ z. has_ended p z ≡ false) (sym e) alive)))
        where
          is : now ≡ r
          is = some_same (sym (subst (λ z. program_of z (put_running now turn.state.running) ≡ Some now) e (put_found now turn.state.running)) ∙ g)
            where
              some_same : Some now ≡ Some r → now ≡ r
              some_same e = cc e

      go : (b : Bool) → (now.txn.0 == t.0) ≡ b → (ask ≡ r.asks) × (Old after t ask x o ⊎ New after t ask)
      go true e = own t (same_txn now.txn t e) (ap (program_of t) (sym put) ∙ f) still
      go false e = (let a = h t r ask x o (sym (put_other t now turn.state.running e) ∙ ap (program_of t) (sym put) ∙ f) ph still in (a.0, on turn after new more t ask x o (none t e) a.1))

  keeps_ends : (turn after : Turn SiteState) (t : Txn) → after.state.running ≡ filter (λ (r : Running). not (is_txn t r.txn)) turn.state.running → after.outs ≡ turn.outs → Keeps turn → Keeps after
  keeps_ends turn after t less same h u r ask x o f ph still = go (t.0 == u.0) refl
    where
      left : List Running
      left = filter (λ (r : Running). not (is_txn t r.txn)) turn.state.running

      go : (b : Bool) → (t.0 == u.0) ≡ b → (ask ≡ r.asks) × (Old after u ask x o ⊎ New after u ask)
      go true e = absurd (cc (sym (filtered_out t turn.state.running) ∙ subst (λ z. program_of z left ≡ Some r) (sym (same_txn t u e)) (ap (program_of u) (sym less) ∙ f)))
      go false e = (let a = h u r ask x o (sym (filtered_other t u turn.state.running e) ∙ ap (program_of u) (sym less) ∙ f) ph still in (a.0, on turn after [] (same ∙ sym (append-nil turn.outs)) u ask x o refl a.1))

  -- a phase in which it doesn't wait
  never : {X : Type 0} (phase : Phase) → ((ask : ℕ) (x : Item) (o : Option Site) → phase ≡ asking ask x o → ⊥) → (ask : ℕ) (x : Item) (o : Option Site) → phase ≡ asking ask x o → X
  never phase n ask x o e = absurd (n ask x o e)

  -- a program asks, with what was granted it before
  asks_keep : (turn : Turn SiteState) (r : Running) (x : Item) → (has_ended p r.txn ≡ false → (count_reads p r.txn < r.asks + 1) ⊎ (has_txn (told turn.outs) r.txn ≡ true)) → Keeps turn → Keeps (programs.ask turn r x)
  asks_keep turn r x fine h =
      keeps_puts turn (programs.ask turn r x) now new refl refl (λ t d. one_else (letters.ReadAsk r.txn (r.asks + 1) x) (is_txn t r.txn) d) its h
    where
      now : Running
      now = record r { asks = r.asks + 1; phase = asking (r.asks + 1) x None }

      new : List Out
      new = (1, 0, letters.ReadAsk r.txn (r.asks + 1) x) ∷ []

      its : (ask : ℕ) (y : Item) (o : Option Site) → now.phase ≡ asking ask y o → has_ended p r.txn ≡ false → (ask ≡ r.asks + 1) × (Old (programs.ask turn r x) r.txn ask y o ⊎ New (programs.ask turn r x) r.txn ask)
      its ask y o ph still =
          let number : r.asks + 1 ≡ ask = cc ph in (
            sym number,
            inr (
              omega (arith, number),
              elim (fine still) [
                | inl few ↦ inl (omega (arith, few, number))
                | inr way ↦ inr (told_more turn.outs new r.txn way)
              ],
            ),
          )

  goes_keep : (turn : Turn SiteState) (r : Running) {after : Turn SiteState} → Goes w turn r after → (has_ended p r.txn ≡ false → (count_reads p r.txn < r.asks + 1) ⊎ (has_txn (told turn.outs) r.txn ≡ true)) → Keeps turn → Keeps after
  goes_keep turn r (parts.reads_next x e) fine h = asks_keep turn r x fine h
  goes_keep turn r (parts.prepares e) fine h =
      keeps_puts turn (programs.prepare w turn r (comes_to w r)) now (map (prepare_out w turn.state.vector r.txn (comes_to w r).writes) vs) (runs (holds_some w (comes_to w r).writes turn.state.site)) refl (λ t d. prepared w turn.state.vector r.txn (comes_to w r).writes vs t)
      (λ ask x o ph still. absurd (cc ph)) h
    where
      vs : List Site
      vs = voters w turn.state (comes_to w r).writes

      now : Running
      now = record r { phase = preparing (comes_to w r).reads (comes_to w r).writes vs }

      runs : (b : Bool) → (let s : SiteState = (if b then record (turn.state) { staged = stage r.txn (programs.held_by w turn.state.site (comes_to w r).writes) turn.state.staged } else turn.state) in put_running now s.running) ≡ put_running now turn.state.running
      runs true = refl
      runs false = refl
  goes_keep turn r (parts.stops e) fine h =
      keeps_puts turn (programs.end_by turn r causes.Own (comes_to w r)) (record r { phase = sent }) ((1, 0, letters.EndAsk r.txn causes.Own (comes_to w r).reads) ∷ []) refl refl (λ t d. one_else (letters.EndAsk r.txn causes.Own (comes_to w r).reads) (is_txn t r.txn) d) (λ ask x o ph still. absurd (cc ph)) h
  goes_keep turn r (parts.overflows e) fine h =
      keeps_puts turn (programs.end_by turn r causes.Overflow (comes_to w r)) (record r { phase = sent }) ((1, 0, letters.EndAsk r.txn causes.Overflow (comes_to w r).reads) ∷ []) refl refl (λ t d. one_else (letters.EndAsk r.txn causes.Overflow (comes_to w r).reads) (is_txn t r.txn) d) (λ ask x o ph still. absurd (cc ph)) h

  begins_keep : (turn : Turn SiteState) (t : Txn) {after : Turn SiteState} → Goes w (tell turn (letters.Begin t)) (fresh t) after → Keeps turn → Keeps after
  begins_keep turn t g h =
      goes_keep (tell turn (letters.Begin t)) (fresh t) g
      (λ still. inr (ap (λ ts. has_txn ts t) (told_append turn.outs ((1, 0, letters.Begin t) ∷ [])) ∙ list_any-append (is_txn t) (told turn.outs) (t ∷ []) ∙ or_right (has_txn (told turn.outs) t) (is_txn t t || false) (or_left (is_txn t t) false (same_self t.0))))
      (keeps_sends turn (tell turn (letters.Begin t)) ((1, 0, letters.Begin t) ∷ []) refl refl (λ u. refl) h)

  move_keeps : {turn after : Turn SiteState} → Move w state from letter turn after → Keeps turn → Keeps after
  move_keeps {turn = turn} (parts.begins s z l g) h = begins_keep (passed w turn) (next_of turn) g (keeps_sends turn (passed w turn) [] refl (sym (append-nil turn.outs)) (λ t. refl) h)
  move_keeps {turn = turn} (parts.asks r i x s q f ph m y) h = asks_keep turn r x fine h
    where
      fine : has_ended p r.txn ≡ false → (count_reads p r.txn < r.asks + 1) ⊎ (has_txn (told turn.outs) r.txn ≡ true)
      fine still = elim both.1 [
        | inl old ↦ inl (let c = (counts r.txn old.was i x old.knew old.ran old.phase still).1 in let n = both.0 in omega (arith, c, n))
        | inr (some, inl few) ↦ inl (let n = both.0 in omega (arith, few, n))
        | inr (some, inr way) ↦ inr way
      ]
        where
          both : (i ≡ r.asks) × (Old turn r.txn i x (Some q) ⊎ New turn r.txn i)
          both = h r.txn r i x (Some q) f ph still
  move_keeps {turn = turn} (parts.loses r told_reads writes awaited s f ph m) h =
      (let now : Running = record r { phase = preparing told_reads writes (parts.but s awaited) } in keeps_puts turn (programs.with_running turn now) now [] refl (sym (append-nil turn.outs)) (λ t d. refl) (λ ask x o e still. absurd (cc e)) h)
  move_keeps {turn = turn} (parts.joins r told_reads writes awaited s z f ph m y) h =
      let now : Running = record r { phase = preparing told_reads writes (programs.with_vote s awaited) } in
      keeps_puts turn (send (programs.with_running turn now) (prepare_out w turn.state.vector r.txn writes s)) now (prepare_out w turn.state.vector r.txn writes s ∷ []) refl refl (λ t d. prepared w turn.state.vector r.txn writes (s ∷ []) t) (λ ask x o e still. absurd (cc e)) h
  move_keeps {turn = turn} (parts.commits r told_reads writes f ph m) h =
      let request : Request = record { reads = told_reads; writes = writes; under = turn.state.vector } in
      keeps_puts turn (tell (programs.with_running turn (record r { phase = sent })) (letters.CommitAsk r.txn request)) (record r { phase = sent }) ((1, 0, letters.CommitAsk r.txn request) ∷ []) refl refl (λ t d. one_else (letters.CommitAsk r.txn request) (is_txn t r.txn) d) (λ ask x o e still. absurd (cc e)) h

  sends : (n m : ℕ) (message : Message) (after : Turn SiteState) → after.state.running ≡ state.running → after.outs ≡ (let out : Out = (n, m, message) in out ∷ []) → ((t : Txn) → ask_of t message ≡ []) → Keeps after
  sends n m message after same is none = keeps_sends (opened state) after ((n, m, message) ∷ []) same is (unasking n m message none) start

  row_keeps : {after : Turn SiteState} → Row w state from letter after → Keeps after
  row_keeps (parts.halts u f e) = absurd (not_monitor f)
  row_keeps (parts.returns u f e) = absurd (not_monitor f)
  row_keeps (parts.refuses i t writes u f l e) = sends (i + 2) letter.from (letters.Vote t (No letter.to state.session)) _ refl refl (λ t. refl)
  row_keeps (parts.idle i) = start
  row_keeps (parts.welcomed v z e) = keeps_sends (opened state) _ [] refl refl (λ t. refl) start
  row_keeps (parts.served t ask x h z c e q o) = sends (h.0 + 1) z (letters.Value t ask c.value) _ refl refl (λ t. refl)
  row_keeps (parts.notes r ask x q s f ph e) =
      keeps_puts (opened state) _ (record r { phase = asking ask x (Some s) }) [] refl refl (λ t d. refl)
      (λ a y o is still.
      let numbers : ask ≡ a = cc is in
      let items : x ≡ y = cc is in
      let sites : Some s ≡ o = cc is in (
        sym numbers ∙ (counts r.txn r ask x q f ph still).0,
        inl (record { was = r; knew = q; ran = f; phase = ph ∙ ap (λ z. asking z x q) numbers ∙ ap (λ z. asking a z q) items; unasked = refl; knows = inr (s, (subst (λ z. Tells w state from letter (letters.Serving r.txn z s)) numbers e, sym sites)) }),
      )) start
  row_keeps (parts.applied t number ps e q) = sends 1 0 (letters.Ack t) _ refl refl (λ t. refl)
  row_keeps (parts.over t e) = keeps_ends (opened state) _ t refl refl start
  row_keeps (parts.dropped t again e q) = keeps_ends (opened state) _ t refl refl start
  row_keeps (parts.retried t e q g) = begins_keep (parts.drops state t) (programs.next_attempt w t) g (keeps_ends (opened state) (parts.drops state t) t refl refl start)
  row_keeps (parts.falls s e) = keeps_sends (opened state) _ [] refl refl (λ t. refl) start
  row_keeps (parts.rises s z e) = keeps_sends (opened state) _ [] refl refl (λ t. refl) start
  row_keeps (parts.copies x target z c e q) = sends (target.0 + 1) z (letters.CopyValue x c.value c.version) _ refl refl (λ t. refl)
  row_keeps (parts.staged i t writes e) = sends ((site (i + 1)).0 + 1) letter.from (letters.Vote t Yes) _ refl refl (λ t. refl)
  row_keeps (parts.counts i r told_reads writes awaited f ph e q) = keeps_puts (opened state) _ (record r { phase = preparing told_reads writes (parts.but (site (i + 1)) awaited) }) [] refl refl (λ t d. refl) (λ ask x o is still. absurd (cc is)) start
  row_keeps (parts.renewed i x v version c e q l) = sends 1 0 (letters.CopyDone x version) _ refl refl (λ t. refl)
  row_keeps (parts.given r ask x q v f ph g gg) =
      goes_keep (opened state) (record r { answers = _ }) gg (λ still. inl (let c = counts r.txn r ask x q f ph still in let a = c.0 in let b = c.1 in omega (arith, a, b))) start

  pub site_keeps : Ascend state.running → Keeps (hear_site w state from letter)
  site_keeps ascend = step_keeps w state from letter Keeps (λ after r. row_keeps r) (λ turn after move a h. move_keeps move h) ascend
