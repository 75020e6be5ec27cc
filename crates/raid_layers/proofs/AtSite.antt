-- A step of a home keeps what its programs are about.
use Rattle.std.proofs.Common.{◌≡◌, ◌⊎◌, inl, inr, ℕ, ℤ, ◌+◌, ◌==◌, Bool, true, false, ◌&&◌, ◌||◌, List, [], ◌∷◌, ◌++◌, map, Option, Some, None, if◌then◌else◌, arith, sym, subst, ap, ◌∙◌, refl, append-nil, append_assoc}
use Rattle.std.specs.Prelude.{is_some}
use Rattle.std.specs.List.{AllByRecursion}
use Rattle.std.specs.Option.{option_map_or}
use Rattle.std.proofs.lemmas.Bool.{and_from, eqb-true, true≢false}
use Rattle.std.proofs.lemmas.Grind.{common_steps}
use Rattle.std.proofs.lemmas.List.Folds.{list_any-append}
use Rattle.raid_base.specs.declared.names.Txn.{Txn}
use Rattle.raid_base.specs.declared.names.Item.{Item}
use Rattle.raid_base.specs.declared.names.Site.{Site}
use Rattle.raid_base.specs.declared.entry.Cause.{Cause}
use Rattle.raid_base.specs.declared.entry.Cause.TheVariants as causes
use Rattle.raid_base.specs.declared.entry.Entry.TheVariants.{Read}
use Rattle.raid_base.specs.declared.entry.Answer.TheVariants.{Yes, No}
use Rattle.raid_base.specs.declared.entry.Noted.{Noted}
use Rattle.raid_base.specs.Find.{first_of}
use Rattle.raid_base.specs.Names.{is_txn, is_item, is_site, has_txn, holds}
use Rattle.raid_base.specs.Sites.{session, site}
use Rattle.raid_program.specs.Run.{put}
use Rattle.raid_program.proofs.Asked.{end_told}
use Rattle.raid_workload.specs.declared.workload.Workload.{Workload}
use Rattle.raid_workload.specs.Parts.{program}
use Rattle.raid_rules.specs.Entries.{is_read, is_commit_of, is_abort_of, is_end_of}
use Rattle.raid_rules.specs.History.{has_begun, has_committed, has_aborted, has_ended}
use Rattle.raid_rules.specs.Order.{IsWhole}
use Rattle.raid_legal.specs.Seen.{holds_some, has_down_after}
use Rattle.raid_legal.specs.Legal.{last_read, is_lost}
use Rattle.raid_message.specs.declared.letter.Message.{Message}
use Rattle.raid_message.specs.declared.letter.Message.TheVariants as letters
use Rattle.raid_message.specs.declared.letter.Letter.{Letter}
use Rattle.raid_steps.specs.State.{Out, Turn, opened, tell, Phase, asking, preparing, sent, Running, SiteState}
use Rattle.raid_steps.specs.Programs as programs
use Rattle.raid_steps.specs.Programs.{put_running, running_of, prepare_out, voters}
use Rattle.raid_steps.specs.Copies.{stage}
use Rattle.raid_steps.specs.World.{link}
use Rattle.raid_sessions.proofs.Lists.{same_self}
use Rattle.raid_moves.specs.Moves as parts
use Rattle.raid_moves.specs.Moves.{Ascend, Tells, Says, Given, read_here, read_elsewhere, comes_to, Goes, fresh, Begins, Row, next_of, passed, Move, Moves}
use Rattle.raid_asks.proofs.Facts.{or_left, or_right, any_weaken}
use Rattle.raid_asks.proofs.Line.{Line}
use Rattle.raid_asks.proofs.Programs.{told, told_append}
use Rattle.raid_letters.specs.Says.{NoteSays}
use Rattle.raid_layers.specs.Asks.{has_read, has_waited, AreRead, AreReadBut, ask_of, IsOneAsk, no_ask, one_ask, Token, reading, bringing, serving, Claim, OfSequencer, OfSite, HoldsOf, AllTokens, IsBelow, IsAtMost, IsOfRead, serves_in, tells_server, FallsLater, Outstanding, asked, dropped, read, closes, IsAbout, Talks}
use Rattle.raid_layers.proofs.Histories.{fresh_unread, fresh_unwaited, fresh_unended, committed_ended}
use Rattle.raid_layers.proofs.Tokens.{TokenAt, all_weaker}
use Rattle.raid_layers.proofs.Turns.{asked_by, line_new, asked_now, IsKnown, AskOne, Now, asked_more, asked_same, now_sends, now_puts, now_ends}

-- pairs
unheld : (x : Item) (ps : List (Item × ℤ)) → first_of x ps ≡ None → holds x ps ≡ false
unheld x [] q = refl
unheld x (p ∷ ps) q = grind (arith, common_steps, unheld x ps, q)

put_holds : (x y : Item) (v : ℤ) (ps : List (Item × ℤ)) → is_item x y ≡ true → holds y (put ps x v) ≡ true
put_holds x y v [] q = grind (arith, common_steps, q)
put_holds x y v (p ∷ ps) q = grind (arith, common_steps, put_holds x y v ps, q)

put_other : (x y : Item) (v : ℤ) (ps : List (Item × ℤ)) → is_item x y ≡ false → holds y (put ps x v) ≡ holds y ps
put_other x y v [] q = grind (arith, common_steps, q)
put_other x y v (p ∷ ps) q = grind (arith, common_steps, put_other x y v ps, q)

-- what asks for nothing
abbrev IsUnasking : Message → Type 0
IsUnasking message = (t : Txn) → ask_of t message ≡ []

unasking : (n to : ℕ) (message : Message) → IsUnasking message → (t : Txn) → asked_by t (let out : Out = (n, to, message) in out ∷ []) ≡ []
unasking n to message none t = go (n == 1)
  where
    go : (b : Bool) → (if b then ask_of t message ++ [] else []) ≡ []
    go true = ap (λ ms. ms ++ []) (none t)
    go false = refl

prepared : (w : Workload) (v : List ℕ) (u : Txn) (writes : List (Item × ℤ)) (ss : List Site) (t : Txn) → asked_by t (map (prepare_out w v u writes) ss) ≡ []
prepared w v u writes [] t = refl
prepared w v u writes (s ∷ ss) t = go (s.0 + 1 == 1) (prepared w v u writes ss t)
  where
    go : (b : Bool) → asked_by t (map (prepare_out w v u writes) ss) ≡ [] → (if b then asked_by t (map (prepare_out w v u writes) ss) else asked_by t (map (prepare_out w v u writes) ss)) ≡ []
    go true q = q
    go false q = q

-- what asks for one transaction alone
one_else : (message : Message) (b : Bool) → b ≡ false → ((if b then message ∷ [] else []) ++ []) ≡ []
one_else message b q = ap (λ c. (if c then message ∷ [] else []) ++ []) q

one_own : (message : Message) (b : Bool) → b ≡ true → ((if b then message ∷ [] else []) ++ []) ≡ message ∷ []
one_own message b q = ap (λ c. (if c then message ∷ [] else []) ++ []) q

-- more is sent by each move
module _ (w : Workload) where
  abbrev pub Extends : Turn SiteState → Turn SiteState → Type 0
  Extends a b = (outs : List Out) × (b.outs ≡ a.outs ++ outs)

  pub goes_extends : (turn : Turn SiteState) (r : Running) {after : Turn SiteState} → Goes w turn r after → Extends turn after
  goes_extends turn r (parts.reads_next x e) = (_, refl)
  goes_extends turn r (parts.prepares e) = (_, refl)
  goes_extends turn r (parts.stops e) = (_, refl)
  goes_extends turn r (parts.overflows e) = (_, refl)

  module _ (state : SiteState) (from : ℕ) (letter : Letter) where
    move_extends : {turn after : Turn SiteState} → Move w state from letter turn after → Extends turn after
    move_extends {turn = turn} (parts.begins s n l g) = (let more = goes_extends (tell (passed w turn) (letters.Begin (next_of turn))) (fresh (next_of turn)) g in ((1, 0, letters.Begin (next_of turn)) ∷ more.0, more.1 ∙ append_assoc turn.outs ((1, 0, letters.Begin (next_of turn)) ∷ []) more.0))
    move_extends {turn = turn} (parts.asks r i x s o f p m y) = (_, refl)
    move_extends {turn = turn} (parts.loses r told_reads writes awaited s f p m) = ([], sym (append-nil turn.outs))
    move_extends {turn = turn} (parts.joins r told_reads writes awaited s n f p m y) = (_, refl)
    move_extends {turn = turn} (parts.commits r told_reads writes f p m) = (_, refl)

    pub moves_extend : {turn last : Turn SiteState} → Moves w state from letter turn last → Extends turn last
    moves_extend {turn = turn} parts.done = ([], sym (append-nil turn.outs))
    moves_extend {turn = turn} (parts.moves m rest) = (let a = move_extends m in let b = moves_extend rest in (a.0 ++ b.0, b.1 ∙ ap (λ outs. outs ++ b.0) a.1 ∙ append_assoc turn.outs a.0 b.0))

module _ (w : Workload) (p : List Noted) (links : List (List (List Letter))) (k : ℕ) (state : SiteState) (from : ℕ) (letter : Letter) (rest : List Letter) (bs : List Txn) (asks : List Letter) (place : state.site ≡ site (k + 1))
    (front : link links (k + 2) from ≡ letter ∷ rest) (whole : IsWhole p) (note : from ≡ 1 → NoteSays w p (site (k + 1)) letter.to letter.message) (not_monitor : from ≡ 0 → ⊥)
    (none_yet : (t : Txn) → has_begun p t ≡ false → (P : Claim) → AllTokens links t k state.session P) (begun_reads : (t : Txn) → (comes_to w (fresh t)).reads ≡ [])
    (given_reads : (r : Running) (ask : ℕ) (x : Item) (q : Option Site) (v : ℤ) → running_of state r.txn ≡ Some r → r.phase ≡ asking ask x q → (comes_to w (record r { answers = put r.answers x v })).reads ≡ put r.answers x v) where
  abbrev pub m : ℕ
  m = state.session

  abbrev pub N : Turn SiteState → Type 0
  N turn = Now p links k m asks bs turn

  -- what the letter tells of a token
  fronted : (t : Txn) (P : Claim) → AllTokens links t k m P → HoldsOf t k m P (k + 2) from letter.to letter.message
  fronted t P a = (subst (AllByRecursion (TokenAt t k m P (k + 2) from)) front (a (k + 2) from)).0

  told_by : (t : Txn) (P : Claim) → AllTokens links t k m P → (message : Message) → Tells w state from letter message → OfSequencer t k m P (k + 2) letter.to message
  told_by t P a message tells = subst (OfSequencer t k m P (k + 2) letter.to) tells.is (subst (λ f. HoldsOf t k m P (k + 2) f letter.to letter.message) tells.by (fronted t P a))

  heard : (t : Txn) (ask : ℕ) (v : ℤ) → Given w state from letter t ask v → (P : Claim) → AllTokens links t k m P → (token : Token) × P ask token
  heard t ask v (read_here x h n c tells q i) P a =
      let mine : is_site (site (k + 1)) h ≡ true = subst (λ s. is_site s h ≡ true) place i in
      let says = subst (NoteSays w p (site (k + 1)) letter.to) tells.is (note tells.by) in
      (reading (k + 2) x, told_by t P a (letters.ReadDo t ask x h n) tells (same_self t.0) mine (subst (λ z. (z == m) ≡ true) (sym (says.own mine)) tells.heard.meant))
  heard t ask v (read_elsewhere j u says) P a =
      (bringing, subst (OfSite t k m P (k + 2) letter.to) says.is (subst (λ f. HoldsOf t k m P (k + 2) f letter.to letter.message) says.by (fronted t P a)) (same_self t.0) (same_self (k + 2)) says.heard.meant)

  -- a program goes on
  record Ready (turn : Turn SiteState) (r : Running) : Type 0 where
    quiet : asked_now p links k m asks bs r.txn turn.outs ≡ []
    unwaited : has_waited p r.txn ≡ false
    answers : AreRead p r.txn r.answers
    reads : (comes_to w r).reads ≡ r.answers
    tokens : AllTokens links r.txn k m (IsAtMost r.asks)

  -- what is asked for it by one message more
  asked_own : (turn : Turn SiteState) (t : Txn) (message : Message) → asked_now p links k m asks bs t turn.outs ≡ [] → asked_by t (let out : Out = (1, 0, message) in out ∷ []) ≡ message ∷ [] → asked_now p links k m asks bs t (turn.outs ++ (1, 0, message) ∷ []) ≡ message ∷ []
  asked_own turn t message quiet own = asked_more p links k m asks bs t turn.outs ((1, 0, message) ∷ []) ∙ ap (λ ms. ms ++ asked_by t (let out : Out = (1, 0, message) in out ∷ [])) quiet ∙ own

  ends_now : (turn : Turn SiteState) (r : Running) (cause : Cause) → N turn → IsKnown p links k m asks bs r.txn turn.outs → (has_committed p r.txn ≡ true → ⊥) → (has_ended p r.txn ≡ true) ⊎ Ready turn r → N (programs.end_by turn r cause (comes_to w r))
  ends_now turn r cause n known alive status =
      now_puts p links k m asks bs turn (programs.end_by turn r cause (comes_to w r)) (record r { phase = sent }) ((1, 0, letters.EndAsk r.txn cause (comes_to w r).reads) ∷ []) refl refl (λ t d. one_else (letters.EndAsk r.txn cause (comes_to w r).reads) (is_txn t r.txn) d) (one status) ((λ c. refl), talks status) known n
    where
      own : Ready turn r → asked_now p links k m asks bs r.txn (turn.outs ++ (1, 0, letters.EndAsk r.txn cause (comes_to w r).reads) ∷ []) ≡ letters.EndAsk r.txn cause (comes_to w r).reads ∷ []
      own ready = asked_own turn r.txn (letters.EndAsk r.txn cause (comes_to w r).reads) ready.quiet (one_own (letters.EndAsk r.txn cause (comes_to w r).reads) (is_txn r.txn r.txn) (same_self r.txn.0))

      one : (has_ended p r.txn ≡ true) ⊎ Ready turn r → AskOne p links k m asks bs r.txn (turn.outs ++ (1, 0, letters.EndAsk r.txn cause (comes_to w r).reads) ∷ [])
      one (inl over) = inl over
      one (inr ready) = inr (one_ask (letters.EndAsk r.txn cause (comes_to w r).reads) (own ready) (λ x. ap (holds x) ready.reads ∙ ready.answers x))

      talks : (has_ended p r.txn ≡ true) ⊎ Ready turn r → (has_ended p r.txn ≡ true) ⊎ IsAbout p links k m r.txn r.asks r.answers (asked_now p links k m asks bs r.txn (turn.outs ++ (1, 0, letters.EndAsk r.txn cause (comes_to w r).reads) ∷ [])) sent
      talks (inl over) = inl over
      talks (inr ready) = inr (closes (letters.EndAsk r.txn cause (comes_to w r).reads) (own ready) refl, ready.tokens)

  goes_now : (turn : Turn SiteState) (r : Running) {after : Turn SiteState} → Goes w turn r after → N turn → IsKnown p links k m asks bs r.txn turn.outs → (has_committed p r.txn ≡ true → ⊥) → (has_ended p r.txn ≡ true) ⊎ Ready turn r → N after
  goes_now turn r (parts.reads_next x e) n known alive status =
      now_puts p links k m asks bs turn (programs.ask turn r x) now ((1, 0, message) ∷ []) refl refl (λ t d. one_else message (is_txn t r.txn) d) (one status) ((λ c. absurd (alive c)), talks status) known n
    where
      now : Running
      now = record r { asks = r.asks + 1; phase = asking (r.asks + 1) x None }

      message : Message
      message = letters.ReadAsk r.txn (r.asks + 1) x

      own : Ready turn r → asked_now p links k m asks bs r.txn (turn.outs ++ (1, 0, letters.ReadAsk r.txn (r.asks + 1) x) ∷ []) ≡ letters.ReadAsk r.txn (r.asks + 1) x ∷ []
      own ready = asked_own turn r.txn (letters.ReadAsk r.txn (r.asks + 1) x) ready.quiet (one_own (letters.ReadAsk r.txn (r.asks + 1) x) (is_txn r.txn r.txn) (same_self r.txn.0))

      one : (has_ended p r.txn ≡ true) ⊎ Ready turn r → AskOne p links k m asks bs r.txn (turn.outs ++ (1, 0, letters.ReadAsk r.txn (r.asks + 1) x) ∷ [])
      one (inl over) = inl over
      one (inr ready) = inr (one_ask (letters.ReadAsk r.txn (r.asks + 1) x) (own ready) (inl (sym (ready.answers x) ∙ unheld x r.answers (end_told (program w r.txn) (λ y. first_of y r.answers) x e))))

      talks : (has_ended p r.txn ≡ true) ⊎ Ready turn r →
          (has_ended p r.txn ≡ true) ⊎ IsAbout p links k m r.txn (r.asks + 1) r.answers (asked_now p links k m asks bs r.txn (turn.outs ++ (1, 0, letters.ReadAsk r.txn (r.asks + 1) x) ∷ [])) (asking (r.asks + 1) x None)
      talks (inl over) = inl over
      talks (inr ready) = inr (refl, (ready.unwaited, ((λ y d. ready.answers y), asked (own ready) refl (all_weaker r.txn k m links (IsAtMost r.asks) (IsBelow (r.asks + 1)) (λ a token low. omega (arith, low)) ready.tokens))))
  goes_now turn r (parts.prepares e) n known alive status =
      now_puts p links k m asks bs turn (programs.prepare w turn r (comes_to w r)) now new (runs (holds_some w (comes_to w r).writes turn.state.site)) refl (λ t d. prepared w turn.state.vector r.txn (comes_to w r).writes vs t) (one status) ((λ c. absurd (alive c)), talks status) known n
    where
      vs : List Site
      vs = voters w turn.state (comes_to w r).writes

      now : Running
      now = record r { phase = preparing (comes_to w r).reads (comes_to w r).writes vs }

      new : List Out
      new = map (prepare_out w turn.state.vector r.txn (comes_to w r).writes) vs

      runs : (b : Bool) → (let s : SiteState = (if b then record (turn.state) { staged = stage r.txn (programs.held_by w turn.state.site (comes_to w r).writes) turn.state.staged } else turn.state) in put_running now s.running) ≡ put_running now turn.state.running
      runs true = refl
      runs false = refl

      quiet : Ready turn r → asked_now p links k m asks bs r.txn (turn.outs ++ map (prepare_out w turn.state.vector r.txn (comes_to w r).writes) (voters w turn.state (comes_to w r).writes)) ≡ []
      quiet ready = asked_same p links k m asks bs r.txn turn.outs (map (prepare_out w turn.state.vector r.txn (comes_to w r).writes) (voters w turn.state (comes_to w r).writes)) (prepared w turn.state.vector r.txn (comes_to w r).writes (voters w turn.state (comes_to w r).writes) r.txn) ∙ ready.quiet

      one : (has_ended p r.txn ≡ true) ⊎ Ready turn r → AskOne p links k m asks bs r.txn (turn.outs ++ map (prepare_out w turn.state.vector r.txn (comes_to w r).writes) (voters w turn.state (comes_to w r).writes))
      one (inl over) = inl over
      one (inr ready) = inr (no_ask (quiet ready))

      talks : (has_ended p r.txn ≡ true) ⊎ Ready turn r →
          (has_ended p r.txn ≡ true) ⊎ IsAbout p links k m r.txn r.asks r.answers (asked_now p links k m asks bs r.txn (turn.outs ++ map (prepare_out w turn.state.vector r.txn (comes_to w r).writes) (voters w turn.state (comes_to w r).writes)))
          (preparing (comes_to w r).reads (comes_to w r).writes (voters w turn.state (comes_to w r).writes))
      talks (inl over) = inl over
      talks (inr ready) = inr (quiet ready, (ready.unwaited, ((λ x. ap (holds x) ready.reads ∙ ready.answers x), ready.tokens)))
  goes_now turn r (parts.stops e) n known alive status = ends_now turn r causes.Own n known alive status
  goes_now turn r (parts.overflows e) n known alive status = ends_now turn r causes.Overflow n known alive status

  -- a transaction begins
  begun_new : (turn : Turn SiteState) (t : Txn) (last : Turn SiteState) (more : List Out) → last.outs ≡ (turn.outs ++ (1, 0, letters.Begin t) ∷ []) ++ more → Line w (site (k + 1)) p (bs ++ told last.outs) → (has_begun p t ≡ false) × (has_txn (bs ++ told turn.outs) t ≡ false)
  begun_new turn t last more is line =
      let told_is = ap told is ∙ told_append (turn.outs ++ (1, 0, letters.Begin t) ∷ []) more ∙ ap (λ ts. ts ++ told more) (told_append turn.outs ((1, 0, letters.Begin t) ∷ [])) ∙ append_assoc (told turn.outs) (t ∷ []) (told more) in
      line_new w (site (k + 1)) p (bs ++ told turn.outs) (told more) t (subst (Line w (site (k + 1)) p) (ap (λ ts. bs ++ ts) told_is ∙ sym (append_assoc bs (told turn.outs) (t ∷ told more))) line)

  begins_now : (turn : Turn SiteState) (t : Txn) {after : Turn SiteState} → Begins w turn t after → (last : Turn SiteState) (more : List Out) → last.outs ≡ after.outs ++ more → Line w (site (k + 1)) p (bs ++ told last.outs) → N turn → N after
  begins_now turn t g last more is line n =
      let further = goes_extends w (tell turn (letters.Begin t)) (fresh t) g in
      let new = begun_new turn t last (further.0 ++ more) (is ∙ ap (λ outs. outs ++ more) further.1 ∙ append_assoc (turn.outs ++ (1, 0, letters.Begin t) ∷ []) further.0 more) line in
      goes_now (tell turn (letters.Begin t)) (fresh t) g (now_sends p links k m asks bs turn (tell turn (letters.Begin t)) ((1, 0, letters.Begin t) ∷ []) refl refl (λ u. refl) n) (inr known)
      (λ c. true≢false (sym (committed_ended p t c) ∙ fresh_unended p whole t new.0))
      (inr (record {
        quiet = asked_same p links k m asks bs t turn.outs ((1, 0, letters.Begin t) ∷ []) refl ∙ silent new (running_of turn.state t) refl (n.talks t);
        unwaited = fresh_unwaited p whole t new.0;
        answers = λ x. sym (fresh_unread p whole t new.0 x);
        reads = begun_reads t;
        tokens = none_yet t new.0 (IsAtMost 0);
      }))
    where
      known : has_txn (bs ++ told (turn.outs ++ (1, 0, letters.Begin t) ∷ [])) t ≡ true
      known =
          ap (λ ts. has_txn (bs ++ ts) t) (told_append turn.outs ((1, 0, letters.Begin t) ∷ [])) ∙ list_any-append (is_txn t) bs (told turn.outs ++ t ∷ [])
          ∙ or_right (has_txn bs t) (has_txn (told turn.outs ++ t ∷ []) t) (list_any-append (is_txn t) (told turn.outs) (t ∷ []) ∙ or_right (has_txn (told turn.outs) t) (is_txn t t || false) (or_left (is_txn t t) false (same_self t.0)))

      silent : (has_begun p t ≡ false) × (has_txn (bs ++ told turn.outs) t ≡ false) → (o : Option Running) → running_of turn.state t ≡ o → Talks p links k m t (asked_now p links k m asks bs t turn.outs) (running_of turn.state t) → asked_now p links k m asks bs t turn.outs ≡ []
      silent new None f a = elim (subst (Talks p links k m t (asked_now p links k m asks bs t turn.outs)) f a) [
        | inl over ↦ absurd (true≢false (sym over ∙ fresh_unended p whole t new.0))
        | inr e ↦ e
      ]
      silent new (Some r) f a = elim (n.known t r f) [
        | inl begun ↦ absurd (true≢false (sym begun ∙ new.0))
        | inr way ↦ absurd (true≢false (sym way ∙ new.1))
      ]

  -- what a program is about that is found in a turn
  its : (turn : Turn SiteState) (r : Running) → running_of turn.state r.txn ≡ Some r → N turn → Talks p links k m r.txn (asked_now p links k m asks bs r.txn turn.outs) (Some r)
  its turn r f n = subst (Talks p links k m r.txn (asked_now p links k m asks bs r.txn turn.outs)) f (n.talks r.txn)

  its_about : (turn : Turn SiteState) (r : Running) (phase : Phase) → r.phase ≡ phase → running_of turn.state r.txn ≡ Some r → N turn → (has_ended p r.txn ≡ true) ⊎ IsAbout p links k m r.txn r.asks r.answers (asked_now p links k m asks bs r.txn turn.outs) phase
  its_about turn r phase is f n = elim (its turn r f n).1 [ inl over ↦ inl over | inr about ↦ inr (subst (IsAbout p links k m r.txn r.asks r.answers (asked_now p links k m asks bs r.txn turn.outs)) is about) ]

  -- its phase alone is changed, to one that it is about as well; nothing is asked
  turns_now : (turn after : Turn SiteState) (r : Running) (old new : Phase) (outs : List Out) → r.phase ≡ old → (old ≡ sent → ⊥) → running_of turn.state r.txn ≡ Some r → after.state.running ≡ put_running (record r { phase = new }) turn.state.running → after.outs ≡ turn.outs ++ outs → ((t : Txn) → asked_by t outs ≡ []) →
      (IsAbout p links k m r.txn r.asks r.answers (asked_now p links k m asks bs r.txn turn.outs) old → IsAbout p links k m r.txn r.asks r.answers (asked_now p links k m asks bs r.txn turn.outs) new) → N turn → N after
  turns_now turn after r old new outs is unsent f put more none about n =
      now_puts p links k m asks bs turn after (record r { phase = new }) outs put more (λ t d. none t)
      (subst (λ ms. (has_ended p r.txn ≡ true) ⊎ IsOneAsk p r.txn ms) (sym same) (n.one r.txn)) (
        (λ c. absurd (unsent (sym is ∙ (its turn r f n).0 c))),
        subst (λ ms. (has_ended p r.txn ≡ true) ⊎ IsAbout p links k m r.txn r.asks r.answers ms new) (sym same)
            (elim (its_about turn r old is f n) [ inl over ↦ inl over | inr a ↦ inr (about a) ]),
      ) (n.known r.txn r f) n
    where
      same : asked_now p links k m asks bs r.txn (turn.outs ++ outs) ≡ asked_now p links k m asks bs r.txn turn.outs
      same = asked_same p links k m asks bs r.txn turn.outs outs (none r.txn)

  same_site : (s r : Site) → is_site s r ≡ true → r ≡ s
  same_site s r q = ap (λ n. let z : Site = record { 0 = n } in z) (eqb-true r.0 s.0 q)

  -- what was granted is lost
  lost_now : (t : Txn) (x : Item) (n : Noted) (s : Site) → last_read p t ≡ Some n → n.entry ≡ Read t x s → has_down_after p n.at s ≡ true → is_lost p t x ≡ true
  lost_now t x n s last is down =
      ap (λ o. option_map_or (λ n. is_read (λ u y r. is_item x y && has_down_after p n.at r) n.entry) o false) last ∙ ap (λ e. is_read (λ u y r. is_item x y && has_down_after p n.at r) e) is
      ∙ and_from (is_item x x) (has_down_after p n.at s) (same_self x.0) down

  -- what was granted it is lost, and it asks for it again
  record Lost (turn : Turn SiteState) (r : Running) (x : Item) : Type 0 where
    own : asked_now p links k m asks bs r.txn (turn.outs ++ (1, 0, letters.ReadAsk r.txn (r.asks + 1) x) ∷ []) ≡ letters.ReadAsk r.txn (r.asks + 1) x ∷ []
    gone : is_lost p r.txn x ≡ true
    unwaited : has_waited p r.txn ≡ false
    but : AreReadBut p r.txn x r.answers
    tokens : AllTokens links r.txn k m (IsBelow (r.asks + 1))

  asks_again : (turn : Turn SiteState) (r : Running) (ask : ℕ) (x : Item) (s q : Site) → running_of turn.state r.txn ≡ Some r → r.phase ≡ asking ask x (Some q) → Tells w state from letter (letters.DownNote s) → is_site s q ≡ true → N turn → N (programs.ask turn r x)
  asks_again turn r ask x s q f is tells at n =
      now_puts p links k m asks bs turn (programs.ask turn r x) (record r { asks = r.asks + 1; phase = asking (r.asks + 1) x None }) ((1, 0, letters.ReadAsk r.txn (r.asks + 1) x) ∷ []) refl refl (λ t d. one_else (letters.ReadAsk r.txn (r.asks + 1) x) (is_txn t r.txn) d) (one both) ((λ c. absurd (unsent ((its turn r f n).0 c))), talks both) (n.known r.txn r f) n
    where
      unsent : r.phase ≡ sent → ⊥
      unsent e = cc (is, e)

      lost : IsAbout p links k m r.txn r.asks r.answers (asked_now p links k m asks bs r.txn turn.outs) (asking ask x (Some q)) → Lost turn r x
      lost a = go a.1.1.1
        where
          go : Outstanding p links k m r.txn ask x (Some q) (asked_now p links k m asks bs r.txn turn.outs) → Lost turn r x
          go (asked e none toks) = absurd (cc none)
          go (dropped e none toks) = absurd (cc none)
          go (read z there e last was has toks server falls) =
              let same : s ≡ there = sym (same_site s q at) ∙ server in
              let first = subst (FallsLater p r.txn m ask there z.at true) (ap (link links (k + 2)) (sym tells.by) ∙ front) falls in
              record {
                own = asked_own turn r.txn (letters.ReadAsk r.txn (r.asks + 1) x) e (one_own (letters.ReadAsk r.txn (r.asks + 1) x) (is_txn r.txn r.txn) (same_self r.txn.0));
                gone = lost_now r.txn x z there last was (first.0 refl tells.heard.meant (tells.is ∙ ap letters.DownNote same));
                unwaited = a.1.0;
                but = a.1.1.0;
                tokens = all_weaker r.txn k m links (IsOfRead ask x there) (IsBelow (r.asks + 1)) (λ b token low. (let l = low.0 in let number = a.0 in omega (arith, l, number))) toks;
              }

      both : (has_ended p r.txn ≡ true) ⊎ Lost turn r x
      both = elim (its_about turn r (asking ask x (Some q)) is f n) [ inl over ↦ inl over | inr a ↦ inr (lost a) ]

      one : (has_ended p r.txn ≡ true) ⊎ Lost turn r x → AskOne p links k m asks bs r.txn (turn.outs ++ (1, 0, letters.ReadAsk r.txn (r.asks + 1) x) ∷ [])
      one (inl over) = inl over
      one (inr l) = inr (one_ask (letters.ReadAsk r.txn (r.asks + 1) x) l.own (inr l.gone))

      talks : (has_ended p r.txn ≡ true) ⊎ Lost turn r x → (has_ended p r.txn ≡ true) ⊎ IsAbout p links k m r.txn (r.asks + 1) r.answers (asked_now p links k m asks bs r.txn (turn.outs ++ (1, 0, letters.ReadAsk r.txn (r.asks + 1) x) ∷ [])) (asking (r.asks + 1) x None)
      talks (inl over) = inl over
      talks (inr l) = inr (refl, (l.unwaited, (l.but, asked l.own refl l.tokens)))

  -- it asks to commit
  commits_now : (turn : Turn SiteState) (r : Running) (told_reads writes : List (Item × ℤ)) → running_of turn.state r.txn ≡ Some r → r.phase ≡ preparing told_reads writes [] → N turn →
      N (tell (programs.with_running turn (record r { phase = sent })) (letters.CommitAsk r.txn (record { reads = told_reads; writes = writes; under = turn.state.vector })))
  commits_now turn r told_reads writes f is n =
      now_puts p links k m asks bs turn (tell (programs.with_running turn (record r { phase = sent })) (letters.CommitAsk r.txn (record { reads = told_reads; writes = writes; under = turn.state.vector }))) (record r { phase = sent })
      ((1, 0, letters.CommitAsk r.txn (record { reads = told_reads; writes = writes; under = turn.state.vector })) ∷ []) refl refl (λ t d. one_else (letters.CommitAsk r.txn (record { reads = told_reads; writes = writes; under = turn.state.vector })) (is_txn t r.txn) d) (one both) ((λ c. refl), talks both) (n.known r.txn r f) n
    where
      message : Message
      message = letters.CommitAsk r.txn (record { reads = told_reads; writes = writes; under = turn.state.vector })

      both : (has_ended p r.txn ≡ true) ⊎ IsAbout p links k m r.txn r.asks r.answers (asked_now p links k m asks bs r.txn turn.outs) (preparing told_reads writes [])
      both = its_about turn r (preparing told_reads writes []) is f n

      own : asked_now p links k m asks bs r.txn turn.outs ≡ [] → asked_now p links k m asks bs r.txn (turn.outs ++ (1, 0, message) ∷ []) ≡ message ∷ []
      own e = asked_own turn r.txn message e (one_own message (is_txn r.txn r.txn) (same_self r.txn.0))

      one : (has_ended p r.txn ≡ true) ⊎ IsAbout p links k m r.txn r.asks r.answers (asked_now p links k m asks bs r.txn turn.outs) (preparing told_reads writes []) → AskOne p links k m asks bs r.txn (turn.outs ++ (1, 0, message) ∷ [])
      one (inl over) = inl over
      one (inr a) = inr (one_ask message (own a.0) a.1.1.0)

      talks : (has_ended p r.txn ≡ true) ⊎ IsAbout p links k m r.txn r.asks r.answers (asked_now p links k m asks bs r.txn turn.outs) (preparing told_reads writes []) → (has_ended p r.txn ≡ true) ⊎ IsAbout p links k m r.txn r.asks r.answers (asked_now p links k m asks bs r.txn (turn.outs ++ (1, 0, message) ∷ [])) sent
      talks (inl over) = inl over
      talks (inr a) = inr (closes message (own a.0) refl, a.1.1.1)

  -- moves
  move_now : {turn after : Turn SiteState} → Move w state from letter turn after → (last : Turn SiteState) (more : List Out) → last.outs ≡ after.outs ++ more → Line w (site (k + 1)) p (bs ++ told last.outs) → N turn → N after
  move_now {turn = turn} (parts.begins s z l g) last more is line n =
      begins_now (passed w turn) (next_of turn) g last more is line (record { one = n.one; talks = n.talks; known = n.known })
  move_now {turn = turn} (parts.asks r ask x s q f ph m y) last more is line n = asks_again turn r ask x s q f ph m y n
  move_now {turn = turn} (parts.loses r told_reads writes awaited s f ph m) last more is line n =
      turns_now turn _ r (preparing told_reads writes awaited) (preparing told_reads writes (parts.but s awaited)) [] ph (λ e. cc e) f refl (sym (append-nil turn.outs)) (λ t. refl) (λ a. a) n
  move_now {turn = turn} (parts.joins r told_reads writes awaited s z f ph m y) last more is line n =
      turns_now turn _ r (preparing told_reads writes awaited) (preparing told_reads writes (programs.with_vote s awaited)) (prepare_out w turn.state.vector r.txn writes s ∷ []) ph (λ e. cc e) f refl refl (unasking (s.0 + 1) (session turn.state.vector s) (letters.Prepare r.txn (programs.held_by w s writes)) (λ t. refl)) (λ a. a) n
  move_now {turn = turn} (parts.commits r told_reads writes f ph m) last more is line n = commits_now turn r told_reads writes f ph n

  moves_now : {turn last : Turn SiteState} → Moves w state from letter turn last → Line w (site (k + 1)) p (bs ++ told last.outs) → N turn → N last
  moves_now parts.done line n = n
  moves_now {last = last} (parts.moves move others) line n = (let more = moves_extend w state from letter others in moves_now others line (move_now move last more.0 more.1 line n))

  -- the value of an ask comes
  given_now : N (opened state) → (r : Running) (ask : ℕ) (x : Item) (q : Option Site) (v : ℤ) → running_of state r.txn ≡ Some r → r.phase ≡ asking ask x q → Given w state from letter r.txn ask v → {after : Turn SiteState} → Goes w (opened state) (record r { answers = put r.answers x v }) after → N after
  given_now start r ask x q v f is g gg =
      goes_now (opened state) (record r { answers = put r.answers x v }) gg start (start.known r.txn r f) (λ c. absurd (unsent ((its (opened state) r f start).0 c))) (elim (its_about (opened state) r (asking ask x q) is f start) [ inl over ↦ inl over | inr a ↦ inr (ready a) ])
    where
      unsent : r.phase ≡ sent → ⊥
      unsent e = cc (is, e)

      ready : IsAbout p links k m r.txn r.asks r.answers (asked_now p links k m asks bs r.txn []) (asking ask x q) → Ready (opened state) (record r { answers = put r.answers x v })
      ready a = go a.1.1.1
        where
          early : AllTokens links r.txn k m (IsBelow ask) → ⊥
          early toks = (let h = (heard r.txn ask v g (IsBelow ask) toks).1 in omega (arith, h))

          go : Outstanding p links k m r.txn ask x q (asked_now p links k m asks bs r.txn []) → Ready (opened state) (record r { answers = put r.answers x v })
          go (asked e none toks) = absurd (early toks)
          go (dropped e none toks) = absurd (early toks)
          go (read z there e last was has toks server falls) = record {
            quiet = e;
            unwaited = a.1.0;
            answers = λ y. answered y (is_item x y) refl;
            reads = given_reads r ask x q v f is;
            tokens = all_weaker r.txn k m links (IsOfRead ask x there) (IsAtMost r.asks) (λ b token low. (let l = low.0 in let number = a.0 in omega (arith, l, number))) toks;
          }
            where
              answered : (y : Item) (b : Bool) → is_item x y ≡ b → holds y (put r.answers x v) ≡ has_read p r.txn y
              answered y true same = put_holds x y v r.answers same ∙ sym (subst (λ z. has_read p r.txn z ≡ true) (ap (λ n. let i : Item = record { 0 = n } in i) (sym (eqb-true y.0 x.0 same))) has)
              answered y false same = put_other x y v r.answers same ∙ a.1.1.0 y same

  -- it is told who serves it
  notes_now : N (opened state) → (r : Running) (ask : ℕ) (x : Item) (q : Option Site) (s : Site) → running_of state r.txn ≡ Some r → r.phase ≡ asking ask x q → Tells w state from letter (letters.Serving r.txn ask s) → N (programs.with_running (opened state) (record r { phase = asking ask x (Some s) }))
  notes_now start r ask x q s f is tells =
      turns_now (opened state) (programs.with_running (opened state) (record r { phase = asking ask x (Some s) })) r (asking ask x q) (asking ask x (Some s)) [] is (λ e. cc e) f refl refl (λ t. refl) (λ a. (a.0, (a.1.0, (a.1.1.0, go a.1.1.1)))) start
    where
      token : (P : Claim) → AllTokens links r.txn k m P → P ask (serving s)
      token P toks = told_by r.txn P toks (letters.Serving r.txn ask s) tells (same_self r.txn.0) (same_self (k + 2)) tells.heard.meant

      go : Outstanding p links k m r.txn ask x q (asked_now p links k m asks bs r.txn []) → Outstanding p links k m r.txn ask x (Some s) (asked_now p links k m asks bs r.txn [])
      go (asked e none toks) = absurd (let h = token (IsBelow ask) toks in omega (arith, h))
      go (dropped e none toks) = absurd (let h = token (IsBelow ask) toks in omega (arith, h))
      go (read z there e last was has toks server falls) =
          read z there e last was has toks ((token (IsOfRead ask x there) toks).1 refl)
          (subst (FallsLater p r.txn m ask there z.at true) (sym list) ((λ known to down. absurd (no_down (sym tells.is ∙ down))), subst (λ b. FallsLater p r.txn m ask there z.at b rest) (now_known (is_some q)) (subst (FallsLater p r.txn m ask there z.at (is_some q)) list falls).1))
        where
          list : link links (k + 2) 1 ≡ letter ∷ rest
          list = ap (link links (k + 2)) (sym tells.by) ∙ front

          no_down : letters.Serving r.txn ask s ≡ letters.DownNote there → ⊥
          no_down q = cc q

          tells_it : tells_server r.txn m ask letter ≡ true
          tells_it = and_from (letter.to == m) _ tells.heard.meant (ap (serves_in r.txn ask) tells.is ∙ and_from (is_txn r.txn r.txn) (ask == ask) (same_self r.txn.0) (same_self ask))

          now_known : (b : Bool) → (b || tells_server r.txn m ask letter) ≡ true
          now_known b = or_right b (tells_server r.txn m ask letter) tells_it

  aborted_ended : (t : Txn) → has_aborted p t ≡ true → has_ended p t ≡ true
  aborted_ended t q = any_weaken (λ n. is_abort_of t n.entry) (λ n. is_end_of t n.entry) (λ n h. or_right (is_commit_of t n.entry) (is_abort_of t n.entry) h) p q

  -- the row
  row_now : N (opened state) → {after : Turn SiteState} → Row w state from letter after → (last : Turn SiteState) (more : List Out) → last.outs ≡ after.outs ++ more → Line w (site (k + 1)) p (bs ++ told last.outs) → N after
  row_now start (parts.halts u f e) last more is line = absurd (not_monitor f)
  row_now start (parts.returns u f e) last more is line = absurd (not_monitor f)
  row_now start (parts.refuses i t writes u f l e) last more is line = now_sends p links k m asks bs (opened state) _ ((i + 2, letter.from, letters.Vote t (No letter.to state.session)) ∷ []) refl refl (unasking (i + 2) letter.from (letters.Vote t (No letter.to state.session)) (λ t. refl)) start
  row_now start (parts.idle i) last more is line = start
  row_now start (parts.welcomed v z e) last more is line = now_sends p links k m asks bs (opened state) _ [] refl refl (λ t. refl) start
  row_now start (parts.served t ask x h z c e q o) last more is line = now_sends p links k m asks bs (opened state) _ ((h.0 + 1, z, letters.Value t ask c.value) ∷ []) refl refl (unasking (h.0 + 1) z (letters.Value t ask c.value) (λ t. refl)) start
  row_now start (parts.notes r ask x q s f ph e) last more is line = notes_now start r ask x q s f ph e
  row_now start (parts.applied t number ps e q) last more is line = now_sends p links k m asks bs (opened state) _ ((1, 0, letters.Ack t) ∷ []) refl refl (λ t. refl) start
  row_now start (parts.over t e) last more is line = now_ends p links k m asks bs (opened state) _ t refl refl (committed_ended p t (subst (NoteSays w p (site (k + 1)) letter.to) e.is (note e.by)).0) start
  row_now start (parts.dropped t again e q) last more is line = now_ends p links k m asks bs (opened state) _ t refl refl (aborted_ended t (subst (NoteSays w p (site (k + 1)) letter.to) e.is (note e.by))) start
  row_now start (parts.retried t e q g) last more is line =
      begins_now (parts.drops state t) (programs.next_attempt w t) g last more is line (now_ends p links k m asks bs (opened state) (parts.drops state t) t refl refl (aborted_ended t (subst (NoteSays w p (site (k + 1)) letter.to) e.is (note e.by))) start)
  row_now start (parts.falls s e) last more is line = now_sends p links k m asks bs (opened state) _ [] refl refl (λ t. refl) start
  row_now start (parts.rises s z e) last more is line = now_sends p links k m asks bs (opened state) _ [] refl refl (λ t. refl) start
  row_now start (parts.copies x target z c e q) last more is line = now_sends p links k m asks bs (opened state) _ ((target.0 + 1, z, letters.CopyValue x c.value c.version) ∷ []) refl refl (unasking (target.0 + 1) z (letters.CopyValue x c.value c.version) (λ t. refl)) start
  row_now start (parts.staged i t writes e) last more is line = now_sends p links k m asks bs (opened state) _ (((site (i + 1)).0 + 1, letter.from, letters.Vote t Yes) ∷ []) refl refl (unasking ((site (i + 1)).0 + 1) letter.from (letters.Vote t Yes) (λ t. refl)) start
  row_now start (parts.counts i r told_reads writes awaited f ph e q) last more is line =
      turns_now (opened state) _ r (preparing told_reads writes awaited) (preparing told_reads writes (parts.but (site (i + 1)) awaited)) [] ph (λ e. cc e) f refl refl (λ t. refl) (λ a. a) start
  row_now start (parts.renewed i x v version c e q l) last more is line = now_sends p links k m asks bs (opened state) _ ((1, 0, letters.CopyDone x version) ∷ []) refl refl (λ t. refl) start
  row_now start (parts.given r ask x q v f ph g gg) last more is line = given_now start r ask x q v f ph g gg

  -- the step
  pub step_now : (last : Turn SiteState) → parts.Reached w state from letter last → Line w (site (k + 1)) p (bs ++ told last.outs) → N (opened state) → N last
  step_now last (after, (row, others)) line start = (let more = moves_extend w state from letter others in moves_now others line (row_now start row last more.0 more.1 line))
