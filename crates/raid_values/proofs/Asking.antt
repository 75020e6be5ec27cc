-- A program that waits for an item after a step of its home, and for which nothing was asked in the step, waited for it before.
use Rattle.std.proofs.Common.{◌≡◌, ◌⊎◌, inl, inr, ℕ, ℤ, ◌+◌, ◌==◌, arith, Bool, true, false, not, List, [], ◌∷◌, ◌++◌, map, filter, Option, Some, None, if◌then◌else◌, sym, subst, ap, ◌∙◌, refl, append-nil}
use Rattle.std.proofs.lemmas.Bool.{eqb-true}
use Rattle.raid_base.specs.declared.names.Txn.{Txn}
use Rattle.raid_base.specs.declared.names.Item.{Item}
use Rattle.raid_base.specs.declared.names.Site.{Site}
use Rattle.raid_base.specs.declared.entry.Answer.TheVariants.{Yes, No}
use Rattle.raid_base.specs.declared.entry.Cause.{Cause}
use Rattle.raid_base.specs.declared.entry.Cause.TheVariants as causes
use Rattle.raid_base.specs.Names.{is_txn}
use Rattle.raid_base.specs.Sites.{site}
use Rattle.raid_program.specs.Run.{put}
use Rattle.raid_workload.specs.declared.workload.Workload.{Workload}
use Rattle.raid_legal.specs.Seen.{holds_some}
use Rattle.raid_message.specs.declared.letter.Message.{Message}
use Rattle.raid_message.specs.declared.letter.Message.TheVariants as letters
use Rattle.raid_message.specs.declared.letter.Letter.{Letter}
use Rattle.raid_steps.specs.State.{Out, Turn, opened, with_state, send, tell, Phase, asking, preparing, sent, Running, SiteState}
use Rattle.raid_steps.specs.Copies.{stage, apply, set_copy}
use Rattle.raid_steps.specs.Programs as programs
use Rattle.raid_steps.specs.Programs.{put_running, running_of, with_running, prepare_out, voters, next_attempt}
use Rattle.raid_steps.specs.Site.{hear_site, return_row, with_vector}
use Rattle.raid_moves.specs.Moves as parts
use Rattle.raid_moves.specs.Moves.{Ascend, comes_to, Goes, fresh, Row, Move}
use Rattle.raid_moves.proofs.Places.{something, nothing, program_of, put_found, put_other}
use Rattle.raid_moves.proofs.Steps.{step_keeps}
use Rattle.raid_layers.proofs.Turns.{asked_by, asked_append, filtered_out, filtered_other}

empty_first : {X : Type 0} (xs ys : List X) → xs ++ ys ≡ [] → xs ≡ []
empty_first [] ys q = refl
empty_first (x ∷ xs) ys q = absurd (cc q)

not_empty : {X : Type 0} (xs : List X) (x : X) (ys : List X) → xs ++ x ∷ ys ≡ [] → ⊥
not_empty [] x ys q = cc q
not_empty (z ∷ xs) x ys q = cc q

module _ (w : Workload) (state : SiteState) (from : ℕ) (letter : Letter) where
  -- the program waited for the item before the step, with this ask
  pub record Waited (t : Txn) (number : ℕ) (x : Item) : Type 0 where
    pub program : Running
    pub server : Option Site
    pub found : running_of state t ≡ Some program
    pub phase : program.phase ≡ asking number x server

  -- it did; or something was asked for it
  abbrev Knows : Txn → ℕ → Item → List Out → Type 0
  Knows t number x outs = Waited t number x ⊎ (asked_by t outs ≡ [] → ⊥)

  abbrev KnowsAll : Turn SiteState → Type 0
  KnowsAll turn = (t : Txn) (r : Running) (number : ℕ) (x : Item) (q : Option Site) → running_of turn.state t ≡ Some r → r.phase ≡ asking number x q → Knows t number x turn.outs

  more : (t : Txn) (number : ℕ) (x : Item) (outs new : List Out) → Knows t number x outs → Knows t number x (outs ++ new)
  more t number x outs new (inl waited) = inl waited
  more t number x outs new (inr some) = inr (λ none. some (empty_first (asked_by t outs) (asked_by t new) (sym (asked_append t outs new) ∙ none)))

  -- programs as they were before the step
  as_before : (turn : Turn SiteState) → turn.state.running ≡ state.running → KnowsAll turn
  as_before turn same t r number x q f is = inl (record { program = r; server = q; found = ap (program_of t) (sym same) ∙ f; phase = is })

  -- programs as they were in an earlier turn
  sends : (turn after : Turn SiteState) (new : List Out) → after.state.running ≡ turn.state.running → after.outs ≡ turn.outs ++ new → KnowsAll turn → KnowsAll after
  sends turn after new same told all t r number x q f is = subst (Knows t number x) (sym told) (more t number x turn.outs new (all t r number x q (ap (program_of t) (sym same) ∙ f) is))

  -- one is put
  puts : (turn after : Turn SiteState) (now : Running) (new : List Out) → after.state.running ≡ put_running now turn.state.running → after.outs ≡ turn.outs ++ new →
      ((number : ℕ) (x : Item) (q : Option Site) → now.phase ≡ asking number x q → Knows now.txn number x (turn.outs ++ new)) → KnowsAll turn → KnowsAll after
  puts turn after now new placed told own all t r number x q f is = subst (Knows t number x) (sym told) (go (now.txn.0 == t.0) refl)
    where
      found : program_of t (put_running now turn.state.running) ≡ Some r
      found = ap (program_of t) (sym placed) ∙ f

      its : (now.txn.0 == t.0) ≡ true → now.txn ≡ t
      its e = ap (λ n. let u : Txn = record { 0 = n } in u) (eqb-true now.txn.0 t.0 e)

      go : (b : Bool) → (now.txn.0 == t.0) ≡ b → Knows t number x (turn.outs ++ new)
      go true e =
          let same : now ≡ r = something (sym (put_found now turn.state.running) ∙ ap (λ u. program_of u (put_running now turn.state.running)) (its e) ∙ found) in
          subst (λ u. Knows u number x (turn.outs ++ new)) (its e) (own number x q (ap (λ (z : Running). z.phase) same ∙ is))
      go false e = more t number x turn.outs new (all t r number x q (sym (put_other t now turn.state.running e) ∙ found) is)

  -- one has ended
  ends : (turn after : Turn SiteState) (u : Txn) → after.state.running ≡ filter (λ (r : Running). not (is_txn u r.txn)) turn.state.running → after.outs ≡ turn.outs → KnowsAll turn → KnowsAll after
  ends turn after u kept same all t r number x q f is = subst (Knows t number x) (sym same) (go (u.0 == t.0) refl)
    where
      found : program_of t (filter (λ (r : Running). not (is_txn u r.txn)) turn.state.running) ≡ Some r
      found = ap (program_of t) (sym kept) ∙ f

      go : (b : Bool) → (u.0 == t.0) ≡ b → Knows t number x turn.outs
      go true e =
          let its : u ≡ t = ap (λ n. let z : Txn = record { 0 = n } in z) (eqb-true u.0 t.0 e) in
          absurd (nothing (sym (filtered_out u turn.state.running) ∙ ap (λ z. program_of z (filter (λ (r : Running). not (is_txn u r.txn)) turn.state.running)) its ∙ found))
      go false e = all t r number x q (sym (filtered_other u t turn.state.running e) ∙ found) is

  -- a program asks for an item
  asks_now : (turn : Turn SiteState) (r : Running) (x : Item) → KnowsAll turn → KnowsAll (programs.ask turn r x)
  asks_now turn r x all = puts turn (programs.ask turn r x) now ((1, 0, message) ∷ []) refl refl (λ number y q is. inr told) all
    where
      now : Running
      now = record r { asks = r.asks + 1; phase = asking (r.asks + 1) x None }

      message : Message
      message = letters.ReadAsk r.txn (r.asks + 1) x

      self : (n : ℕ) → (n == n) ≡ true
      self n = grind arith

      its : asked_by r.txn (let out : Out = (1, 0, letters.ReadAsk r.txn (r.asks + 1) x) in out ∷ []) ≡ letters.ReadAsk r.txn (r.asks + 1) x ∷ []
      its = ap (λ b. (if b then letters.ReadAsk r.txn (r.asks + 1) x ∷ [] else []) ++ []) (self r.txn.0)

      told : asked_by r.txn (turn.outs ++ (1, 0, message) ∷ []) ≡ [] → ⊥
      told none = not_empty (asked_by r.txn turn.outs) message [] (ap (λ ms. asked_by r.txn turn.outs ++ ms) (sym its) ∙ sym (asked_append r.txn turn.outs ((1, 0, message) ∷ [])) ∙ none)

  -- one that asks for no item
  other_phase : (phase : Phase) → ((number : ℕ) (x : Item) (q : Option Site) → phase ≡ asking number x q → ⊥) → (t : Txn) (outs : List Out) (number : ℕ) (x : Item) (q : Option Site) → phase ≡ asking number x q → Knows t number x outs
  other_phase phase none t outs number x q is = absurd (none number x q is)

  sent_not : (number : ℕ) (x : Item) (q : Option Site) → sent ≡ asking number x q → ⊥
  sent_not number x q is = cc is

  preparing_not : (reads writes : List (Item × ℤ)) (awaited : List Site) (number : ℕ) (x : Item) (q : Option Site) → preparing reads writes awaited ≡ asking number x q → ⊥
  preparing_not reads writes awaited number x q is = cc is

  ends_know : (turn : Turn SiteState) (r : Running) (cause : Cause) → KnowsAll turn → KnowsAll (programs.end_by turn r cause (comes_to w r))
  ends_know turn r cause all =
      puts turn (programs.end_by turn r cause (comes_to w r)) (record r { phase = sent }) ((1, 0, letters.EndAsk r.txn cause (comes_to w r).reads) ∷ []) refl refl
      (other_phase sent sent_not r.txn (turn.outs ++ (1, 0, letters.EndAsk r.txn cause (comes_to w r).reads) ∷ [])) all

  goes_know : (turn : Turn SiteState) (r : Running) {after : Turn SiteState} → Goes w turn r after → KnowsAll turn → KnowsAll after
  goes_know turn r (parts.reads_next x e) all = asks_now turn r x all
  goes_know turn r (parts.prepares e) all =
      puts turn (programs.prepare w turn r (comes_to w r)) now (map (prepare_out w turn.state.vector r.txn (comes_to w r).writes) vs) (runs (holds_some w (comes_to w r).writes turn.state.site)) refl
      (other_phase (preparing (comes_to w r).reads (comes_to w r).writes vs) (preparing_not (comes_to w r).reads (comes_to w r).writes vs) r.txn (turn.outs ++ map (prepare_out w turn.state.vector r.txn (comes_to w r).writes) vs)) all
    where
      vs : List Site
      vs = voters w turn.state (comes_to w r).writes

      now : Running
      now = record r { phase = preparing (comes_to w r).reads (comes_to w r).writes vs }

      runs : (b : Bool) → (let s : SiteState = (if b then record (turn.state) { staged = stage r.txn (programs.held_by w turn.state.site (comes_to w r).writes) turn.state.staged } else turn.state) in put_running now s.running) ≡ put_running now turn.state.running
      runs true = refl
      runs false = refl
  goes_know turn r (parts.stops e) all = ends_know turn r causes.Own all
  goes_know turn r (parts.overflows e) all = ends_know turn r causes.Overflow all

  row_knows : (after : Turn SiteState) → Row w state from letter after → KnowsAll after
  row_knows after (parts.halts u f m) = λ t r number x q found is. absurd (nothing found)
  row_knows after (parts.returns u f m) = as_before (return_row state) refl
  row_knows after (parts.refuses k t writes u f l m) = as_before (send (opened state) (k + 2, letter.from, letters.Vote t (No letter.to state.session))) refl
  row_knows after (parts.idle i) = as_before (opened state) refl
  row_knows after (parts.welcomed v next m) = as_before (with_state (opened state) (record state { vector = v; next = next })) refl
  row_knows after (parts.served t k x h n c m q i) = as_before (send (opened state) (h.0 + 1, n, letters.Value t k c.value)) refl
  row_knows after (parts.notes r k x q s f is m) =
      puts (opened state) (with_running (opened state) (record r { phase = asking k x (Some s) })) (record r { phase = asking k x (Some s) }) [] refl refl
      (λ number y z e. (let numbers : k ≡ number = cc e in let items : x ≡ y = cc e in inl (subst (λ n. Waited r.txn n y) numbers (subst (Waited r.txn k) items (record { program = r; server = q; found = f; phase = is })))))
      (as_before (opened state) refl)
  row_knows after (parts.applied t number ps m q) = as_before (tell (with_state (opened state) (apply state t number ps)) (letters.Ack t)) refl
  row_knows after (parts.over t m) = ends (opened state) (programs.ended (opened state) t) t refl refl (as_before (opened state) refl)
  row_knows after (parts.dropped t again m n) = ends (opened state) (parts.drops state t) t refl refl (as_before (opened state) refl)
  row_knows after (parts.retried t m r g) =
      goes_know (tell (parts.drops state t) (letters.Begin (next_attempt w t))) (fresh (next_attempt w t)) g
      (sends (parts.drops state t) (tell (parts.drops state t) (letters.Begin (next_attempt w t))) ((1, 0, letters.Begin (next_attempt w t)) ∷ []) refl refl (ends (opened state) (parts.drops state t) t refl refl (as_before (opened state) refl)))
  row_knows after (parts.falls s m) = as_before (with_vector (opened state) s 0) refl
  row_knows after (parts.rises s n m) = as_before (with_vector (opened state) s n) refl
  row_knows after (parts.copies x target n c m q) = as_before (send (opened state) (target.0 + 1, n, letters.CopyValue x c.value c.version)) refl
  row_knows after (parts.staged k t writes m) = as_before (send (with_state (opened state) (record state { staged = stage t writes state.staged })) ((site (k + 1)).0 + 1, letter.from, letters.Vote t Yes)) refl
  row_knows after (parts.counts k r reads writes awaited f is m s) =
      puts (opened state) (with_running (opened state) (record r { phase = preparing reads writes (parts.but (site (k + 1)) awaited) })) (record r { phase = preparing reads writes (parts.but (site (k + 1)) awaited) }) [] refl refl
      (other_phase (preparing reads writes (parts.but (site (k + 1)) awaited)) (preparing_not reads writes (parts.but (site (k + 1)) awaited)) r.txn []) (as_before (opened state) refl)
  row_knows after (parts.renewed k x v version c m q l) = as_before (tell (with_state (opened state) (record state { copies = set_copy x v version state.copies })) (letters.CopyDone x version)) refl
  row_knows after (parts.given r k x q v f is m g) = goes_know (opened state) (record r { answers = put r.answers x v }) g (as_before (opened state) refl)

  move_knows : (turn after : Turn SiteState) → Move w state from letter turn after → KnowsAll turn → KnowsAll after
  move_knows turn after (parts.begins s n l g) all =
      goes_know (tell (parts.passed w turn) (letters.Begin (parts.next_of turn))) (fresh (parts.next_of turn)) g
      (sends turn (tell (parts.passed w turn) (letters.Begin (parts.next_of turn))) ((1, 0, letters.Begin (parts.next_of turn)) ∷ []) refl refl all)
  move_knows turn after (parts.asks r k x s q f is m i) all = asks_now turn r x all
  move_knows turn after (parts.loses r reads writes awaited s f is m) all =
      puts turn (with_running turn (record r { phase = preparing reads writes (parts.but s awaited) })) (record r { phase = preparing reads writes (parts.but s awaited) }) [] refl (sym (append-nil turn.outs))
      (other_phase (preparing reads writes (parts.but s awaited)) (preparing_not reads writes (parts.but s awaited)) r.txn (turn.outs ++ [])) all
  move_knows turn after (parts.joins r reads writes awaited s n f is m h) all =
      puts turn (send (with_running turn (record r { phase = preparing reads writes (programs.with_vote s awaited) })) (prepare_out w turn.state.vector r.txn writes s)) (record r { phase = preparing reads writes (programs.with_vote s awaited) })
      (prepare_out w turn.state.vector r.txn writes s ∷ []) refl refl
      (other_phase (preparing reads writes (programs.with_vote s awaited)) (preparing_not reads writes (programs.with_vote s awaited)) r.txn (turn.outs ++ prepare_out w turn.state.vector r.txn writes s ∷ [])) all
  move_knows turn after (parts.commits r reads writes f is m) all =
      puts turn (tell (with_running turn (record r { phase = sent })) (letters.CommitAsk r.txn (record { reads = reads; writes = writes; under = turn.state.vector }))) (record r { phase = sent })
      ((1, 0, letters.CommitAsk r.txn (record { reads = reads; writes = writes; under = turn.state.vector })) ∷ []) refl refl
      (other_phase sent sent_not r.txn (turn.outs ++ (1, 0, letters.CommitAsk r.txn (record { reads = reads; writes = writes; under = turn.state.vector })) ∷ [])) all

  pub step_knows : Ascend state.running → (t : Txn) (r : Running) (number : ℕ) (x : Item) (q : Option Site) → running_of (hear_site w state from letter).state t ≡ Some r → r.phase ≡ asking number x q →
      Waited t number x ⊎ (asked_by t (hear_site w state from letter).outs ≡ [] → ⊥)
  step_knows a = step_keeps w state from letter KnowsAll row_knows (λ turn after move up all. move_knows turn after move all) a
