-- What a site's step does to its copies, and what it tells of them: an Apply and a CopyValue change copies, and a CopyDo sends one.
use Rattle.std.proofs.Common.{◌≡◌, ◌⊎◌, inl, inr, ℕ, ℤ, suc, ◌+◌, nat_le, Bool, true, false, ◌&&◌, List, [], ◌∷◌, ◌++◌, map, Some, arith, sym, subst, ap, ◌∙◌, refl}
use Rattle.std.specs.Prelude.{⊤}
use Rattle.std.specs.List.{AllByRecursion}
use Rattle.std.proofs.lemmas.Bool.{true≢false}
use Rattle.raid_base.specs.declared.names.Txn.{Txn}
use Rattle.raid_base.specs.declared.names.Item.{Item}
use Rattle.raid_base.specs.declared.names.Site.{Site}
use Rattle.raid_program.specs.Run.{put}
use Rattle.raid_workload.specs.declared.workload.Workload.{Workload}
use Rattle.raid_message.specs.declared.letter.Message.{Message}
use Rattle.raid_message.specs.declared.letter.Message.TheVariants as letters
use Rattle.raid_message.specs.declared.letter.Letter.{Letter}
use Rattle.raid_steps.specs.State.{Out, Turn, opened, tell, Copy, Running, SiteState}
use Rattle.raid_steps.specs.Fits.{is_of_sequencer}
use Rattle.raid_steps.specs.Copies.{copy_of, staged_of, renewed, set_copy}
use Rattle.raid_steps.specs.Programs as programs
use Rattle.raid_steps.specs.Site.{fits_here, hear_site}
use Rattle.raid_moves.specs.Moves as parts
use Rattle.raid_moves.specs.Moves.{Ascend, Tells, Says, Given, Goes, comes_to, fresh, Idle, Row, Move, Moves}
use Rattle.raid_moves.proofs.Left.{goes_leave, moves_leave}
use Rattle.raid_moves.proofs.Steps.{site_moves}
use Rattle.raid_sessions.proofs.Lists.{all_append}

-- a message that tells nothing of copies
abbrev pub IsQuiet : Message → Type 0
IsQuiet (letters.Ack t) = ⊥
IsQuiet (letters.CopyDone x version) = ⊥
IsQuiet (letters.CopyValue x value version) = ⊥
IsQuiet other = ⊤

abbrev pub is_apply : Message → Bool
is_apply (letters.Apply t number) = true
is_apply other = false

module _ (w : Workload) (state : SiteState) (from : ℕ) (letter : Letter) where
  -- the letter has nothing applied
  abbrev pub Passes : Type 0
  Passes = (t : Txn) (number : ℕ) → Tells w state from letter (letters.Apply t number) → ⊥

  -- a copy is sent, as the letter has it
  pub data IsSent (out : Out) : Type 0 where
    copied : (x : Item) (target : Site) (n : ℕ) (c : Copy) → Tells w state from letter (letters.CopyDo x target n) → copy_of state x ≡ Some c → out ≡ (target.0 + 1, n, letters.CopyValue x c.value c.version) → IsSent out

  abbrev pub AllSent : (Out → Type 0) → Turn SiteState → Type 0
  AllSent Q turn = AllByRecursion (λ (out : Out). IsQuiet out.2 ⊎ Q out) turn.outs

  -- what became of the copies, and what was told of them
  pub data Copied (turn : Turn SiteState) : Type 0 where
    keeps : turn.state.copies ≡ state.copies → Passes → AllSent IsSent turn → Copied turn
    applies : (t : Txn) (number : ℕ) (ps : List (Item × ℤ)) → Tells w state from letter (letters.Apply t number) → staged_of state t ≡ Some ps → turn.state.copies ≡ map (renewed number ps) state.copies →
        AllSent (λ out. out ≡ (1, 0, letters.Ack t)) turn → Copied turn
    renews : (k : ℕ) (x : Item) (v : ℤ) (version : ℕ) (c : Copy) → Says w state from letter k (letters.CopyValue x v version) → copy_of state x ≡ Some c → nat_le c.version version ≡ true →
        turn.state.copies ≡ set_copy x v version state.copies → AllSent (λ out. out ≡ (1, 0, letters.CopyDone x version)) turn → Copied turn

  -- what is sent besides
  module _ (Q : Out → Type 0) where
    abbrev Fine : Out → Type 0
    Fine out = IsQuiet out.2 ⊎ Q out

    more : (turn : Turn SiteState) (outs : List Out) → AllByRecursion Fine turn.outs → AllByRecursion Fine outs → AllByRecursion Fine (turn.outs ++ outs)
    more turn outs a b = all_append Fine turn.outs outs a b

    prepared : (v : List ℕ) (t : Txn) (writes : List (Item × ℤ)) (ss : List Site) → AllByRecursion Fine (map (programs.prepare_out w v t writes) ss)
    prepared v t writes [] = tt
    prepared v t writes (s ∷ ss) = (inl tt, prepared v t writes ss)

    pub goes_send : (turn : Turn SiteState) (r : Running) {after : Turn SiteState} → Goes w turn r after → AllSent Q turn → AllSent Q after
    goes_send turn r (parts.reads_next x e) a = more turn _ a (inl tt, tt)
    goes_send turn r (parts.prepares e) a = more turn _ a (prepared turn.state.vector r.txn (comes_to w r).writes (programs.voters w turn.state (comes_to w r).writes))
    goes_send turn r (parts.stops e) a = more turn _ a (inl tt, tt)
    goes_send turn r (parts.overflows e) a = more turn _ a (inl tt, tt)

    move_sends : {turn after : Turn SiteState} → Move w state from letter turn after → AllSent Q turn → AllSent Q after
    move_sends {turn = turn} (parts.begins s n l g) a = goes_send (tell (parts.passed w turn) (letters.Begin (parts.next_of turn))) (fresh (parts.next_of turn)) g (more turn _ a (inl tt, tt))
    move_sends {turn = turn} (parts.asks r k x s q f ph m i) a = more turn _ a (inl tt, tt)
    move_sends (parts.loses r read writes awaited s f ph m) a = a
    move_sends {turn = turn} (parts.joins r read writes awaited s n f ph m h) a = more turn _ a (inl tt, tt)
    move_sends {turn = turn} (parts.commits r read writes f ph h) a = more turn _ a (inl tt, tt)

    pub moves_send : {turn last : Turn SiteState} → Moves w state from letter turn last → AllSent Q turn → AllSent Q last
    moves_send parts.done a = a
    moves_send (parts.moves m rest) a = moves_send rest (move_sends m a)

  -- why nothing is applied
  told_other : (m : Message) → Tells w state from letter m → is_apply m ≡ false → Passes
  told_other m tells other t number applied = true≢false (ap is_apply (sym applied.is ∙ tells.is) ∙ other)

  not_from : (from ≡ 1 → ⊥) → Passes
  not_from other t number applied = other applied.by

  of_other : (k : ℕ) → from ≡ suc (suc k) → Passes
  of_other k of = not_from (λ one. omega (arith, of, one))

  given_other : {t : Txn} {ask : ℕ} {z : ℤ} → Given w state from letter t ask z → Passes
  given_other {t = t} {ask = ask} (parts.read_here x h n c m q i) = told_other (letters.ReadDo t ask x h n) m refl
  given_other (parts.read_elsewhere k v m) = of_other k m.by

  is_down : state.up ≡ false → Passes
  is_down down t number applied = true≢false (sym applied.heard.up ∙ down)

  idle_passes : Idle w state from letter → Passes
  idle_passes (parts.down k d of) = is_down d
  idle_passes (parts.stays_down d of m) = is_down d
  idle_passes (parts.stays_up u of m) = not_from (λ one. omega (arith, of, one))
  idle_passes (parts.late u of l) = λ t number applied. true≢false (sym applied.heard.meant ∙ l)
  idle_passes (parts.late_peer k u of l m) = of_other k of
  idle_passes (parts.unfit h of n) = λ t number applied. true≢false (sym applied.fits ∙ subst (λ m. (is_of_sequencer w m && fits_here w state m) ≡ false) applied.is n)
  idle_passes (parts.unfit_peer k h of n) = of_other k of
  idle_passes (parts.unasked t k v g n) = given_other g
  idle_passes (parts.unserved t k s m n) = told_other (letters.Serving t k s) m refl
  idle_passes (parts.refused k t named own m) = of_other k m.by
  idle_passes (parts.outdated k t m n) = of_other k m.by
  idle_passes (parts.uncounted k t m n) = of_other k m.by
  idle_passes (parts.older k x v version c m q l) = of_other k m.by

  -- a program that goes on
  goes_on : (turn : Turn SiteState) (r : Running) {after : Turn SiteState} → Goes w turn r after → turn.state.copies ≡ state.copies → Passes → AllSent IsSent turn → Copied after
  goes_on turn r g same passes a = keeps ((goes_leave w turn r g).copies ∙ same) passes (goes_send IsSent turn r g a)

  row_copies : {after : Turn SiteState} → Row w state from letter after → Copied after
  row_copies (parts.halts u of e) = keeps refl (not_from (λ one. omega (arith, of, one))) (inl tt, tt)
  row_copies (parts.returns u of e) = keeps refl (not_from (λ one. omega (arith, of, one))) (inl tt, tt)
  row_copies (parts.refuses k t writes u of l e) = keeps refl (of_other k of) (inl tt, tt)
  row_copies (parts.idle i) = keeps refl (idle_passes i) tt
  row_copies (parts.welcomed v next m) = keeps refl (told_other (letters.Welcome v next) m refl) tt
  row_copies (parts.served t k x h n c m q i) = keeps refl (told_other (letters.ReadDo t k x h n) m refl) (inl tt, tt)
  row_copies (parts.notes r k x q s f ph m) = keeps refl (told_other (letters.Serving r.txn k s) m refl) tt
  row_copies (parts.applied t number ps m q) = applies t number ps m q refl (inr refl, tt)
  row_copies (parts.over t m) = keeps refl (told_other (letters.Done t) m refl) tt
  row_copies (parts.dropped t again m q) = keeps refl (told_other (letters.Drop t again) m refl) tt
  row_copies (parts.retried t m q g) = goes_on (tell (parts.drops state t) (letters.Begin (programs.next_attempt w t))) (fresh (programs.next_attempt w t)) g refl (told_other (letters.Drop t true) m refl) (inl tt, tt)
  row_copies (parts.falls s m) = keeps refl (told_other (letters.DownNote s) m refl) tt
  row_copies (parts.rises s n m) = keeps refl (told_other (letters.UpNote s n) m refl) tt
  row_copies (parts.copies x target n c m q) = keeps refl (told_other (letters.CopyDo x target n) m refl) (inr (copied x target n c m q refl), tt)
  row_copies (parts.staged k t writes m) = keeps refl (of_other k m.by) (inl tt, tt)
  row_copies (parts.counts k r read writes awaited f ph m q) = keeps refl (of_other k m.by) tt
  row_copies (parts.renewed k x v version c m q l) = renews k x v version c m q l refl (inr refl, tt)
  row_copies (parts.given r k x q v f ph g gg) = goes_on (opened state) (record r { answers = put r.answers x v }) gg refl (given_other g) tt

  moves_copy : {turn last : Turn SiteState} → Moves w state from letter turn last → Copied turn → Copied last
  moves_copy m (keeps same passes a) = keeps ((moves_leave w state from letter m).copies ∙ same) passes (moves_send IsSent m a)
  moves_copy m (applies t number ps tells q same a) = applies t number ps tells q ((moves_leave w state from letter m).copies ∙ same) (moves_send (λ out. out ≡ (1, 0, letters.Ack t)) m a)
  moves_copy m (renews k x v version c says q l same a) = renews k x v version c says q l ((moves_leave w state from letter m).copies ∙ same) (moves_send (λ out. out ≡ (1, 0, letters.CopyDone x version)) m a)

  pub step_copies : Ascend state.running → Copied (hear_site w state from letter)
  step_copies a = (let reached = site_moves w state from letter a in moves_copy reached.1.1 (row_copies reached.1.0))
