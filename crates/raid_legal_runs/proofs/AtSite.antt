-- A home's step: its programs go on having what was seen, and tell it.
use Rattle.std.proofs.Common.{◌≡◌, ℕ, ℤ, ◌+◌, ◌==◌, Bool, true, false, List, [], ◌∷◌, ◌++◌, map, Option, Some, None, if◌then◌else◌, arith, sym, subst, ap, ◌∙◌, refl}
use Rattle.std.specs.Prelude.{⊤}
use Rattle.std.specs.List.{AllByRecursion}
use Rattle.std.proofs.lemmas.Bool.{eqb-true, true≢false}
use Rattle.std.proofs.lemmas.Grind.{common_steps}
use Rattle.raid_base.specs.declared.names.Txn.{Txn}
use Rattle.raid_base.specs.declared.names.Item.{Item}
use Rattle.raid_base.specs.declared.names.Site.{Site}
use Rattle.raid_base.specs.declared.entry.Cause.{Cause}
use Rattle.raid_base.specs.declared.entry.Cause.TheVariants as causes
use Rattle.raid_base.specs.declared.entry.Noted.{Noted}
use Rattle.raid_base.specs.Find.{first_of}
use Rattle.raid_base.specs.Names.{is_item, holds}
use Rattle.raid_program.specs.Run.{given, put}
use Rattle.raid_workload.specs.declared.workload.Workload.{Workload}
use Rattle.raid_rules.specs.History.{has_ended}
use Rattle.raid_legal.specs.Seen.{seen, holds_some}
use Rattle.raid_message.specs.declared.letter.Message.{Message}
use Rattle.raid_message.specs.declared.letter.Message.TheVariants as letters
use Rattle.raid_message.specs.declared.letter.Letter.{Letter}
use Rattle.raid_steps.specs.State.{Out, Turn, opened, tell, Phase, asking, preparing, sent, Running, SiteState}
use Rattle.raid_steps.specs.Programs as programs
use Rattle.raid_steps.specs.Programs.{put_running, running_of, prepare_out, voters}
use Rattle.raid_steps.specs.Copies.{stage}
use Rattle.raid_steps.specs.Site.{hear_site}
use Rattle.raid_sessions.proofs.Lists.{all_append}
use Rattle.raid_moves.specs.Moves as parts
use Rattle.raid_moves.specs.Moves.{Ascend, Given, comes_to, Goes, fresh, Row, next_of, passed, Move}
use Rattle.raid_moves.proofs.Places.{all_found, all_kept, all_put}
use Rattle.raid_moves.proofs.Steps.{step_keeps}
use Rattle.raid_runs.specs.Asked.{IsSeen}
use Rattle.raid_legal_runs.specs.Tell.{IsSeenBut, HasSeen}

-- the value of an item is put among pairs
put_here : (x y : Item) (v : ℤ) (ps : List (Item × ℤ)) → is_item x y ≡ true → first_of y (put ps x v) ≡ Some v
put_here x y v [] q = grind (arith, common_steps, q)
put_here x y v (p ∷ ps) q = grind (arith, common_steps, put_here x y v ps, q)

put_there : (x y : Item) (v : ℤ) (ps : List (Item × ℤ)) → is_item x y ≡ false → first_of y (put ps x v) ≡ first_of y ps
put_there x y v [] q = grind (arith, common_steps, q)
put_there x y v (p ∷ ps) q = grind (arith, common_steps, put_there x y v ps, q)

put_holds : (x y : Item) (v : ℤ) (ps : List (Item × ℤ)) → is_item x y ≡ false → holds y (put ps x v) ≡ holds y ps
put_holds x y v [] q = grind (arith, common_steps, q)
put_holds x y v (p ∷ ps) q = grind (arith, common_steps, put_holds x y v ps, q)

module _ (w : Workload) (p : List Noted) where
  -- with the value that was seen, all answers are what was seen
  pub but_and_one : (t : Txn) (x : Item) (v : ℤ) (answers : List (Item × ℤ)) → IsSeenBut w p t x answers → seen w p t x ≡ Some v → IsSeen w p t (put answers x v)
  but_and_one t x v answers but value y here = go (is_item x y) refl
    where
      go : (b : Bool) → is_item x y ≡ b → seen w p t y ≡ given (put answers x v) y
      go true q = ap (seen w p t) (ap (λ n. let z : Item = record { 0 = n } in z) (eqb-true y.0 x.0 q)) ∙ value ∙ sym (put_here x y v answers q)
      go false q = but y q (sym (put_holds x y v answers q) ∙ here) ∙ sym (put_there x y v answers q)

  -- a program of a transaction that isn't over has what was seen
  abbrev pub Has : Running → Type 0
  Has r = has_ended p r.txn ≡ false → HasSeen w p r.txn r.answers r.phase

  -- what tells the reads of a transaction that isn't over tells what was seen
  abbrev pub TellsSeen : Message → Type 0
  TellsSeen (letters.CommitAsk t request) = has_ended p t ≡ false → IsSeen w p t request.reads
  TellsSeen (letters.EndAsk t cause reads) = has_ended p t ≡ false → IsSeen w p t reads
  TellsSeen other = ⊤

  abbrev pub Says : Out → Type 0
  Says out = TellsSeen out.2

  pub record Now (turn : Turn SiteState) : Type 0 where
    pub running : AllByRecursion Has turn.state.running
    pub outs : AllByRecursion Says turn.outs

  -- a program is put, and more is sent
  puts : (turn after : Turn SiteState) (now : Running) (new : List Out) → after.state.running ≡ put_running now turn.state.running → after.outs ≡ turn.outs ++ new → Has now → AllByRecursion Says new → Now turn → Now after
  puts turn after now new put more has says n = record {
    running = subst (AllByRecursion Has) (sym put) (all_put Has now turn.state.running has n.running);
    outs = subst (AllByRecursion Says) (sym more) (all_append Says turn.outs new n.outs says);
  }

  -- more is sent alone
  sends : (turn after : Turn SiteState) (new : List Out) → after.state.running ≡ turn.state.running → after.outs ≡ turn.outs ++ new → AllByRecursion Says new → Now turn → Now after
  sends turn after new same more says n = record {
    running = subst (AllByRecursion Has) (sym same) n.running;
    outs = subst (AllByRecursion Says) (sym more) (all_append Says turn.outs new n.outs says);
  }

  -- nothing is sent
  quiet : (turn after : Turn SiteState) → after.outs ≡ turn.outs → AllByRecursion Has after.state.running → Now turn → Now after
  quiet turn after same running n = record { running = running; outs = subst (AllByRecursion Says) (sym same) n.outs }

  prepares_say : (v : List ℕ) (u : Txn) (writes : List (Item × ℤ)) (ss : List Site) → AllByRecursion Says (map (prepare_out w v u writes) ss)
  prepares_say v u writes [] = tt
  prepares_say v u writes (s ∷ ss) = (tt, prepares_say v u writes ss)

  -- a program goes on that has what was seen, having read just its answers
  goes_now : (turn : Turn SiteState) (r : Running) {after : Turn SiteState} → Goes w turn r after → (has_ended p r.txn ≡ false → IsSeen w p r.txn r.answers) → (comes_to w r).reads ≡ r.answers → Now turn → Now after
  goes_now turn r (parts.reads_next x e) has reads n =
      puts turn (programs.ask turn r x) (record r { asks = r.asks + 1; phase = asking (r.asks + 1) x None }) ((1, 0, letters.ReadAsk r.txn (r.asks + 1) x) ∷ []) refl refl (λ alive y other here. has alive y here) (tt, tt) n
  goes_now turn r (parts.prepares e) has reads n =
      puts turn (programs.prepare w turn r (comes_to w r)) now (map (prepare_out w turn.state.vector r.txn (comes_to w r).writes) vs) (runs (holds_some w (comes_to w r).writes turn.state.site)) refl
      (λ alive. subst (IsSeen w p r.txn) (sym reads) (has alive)) (prepares_say turn.state.vector r.txn (comes_to w r).writes vs) n
    where
      vs : List Site
      vs = voters w turn.state (comes_to w r).writes

      now : Running
      now = record r { phase = preparing (comes_to w r).reads (comes_to w r).writes vs }

      runs : (b : Bool) → (let s : SiteState = (if b then record (turn.state) { staged = stage r.txn (programs.held_by w turn.state.site (comes_to w r).writes) turn.state.staged } else turn.state) in put_running now s.running) ≡ put_running now turn.state.running
      runs true = refl
      runs false = refl
  goes_now turn r (parts.stops e) has reads n = ends turn r causes.Own has reads n
    where
      ends : (turn : Turn SiteState) (r : Running) (cause : Cause) → (has_ended p r.txn ≡ false → IsSeen w p r.txn r.answers) → (comes_to w r).reads ≡ r.answers → Now turn → Now (programs.end_by turn r cause (comes_to w r))
      ends turn r cause has reads n =
          puts turn (programs.end_by turn r cause (comes_to w r)) (record r { phase = sent }) ((1, 0, letters.EndAsk r.txn cause (comes_to w r).reads) ∷ []) refl refl (λ alive. tt)
          ((λ alive. subst (IsSeen w p r.txn) (sym reads) (has alive)), tt) n
  goes_now turn r (parts.overflows e) has reads n =
      puts turn (programs.end_by turn r causes.Overflow (comes_to w r)) (record r { phase = sent }) ((1, 0, letters.EndAsk r.txn causes.Overflow (comes_to w r).reads) ∷ []) refl refl (λ alive. tt)
      ((λ alive. subst (IsSeen w p r.txn) (sym reads) (has alive)), tt) n

  -- the step, where a program that begins has read nothing, one that gets what it waits for has read just its answers, and gets what was seen
  module _ (state : SiteState) (from : ℕ) (letter : Letter) (begun_reads : (t : Txn) → (comes_to w (fresh t)).reads ≡ [])
      (given_reads : (r : Running) (ask : ℕ) (x : Item) (q : Option Site) (v : ℤ) → running_of state r.txn ≡ Some r → r.phase ≡ asking ask x q → (comes_to w (record r { answers = put r.answers x v })).reads ≡ put r.answers x v)
      (gets_seen : (r : Running) (ask : ℕ) (x : Item) (q : Option Site) (v : ℤ) → running_of state r.txn ≡ Some r → r.phase ≡ asking ask x q → has_ended p r.txn ≡ false → Given w state from letter r.txn ask v → seen w p r.txn x ≡ Some v) where
    -- what a program has that is found in a turn
    has_phase : (turn : Turn SiteState) (r : Running) (phase : Phase) → running_of turn.state r.txn ≡ Some r → r.phase ≡ phase → Now turn → has_ended p r.txn ≡ false → HasSeen w p r.txn r.answers phase
    has_phase turn r phase f is n alive = subst (HasSeen w p r.txn r.answers) is (all_found Has (λ (z : Running). z.txn.0 == r.txn.0) turn.state.running r n.running f alive)

    begins_now : (turn : Turn SiteState) (t : Txn) {after : Turn SiteState} → parts.Begins w turn t after → Now turn → Now after
    begins_now turn t g n =
        goes_now (tell turn (letters.Begin t)) (fresh t) g (λ alive y here. absurd (true≢false (sym here))) (begun_reads t) (sends turn (tell turn (letters.Begin t)) ((1, 0, letters.Begin t) ∷ []) refl refl (tt, tt) n)

    move_now : {turn after : Turn SiteState} → Move w state from letter turn after → Now turn → Now after
    move_now {turn = turn} (parts.begins s z l g) n = begins_now (passed w turn) (next_of turn) g (record { running = n.running; outs = n.outs })
    move_now {turn = turn} (parts.asks r ask x s q f ph m y) n =
        puts turn (programs.ask turn r x) (record r { asks = r.asks + 1; phase = asking (r.asks + 1) x None }) ((1, 0, letters.ReadAsk r.txn (r.asks + 1) x) ∷ []) refl refl (has_phase turn r (asking ask x (Some q)) f ph n) (tt, tt) n
    move_now {turn = turn} (parts.loses r told_reads writes awaited s f ph m) n =
        quiet turn _ refl (all_put Has (record r { phase = preparing told_reads writes (parts.but s awaited) }) turn.state.running (has_phase turn r (preparing told_reads writes awaited) f ph n) n.running) n
    move_now {turn = turn} (parts.joins r told_reads writes awaited s z f ph m y) n =
        puts turn _ (record r { phase = preparing told_reads writes (programs.with_vote s awaited) }) (prepare_out w turn.state.vector r.txn writes s ∷ []) refl refl (has_phase turn r (preparing told_reads writes awaited) f ph n) (tt, tt) n
    move_now {turn = turn} (parts.commits r told_reads writes f ph m) n =
        puts turn _ (record r { phase = sent }) ((1, 0, letters.CommitAsk r.txn (record { reads = told_reads; writes = writes; under = turn.state.vector })) ∷ []) refl refl (λ alive. tt)
        (has_phase turn r (preparing told_reads writes []) f ph n, tt) n

    row_now : Now (opened state) → {after : Turn SiteState} → Row w state from letter after → Now after
    row_now start (parts.halts u f e) = record { running = tt; outs = (tt, tt) }
    row_now start (parts.returns u f e) = record { running = start.running; outs = (tt, tt) }
    row_now start (parts.refuses i t writes u f l e) = sends (opened state) _ (_ ∷ []) refl refl (tt, tt) start
    row_now start (parts.idle i) = start
    row_now start (parts.welcomed v z e) = quiet (opened state) _ refl start.running start
    row_now start (parts.served t ask x h z c e q o) = record { running = start.running; outs = (tt, tt) }
    row_now start (parts.notes r ask x q s f ph e) =
        quiet (opened state) _ refl (all_put Has (record r { phase = asking ask x (Some s) }) state.running (has_phase (opened state) r (asking ask x q) f ph start) start.running) start
    row_now start (parts.applied t number ps e q) = record { running = start.running; outs = (tt, tt) }
    row_now start (parts.over t e) = quiet (opened state) _ refl (all_kept Has _ state.running start.running) start
    row_now start (parts.dropped t again e q) = quiet (opened state) _ refl (all_kept Has _ state.running start.running) start
    row_now start (parts.retried t e q g) = begins_now (parts.drops state t) (programs.next_attempt w t) g (quiet (opened state) (parts.drops state t) refl (all_kept Has _ state.running start.running) start)
    row_now start (parts.falls s e) = quiet (opened state) _ refl start.running start
    row_now start (parts.rises s z e) = quiet (opened state) _ refl start.running start
    row_now start (parts.copies x target z c e q) = record { running = start.running; outs = (tt, tt) }
    row_now start (parts.staged i t writes e) = record { running = start.running; outs = (tt, tt) }
    row_now start (parts.counts i r told_reads writes awaited f ph e q) =
        quiet (opened state) _ refl (all_put Has (record r { phase = preparing told_reads writes (parts.but (_) awaited) }) state.running (has_phase (opened state) r (preparing told_reads writes awaited) f ph start) start.running) start
    row_now start (parts.renewed i x v version c e q l) = record { running = start.running; outs = (tt, tt) }
    row_now start (parts.given r ask x q v f ph g gg) =
        goes_now (opened state) (record r { answers = put r.answers x v }) gg
        (λ alive. but_and_one r.txn x v r.answers (has_phase (opened state) r (asking ask x q) f ph start alive) (gets_seen r ask x q v f ph alive g)) (given_reads r ask x q v f ph) start

    pub step_now : Ascend state.running → AllByRecursion Has state.running → Now (hear_site w state from letter)
    step_now ascend running = step_keeps w state from letter Now (λ after r. row_now (record { running = running; outs = tt }) r) (λ turn after move a n. move_now move n) ascend
