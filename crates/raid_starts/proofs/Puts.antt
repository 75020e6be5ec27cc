-- What a site's step puts among its programs: moves put one at a time, and letters that let nobody begin leave who runs and who is next.
use Rattle.std.proofs.Common.{◌≡◌, ℕ, suc, ◌+◌, ◌<◌, ◌==◌, nat_lt, Bool, true, false, ◌||◌, List, [], ◌∷◌, ◌++◌, length, map, Some, None, if◌then◌else◌, sym, subst, ap, ◌∙◌, refl}
use Rattle.std.specs.List.{list_any}
use Rattle.std.proofs.lemmas.Bool.{true≢false}
use Rattle.raid_base.specs.declared.names.Txn.{Txn}
use Rattle.raid_base.specs.declared.names.Site.{Site}
use Rattle.raid_base.specs.declared.request.Request.{Request}
use Rattle.raid_base.specs.declared.entry.Cause.TheVariants as causes
use Rattle.raid_base.specs.Names.{is_txn, has_txn}
use Rattle.raid_base.specs.Sites.{site}
use Rattle.raid_program.specs.Run.{put}
use Rattle.raid_workload.specs.declared.workload.Workload.{Workload}
use Rattle.raid_rules.proofs.Push.{same_txn}
use Rattle.raid_legal.specs.Seen.{holds_some}
use Rattle.raid_message.specs.declared.letter.Message.{Message}
use Rattle.raid_message.specs.declared.letter.Message.TheVariants as letters
use Rattle.raid_message.specs.declared.letter.Letter.{Letter}
use Rattle.raid_steps.specs.State.{Out, Turn, opened, tell, asking, preparing, sent, Running, SiteState}
use Rattle.raid_steps.specs.Copies.{stage}
use Rattle.raid_steps.specs.Programs as programs
use Rattle.raid_steps.specs.Programs.{put_running, running_of, runs_here, prepare_out, voters}
use Rattle.raid_steps.specs.Site.{hear_site}
use Rattle.raid_moves.specs.Moves as parts
use Rattle.raid_moves.specs.Moves.{Ascend, comes_to, Goes, fresh, Row, Starts, next_of, passed, Move}
use Rattle.raid_moves.proofs.Places.{nothing, all_found, not_less, IsBehind, program_of, found_txn}
use Rattle.raid_moves.proofs.Steps.{step_keeps}

-- a program of the transaction is one of these
abbrev pub is_among : Txn → List Running → Bool
is_among t rs = list_any (λ (r : Running). is_txn t r.txn) rs

abbrev pub txns_of : List Running → List Txn
txns_of rs = map (λ (r : Running). r.txn) rs

pub among_txns : (t : Txn) (rs : List Running) → is_among t rs ≡ has_txn (txns_of rs) t
among_txns t [] = refl
among_txns t (r ∷ rs) = ap (λ b. is_txn t r.txn || b) (among_txns t rs)

pub length_txns : (rs : List Running) → length (txns_of rs) ≡ length rs
length_txns [] = refl
length_txns (r ∷ rs) = ap suc (length_txns rs)

pub among_put : (t : Txn) (now : Running) (rs : List Running) → is_among t (put_running now rs) ≡ (is_txn t now.txn || is_among t rs)
among_put t now [] = refl
among_put t now (q ∷ qs) = go (q.txn.0 == now.txn.0) refl (nat_lt now.txn.0 q.txn.0) (among_put t now qs)
  where
    twice : (a b : Bool) → (a || b) ≡ (a || (a || b))
    twice true b = refl
    twice false b = refl

    swap : (a b c : Bool) → (a || (b || c)) ≡ (b || (a || c))
    swap true true c = refl
    swap true false c = refl
    swap false b c = refl

    go : (b : Bool) → (q.txn.0 == now.txn.0) ≡ b → (c : Bool) → is_among t (put_running now qs) ≡ (is_txn t now.txn || is_among t qs) →
        is_among t (if b then now ∷ qs else if c then now ∷ q ∷ qs else q ∷ put_running now qs) ≡ (is_txn t now.txn || (is_txn t q.txn || is_among t qs))
    go true e c rest = twice (is_txn t now.txn) (is_among t qs) ∙ ap (λ u. is_txn t now.txn || (is_txn t u || is_among t qs)) (sym (same_txn q.txn now.txn e))
    go false e true rest = refl
    go false e false rest = ap (λ b. is_txn t q.txn || b) rest ∙ swap (is_txn t q.txn) (is_txn t now.txn) (is_among t qs)

-- a program that takes the place of one of its transaction
pub txns_put : (now old : Running) (rs : List Running) → Ascend rs → program_of now.txn rs ≡ Some old → txns_of (put_running now rs) ≡ txns_of rs
txns_put now old [] a f = absurd (nothing f)
txns_put now old (q ∷ qs) a f = go (q.txn.0 == now.txn.0) refl f (txns_put now old qs a.1)
  where
    go : (b : Bool) → (q.txn.0 == now.txn.0) ≡ b → (if b then Some q else program_of now.txn qs) ≡ Some old → (program_of now.txn qs ≡ Some old → txns_of (put_running now qs) ≡ txns_of qs) →
        txns_of (if b then now ∷ qs else if nat_lt now.txn.0 q.txn.0 then now ∷ q ∷ qs else q ∷ put_running now qs) ≡ q.txn ∷ txns_of qs
    go true e f rest = ap (λ t. t ∷ txns_of qs) (sym (same_txn q.txn now.txn e))
    go false e f rest =
        let above : q.txn.0 < old.txn.0 = all_found (IsBehind q.txn) (λ (p : Running). is_txn now.txn p.txn) qs old a.0 f in
        let after = not_less now.txn.0 q.txn.0 (subst (λ (t : Txn). q.txn.0 < t.0) (found_txn now.txn qs old f) above) in
        rw after (ap (λ ts. q.txn ∷ ts) (rest f))

-- one program of the transaction is put, more is sent, and the next one stays
pub record Puts (turn after : Turn SiteState) (t : Txn) : Type 0 where
  pub now : Running
  pub its : now.txn ≡ t
  pub put : after.state.running ≡ put_running now turn.state.running
  pub more : List Out
  pub outs : after.outs ≡ turn.outs ++ more
  pub next : after.state.next ≡ turn.state.next
  pub site : after.state.site ≡ turn.state.site

pub goes_puts : (w : Workload) (turn : Turn SiteState) (r : Running) {after : Turn SiteState} → Goes w turn r after → Puts turn after r.txn
goes_puts w turn r (parts.reads_next x e) = record { now = record r { asks = r.asks + 1; phase = asking (r.asks + 1) x None }; its = refl; put = refl; more = (1, 0, letters.ReadAsk r.txn (r.asks + 1) x) ∷ []; outs = refl; next = refl; site = refl }
goes_puts w turn r (parts.prepares e) = record { now = now; its = refl; put = runs (holds_some w (comes_to w r).writes turn.state.site); more = map (prepare_out w turn.state.vector r.txn (comes_to w r).writes) vs; outs = refl; next = nexts (holds_some w (comes_to w r).writes turn.state.site); site = at (holds_some w (comes_to w r).writes turn.state.site) }
  where
    vs : List Site
    vs = voters w turn.state (comes_to w r).writes

    now : Running
    now = record r { phase = preparing (comes_to w r).reads (comes_to w r).writes vs }

    own : Bool → SiteState
    own b = if b then record (turn.state) { staged = stage r.txn (programs.held_by w turn.state.site (comes_to w r).writes) turn.state.staged } else turn.state

    runs : (b : Bool) → (let s : SiteState = (if b then record (turn.state) { staged = stage r.txn (programs.held_by w turn.state.site (comes_to w r).writes) turn.state.staged } else turn.state) in put_running now s.running) ≡ put_running now turn.state.running
    runs true = refl
    runs false = refl

    nexts : (b : Bool) → (let s : SiteState = (if b then record (turn.state) { staged = stage r.txn (programs.held_by w turn.state.site (comes_to w r).writes) turn.state.staged } else turn.state) in s.next) ≡ turn.state.next
    nexts true = refl
    nexts false = refl

    at : (b : Bool) → (let s : SiteState = (if b then record (turn.state) { staged = stage r.txn (programs.held_by w turn.state.site (comes_to w r).writes) turn.state.staged } else turn.state) in s.site) ≡ turn.state.site
    at true = refl
    at false = refl
goes_puts w turn r (parts.stops e) = record { now = record r { phase = sent }; its = refl; put = refl; more = (1, 0, letters.EndAsk r.txn causes.Own (comes_to w r).reads) ∷ []; outs = refl; next = refl; site = refl }
goes_puts w turn r (parts.overflows e) = record { now = record r { phase = sent }; its = refl; put = refl; more = (1, 0, letters.EndAsk r.txn causes.Overflow (comes_to w r).reads) ∷ []; outs = refl; next = refl; site = refl }

-- the message lets transactions begin
abbrev pub is_start : Message → Bool
is_start (letters.Welcome v next) = true
is_start (letters.Done t) = true
is_start (letters.Drop t again) = true
is_start other = false

module _ (w : Workload) (state : SiteState) (from : ℕ) (letter : Letter) where
  -- a move puts a program that runs, or the next to begin
  pub data Effect (turn after : Turn SiteState) : Type 0 where
    puts : (r : Running) → running_of turn.state r.txn ≡ Some r → Puts turn after r.txn → Effect turn after
    begun : Starts w state from letter → (turn.state.next == 0) ≡ false → Puts (tell (passed w turn) (letters.Begin (next_of turn))) after (next_of turn) → Effect turn after

  pub move_effect : {turn after : Turn SiteState} → Move w state from letter turn after → Effect turn after
  move_effect {turn = turn} (parts.begins s z l g) = begun s z (goes_puts w (tell (passed w turn) (letters.Begin (next_of turn))) (fresh (next_of turn)) g)
  move_effect {turn = turn} (parts.asks r i x s q f ph m y) = puts r f (record { now = record r { asks = r.asks + 1; phase = asking (r.asks + 1) x None }; its = refl; put = refl; more = (1, 0, letters.ReadAsk r.txn (r.asks + 1) x) ∷ []; outs = refl; next = refl; site = refl })
  move_effect {turn = turn} (parts.loses r read writes awaited s f ph m) = puts r f (record { now = record r { phase = preparing read writes (parts.but s awaited) }; its = refl; put = refl; more = []; outs = sym (append_none turn.outs); next = refl; site = refl })
    where
      append_none : (outs : List Out) → outs ++ [] ≡ outs
      append_none [] = refl
      append_none (out ∷ outs) = ap (λ os. out ∷ os) (append_none outs)
  move_effect {turn = turn} (parts.joins r read writes awaited s z f ph m y) =
      puts r f (record { now = record r { phase = preparing read writes (programs.with_vote s awaited) }; its = refl; put = refl; more = prepare_out w turn.state.vector r.txn writes s ∷ []; outs = refl; next = refl; site = refl })
  move_effect {turn = turn} (parts.commits r read writes f ph m) =
      let request : Request = record { reads = read; writes = writes; under = turn.state.vector } in
      puts r f (record { now = record r { phase = sent }; its = refl; put = refl; more = (1, 0, letters.CommitAsk r.txn request) ∷ []; outs = refl; next = refl; site = refl })

  -- a letter that lets nobody begin
  pub record Calm (turn : Turn SiteState) : Type 0 where
    pub same : txns_of turn.state.running ≡ txns_of state.running
    pub next : turn.state.next ≡ state.next

  module _ (ascend : Ascend state.running) (some : from ≡ 0 → ⊥) (calm : from ≡ 1 → is_start letter.message ≡ false) where
    starts_not : Starts w state from letter → ⊥
    starts_not (parts.at_welcome v next m) = true≢false (ap is_start (sym m.is) ∙ calm m.by)
    starts_not (parts.at_done t m) = true≢false (ap is_start (sym m.is) ∙ calm m.by)
    starts_not (parts.at_drop t again m) = true≢false (ap is_start (sym m.is) ∙ calm m.by)

    puts_calm : (turn after : Turn SiteState) (r : Running) → Ascend turn.state.running → running_of turn.state r.txn ≡ Some r → Puts turn after r.txn → Calm turn → Calm after
    puts_calm turn after r a f q c = record {
      same = ap txns_of q.put ∙ txns_put q.now r turn.state.running a (ap (λ t. program_of t turn.state.running) q.its ∙ f) ∙ c.same;
      next = q.next ∙ c.next;
    }

    move_calm : {turn after : Turn SiteState} → Move w state from letter turn after → Ascend turn.state.running → Calm turn → Calm after
    move_calm {turn} {after} move a c = go (move_effect move)
      where
        go : Effect turn after → Calm after
        go (puts r f q) = puts_calm turn after r a f q c
        go (begun s z q) = absurd (starts_not s)

    alike : (r now : Running) → running_of state r.txn ≡ Some r → now.txn ≡ r.txn → txns_of (put_running now state.running) ≡ txns_of state.running
    alike r now f same = txns_put now r state.running ascend (ap (λ t. program_of t state.running) same ∙ f)

    start : Calm (opened state)
    start = record { same = refl; next = refl }

    row_calm : {after : Turn SiteState} → Row w state from letter after → Calm after
    row_calm (parts.halts u f e) = absurd (some f)
    row_calm (parts.returns u f e) = absurd (some f)
    row_calm (parts.refuses i t writes u f l e) = record { same = refl; next = refl }
    row_calm (parts.idle i) = start
    row_calm (parts.welcomed v z m) = absurd (starts_not (parts.at_welcome v z m))
    row_calm (parts.served t k x h z c e q o) = record { same = refl; next = refl }
    row_calm (parts.notes r k x q s f ph e) = record { same = alike r (record r { phase = asking k x (Some s) }) f refl; next = refl }
    row_calm (parts.applied t number ps e q) = record { same = refl; next = refl }
    row_calm (parts.over t m) = absurd (starts_not (parts.at_done t m))
    row_calm (parts.dropped t again m q) = absurd (starts_not (parts.at_drop t again m))
    row_calm (parts.retried t m q g) = absurd (starts_not (parts.at_drop t true m))
    row_calm (parts.falls s e) = record { same = refl; next = refl }
    row_calm (parts.rises s z e) = record { same = refl; next = refl }
    row_calm (parts.copies x target z c e q) = record { same = refl; next = refl }
    row_calm (parts.staged i t writes e) = record { same = refl; next = refl }
    row_calm (parts.counts i r read writes awaited f ph e q) = record { same = alike r (record r { phase = preparing read writes (parts.but (site (i + 1)) awaited) }) f refl; next = refl }
    row_calm (parts.renewed i x v version c e q l) = record { same = refl; next = refl }
    row_calm {after} (parts.given r k x q v f ph g gg) = puts_given (goes_puts w (opened state) (record r { answers = put r.answers x v }) gg)
      where
        puts_given : Puts (opened state) after r.txn → Calm after
        puts_given q = puts_calm (opened state) after r ascend f q start

    pub step_calm : Calm (hear_site w state from letter)
    step_calm = step_keeps w state from letter Calm (λ after r. row_calm r) (λ turn after move a c. move_calm move a c) ascend
