-- What a site sends tells of no token but of a value, which it was to read; and what is on its way to no home takes away what programs there
-- are about.
use Rattle.std.proofs.Common.{◌≡◌, inl, inr, ℕ, ℤ, suc, ◌+◌, ◌==◌, Bool, true, false, List, [], ◌∷◌, ◌++◌, map, Option, Some, None, if◌then◌else◌, arith, ap, refl}
use Rattle.std.specs.Prelude.{is_some}
use Rattle.raid_base.specs.declared.names.Txn.{Txn}
use Rattle.raid_base.specs.declared.names.Item.{Item}
use Rattle.raid_base.specs.declared.names.Site.{Site}
use Rattle.raid_base.specs.declared.entry.Answer.TheVariants.{No}
use Rattle.raid_base.specs.declared.entry.Noted.{Noted}
use Rattle.raid_base.specs.Names.{is_txn}
use Rattle.raid_workload.specs.declared.workload.Workload.{Workload}
use Rattle.raid_message.specs.declared.letter.Message.{Message}
use Rattle.raid_message.specs.declared.letter.Message.TheVariants as letters
use Rattle.raid_message.specs.declared.letter.Letter.{Letter}
use Rattle.raid_steps.specs.State.{Out, Turn, opened, tell, Phase, asking, preparing, sent, Running, SiteState}
use Rattle.raid_steps.specs.Programs as programs
use Rattle.raid_steps.specs.Programs.{prepare_out, voters}
use Rattle.raid_steps.specs.Site.{hear_site}
use Rattle.raid_steps.specs.World.{link}
use Rattle.raid_sessions.proofs.Lists.{all_append}
use Rattle.raid_moves.specs.Moves as parts
use Rattle.raid_moves.specs.Moves.{Ascend, Hears, Tells, Says, Given, read_here, read_elsewhere, comes_to, Goes, fresh, Starts, at_welcome, at_done, at_drop, Row, next_of, passed, Move}
use Rattle.raid_moves.proofs.Steps.{step_keeps}
use Rattle.raid_layers.specs.Asks.{ask_of, reading, bringing, Claim, HoldsOf, AllTokens, IsBelow, IsAtMost, IsOfRead, FallsLater, Outstanding, asked, dropped, read, IsAbout, Talks}
use Rattle.raid_layers.proofs.Tokens.{SentHolds}
use Rattle.raid_layers.proofs.Turns.{asked_by}

-- what holds of a read that is to be served holds of its value
abbrev pub IsClosed : Claim → Type 0
IsClosed P = (a server : ℕ) (x : Item) → P a (reading server x) → P a bringing

-- a site's step
module _ (w : Workload) (state : SiteState) (from : ℕ) (letter : Letter) (t : Txn) (k m : ℕ) (P : Claim) (closed : IsClosed P) (j : ℕ)
    (due : (u : Txn) (ask : ℕ) (x : Item) (h : Site) (n : ℕ) → Tells w state from letter (letters.ReadDo u ask x h n) → is_txn t u ≡ true → (h.0 == k + 1) ≡ true → (n == m) ≡ true → (server : ℕ) × P ask (reading server x)) where
  abbrev Holds : List Out → Type 0
  Holds outs = SentHolds t k m P (suc (suc j)) outs

  both : (xs ys : List Out) → Holds xs → Holds ys → Holds (xs ++ ys)
  both xs ys a b = all_append (λ (out : Out). HoldsOf t k m P out.0 (suc (suc j)) out.1 out.2) xs ys a b

  prepares_hold : (v : List ℕ) (u : Txn) (writes : List (Item × ℤ)) (ss : List Site) → Holds (map (prepare_out w v u writes) ss)
  prepares_hold v u writes [] = tt
  prepares_hold v u writes (s ∷ ss) = (tt, prepares_hold v u writes ss)

  goes_hold : (turn : Turn SiteState) (r : Running) {after : Turn SiteState} → Goes w turn r after → Holds turn.outs → Holds after.outs
  goes_hold turn r (parts.reads_next x e) a = both turn.outs _ a (tt, tt)
  goes_hold turn r (parts.prepares e) a = both turn.outs (map (prepare_out w turn.state.vector r.txn (comes_to w r).writes) (voters w turn.state (comes_to w r).writes)) a (prepares_hold turn.state.vector r.txn (comes_to w r).writes (voters w turn.state (comes_to w r).writes))
  goes_hold turn r (parts.stops e) a = both turn.outs _ a (tt, tt)
  goes_hold turn r (parts.overflows e) a = both turn.outs _ a (tt, tt)

  move_holds : {turn after : Turn SiteState} → Move w state from letter turn after → Holds turn.outs → Holds after.outs
  move_holds {turn = turn} (parts.begins s n l g) a = goes_hold (tell (passed w turn) (letters.Begin (next_of turn))) (fresh (next_of turn)) g (both turn.outs _ a (tt, tt))
  move_holds {turn = turn} (parts.asks r i x s o f p m y) a = both turn.outs _ a (tt, tt)
  move_holds {turn = turn} (parts.loses r told_reads writes awaited s f p m) a = a
  move_holds {turn = turn} (parts.joins r told_reads writes awaited s n f p m y) a = both turn.outs _ a (tt, tt)
  move_holds {turn = turn} (parts.commits r told_reads writes f p m) a = both turn.outs _ a (tt, tt)

  value_number : (h : ℕ) → (h + 1 == k + 2) ≡ true → (h == k + 1) ≡ true
  value_number h q = grind (arith, q)

  row_holds : {after : Turn SiteState} → Row w state from letter after → Holds after.outs
  row_holds (parts.halts u f e) = (tt, tt)
  row_holds (parts.returns u f e) = (tt, tt)
  row_holds (parts.refuses i u writes v f l e) = (tt, tt)
  row_holds (parts.idle i) = tt
  row_holds (parts.welcomed v z e) = tt
  row_holds (parts.served u ask x h z c e q o) = ((λ a b d. (let its = due u ask x h z e a (value_number h.0 b) d in closed ask its.0 x its.1)), tt)
  row_holds (parts.notes r ask x q s f ph e) = tt
  row_holds (parts.applied u number ps e q) = (tt, tt)
  row_holds (parts.over u e) = tt
  row_holds (parts.dropped u again e q) = tt
  row_holds (parts.retried u e q g) = goes_hold (tell (parts.drops state u) (letters.Begin (programs.next_attempt w u))) (fresh (programs.next_attempt w u)) g (tt, tt)
  row_holds (parts.falls s e) = tt
  row_holds (parts.rises s z e) = tt
  row_holds (parts.copies x target z c e q) = (tt, tt)
  row_holds (parts.staged i u writes e) = (tt, tt)
  row_holds (parts.counts i r told_reads writes awaited f ph e q) = tt
  row_holds (parts.renewed i x v version c e q l) = (tt, tt)
  row_holds (parts.given r ask x q v f ph g gg) = goes_hold (opened state) (record r { answers = _ }) gg tt

  pub site_holds : Ascend state.running → SentHolds t k m P (suc (suc j)) (hear_site w state from letter).outs
  site_holds ascend = step_keeps w state from letter (λ turn. Holds turn.outs) (λ after r. row_holds r) (λ turn after move a h. move_holds move h) ascend

-- a site that hears nothing asks for nothing
module _ (w : Workload) (state : SiteState) (from : ℕ) (letter : Letter) (deaf : Hears state letter → ⊥) where
  abbrev Silent : Turn SiteState → Type 0
  Silent turn = (t : Txn) → asked_by t turn.outs ≡ []

  quiet_out : (n to : ℕ) (message : Message) → ((t : Txn) → ask_of t message ≡ []) → (t : Txn) → asked_by t (let out : Out = (n, to, message) in out ∷ []) ≡ []
  quiet_out n to message none t = go (n == 1)
    where
      go : (b : Bool) → (if b then ask_of t message ++ [] else []) ≡ []
      go true = ap (λ ms. ms ++ []) (none t)
      go false = refl

  deaf_given : (t : Txn) (ask : ℕ) (v : ℤ) → Given w state from letter t ask v → ⊥
  deaf_given t ask v (read_here x h n c tells q i) = deaf tells.heard
  deaf_given t ask v (read_elsewhere j u says) = deaf says.heard

  deaf_starts : Starts w state from letter → ⊥
  deaf_starts (at_welcome v next tells) = deaf tells.heard
  deaf_starts (at_done t tells) = deaf tells.heard
  deaf_starts (at_drop t again tells) = deaf tells.heard

  deaf_row : {after : Turn SiteState} → Row w state from letter after → Silent after
  deaf_row (parts.halts u f e) = λ t. refl
  deaf_row (parts.returns u f e) = λ t. refl
  deaf_row (parts.refuses i u writes v f l e) = quiet_out (i + 2) letter.from (letters.Vote u (No letter.to state.session)) (λ t. refl)
  deaf_row (parts.idle i) = λ t. refl
  deaf_row (parts.welcomed v z e) = absurd (deaf e.heard)
  deaf_row (parts.served u ask x h z c e q o) = absurd (deaf e.heard)
  deaf_row (parts.notes r ask x q s f ph e) = absurd (deaf e.heard)
  deaf_row (parts.applied u number ps e q) = absurd (deaf e.heard)
  deaf_row (parts.over u e) = absurd (deaf e.heard)
  deaf_row (parts.dropped u again e q) = absurd (deaf e.heard)
  deaf_row (parts.retried u e q g) = absurd (deaf e.heard)
  deaf_row (parts.falls s e) = absurd (deaf e.heard)
  deaf_row (parts.rises s z e) = absurd (deaf e.heard)
  deaf_row (parts.copies x target z c e q) = absurd (deaf e.heard)
  deaf_row (parts.staged i u writes e) = absurd (deaf e.heard)
  deaf_row (parts.counts i r told_reads writes awaited f ph e q) = absurd (deaf e.heard)
  deaf_row (parts.renewed i x v version c e q l) = absurd (deaf e.heard)
  deaf_row (parts.given r ask x q v f ph g gg) = absurd (deaf_given r.txn ask v g)

  deaf_move : {turn after : Turn SiteState} → Move w state from letter turn after → Silent turn → Silent after
  deaf_move (parts.begins s n l g) a = absurd (deaf_starts s)
  deaf_move (parts.asks r i x s o f p e y) a = absurd (deaf e.heard)
  deaf_move (parts.loses r told_reads writes awaited s f p e) a = absurd (deaf e.heard)
  deaf_move (parts.joins r told_reads writes awaited s n f p e y) a = absurd (deaf e.heard)
  deaf_move (parts.commits r told_reads writes f p e) a = absurd (deaf e)

  pub deaf_step : Ascend state.running → (t : Txn) → asked_by t (hear_site w state from letter).outs ≡ []
  deaf_step ascend = step_keeps w state from letter Silent (λ after r. deaf_row r) (λ turn after move a h. deaf_move move h) ascend

-- what is on its way changes, but not what is claimed of it
module _ (p : List Noted) (links after : List (List (List Letter))) (k m : ℕ) (t : Txn) (tokens : (P : Claim) → IsClosed P → AllTokens links t k m P → AllTokens after t k m P)
    (falls : (ask : ℕ) (s : Site) (at : ℕ) (known : Bool) → FallsLater p t m ask s at known (link links (k + 2) 1) → FallsLater p t m ask s at known (link after (k + 2) 1)) where
  below : (ask : ℕ) → AllTokens links t k m (IsBelow ask) → AllTokens after t k m (IsBelow ask)
  below ask h = tokens (IsBelow ask) (λ a server x q. q) h

  at_most : (ask : ℕ) → AllTokens links t k m (IsAtMost ask) → AllTokens after t k m (IsAtMost ask)
  at_most ask h = tokens (IsAtMost ask) (λ a server x q. q) h

  waits_so : (ask : ℕ) (x : Item) (o : Option Site) (asks : List Message) → Outstanding p links k m t ask x o asks → Outstanding p after k m t ask x o asks
  waits_so ask x o asks (asked e none h) = asked e none (below ask h)
  waits_so ask x o asks (dropped e none h) = dropped e none (below ask h)
  waits_so ask x o asks (read n s e last is has h server f) = read n s e last is has (tokens (IsOfRead ask x s) (λ a place y q. (q.0, λ e. tt)) h) server (falls ask s n.at (is_some o) f)

  about_so : (number : ℕ) (answers : List (Item × ℤ)) (asks : List Message) (phase : Phase) → IsAbout p links k m t number answers asks phase → IsAbout p after k m t number answers asks phase
  about_so number answers asks (asking ask x o) a = (a.0, (a.1.0, (a.1.1.0, waits_so ask x o asks a.1.1.1)))
  about_so number answers asks (preparing r writes awaited) a = (a.0, (a.1.0, (a.1.1.0, at_most number a.1.1.1)))
  about_so number answers asks sent a = (a.0, at_most number a.1)

  pub talks_so : (asks : List Message) (o : Option Running) → Talks p links k m t asks o → Talks p after k m t asks o
  talks_so asks None a = a
  talks_so asks (Some r) a = (a.0, elim a.1 [ inl over ↦ inl over | inr about ↦ inr (about_so r.asks r.answers asks r.phase about) ])
