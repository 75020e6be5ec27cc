-- Which values and copies a site's step sends.
use Rattle.std.proofs.Common.{◌≡◌, ℕ, ℤ, ◌+◌, List, [], ◌∷◌, ◌++◌, map, Some, refl}
use Rattle.std.specs.Prelude.{⊤}
use Rattle.std.specs.List.{AllByRecursion}
use Rattle.raid_base.specs.declared.names.Txn.{Txn}
use Rattle.raid_base.specs.declared.names.Item.{Item}
use Rattle.raid_base.specs.declared.names.Site.{Site}
use Rattle.raid_workload.specs.declared.workload.Workload.{Workload}
use Rattle.raid_message.specs.declared.letter.Message.{Message}
use Rattle.raid_message.specs.declared.letter.Message.TheVariants as letters
use Rattle.raid_message.specs.declared.letter.Letter.{Letter}
use Rattle.raid_steps.specs.State.{Out, Turn, Copy, Running, SiteState}
use Rattle.raid_steps.specs.Copies.{copy_of}
use Rattle.raid_steps.specs.Programs.{prepare_out, voters}
use Rattle.raid_steps.specs.Site.{hear_site}
use Rattle.raid_moves.specs.Moves as parts
use Rattle.raid_moves.specs.Moves.{Ascend, Tells, Says, Given, read_here, read_elsewhere, Idle, comes_to, Goes, Row, Move, Reached}
use Rattle.raid_moves.proofs.Steps.{step_keeps}
use Rattle.raid_sessions.proofs.Lists.{all_append}

module _ (w : Workload) (state : SiteState) (from : ℕ) (letter : Letter) where
  -- a copy that is sent is the site's own, which the sequencer has told it to send
  pub record SendsCopy (x : Item) (v : ℤ) (version : ℕ) : Type 0 where
    pub target : Site
    pub session : ℕ
    pub copy : Copy
    pub told : Tells w state from letter (letters.CopyDo x target session)
    pub found : copy_of state x ≡ Some copy
    pub value : v ≡ copy.value
    pub number : version ≡ copy.version

  -- a value that is sent is that of the site's own copy, and goes to the home that the sequencer named
  pub record SendsValue (server to : ℕ) (t : Txn) (ask : ℕ) (v : ℤ) : Type 0 where
    pub item : Item
    pub home : Site
    pub copy : Copy
    pub told : Tells w state from letter (letters.ReadDo t ask item home to)
    pub found : copy_of state item ≡ Some copy
    pub value : v ≡ copy.value
    pub addressee : server ≡ home.0 + 1

  abbrev pub Sent : ℕ → ℕ → Message → Type 0
  Sent server to (letters.CopyValue x v version) = SendsCopy x v version
  Sent server to (letters.Value t ask v) = SendsValue server to t ask v
  Sent server to other = ⊤

  abbrev pub AreSent : List Out → Type 0
  AreSent outs = AllByRecursion (λ (out : Out). Sent out.0 out.1 out.2) outs

  more_sent : (old new : List Out) → AreSent old → AreSent new → AreSent (old ++ new)
  more_sent old new a b = all_append (λ (out : Out). Sent out.0 out.1 out.2) old new a b

  prepares_sent : (v : List ℕ) (t : Txn) (writes : List (Item × ℤ)) (ss : List Site) → AreSent (map (prepare_out w v t writes) ss)
  prepares_sent v t writes [] = tt
  prepares_sent v t writes (s ∷ ss) = (tt, prepares_sent v t writes ss)

  goes_sent : (turn : Turn SiteState) (r : Running) {after : Turn SiteState} → Goes w turn r after → AreSent turn.outs → AreSent after.outs
  goes_sent turn r (parts.reads_next x e) a = more_sent turn.outs _ a (tt, tt)
  goes_sent turn r (parts.prepares e) a = more_sent turn.outs _ a (prepares_sent turn.state.vector r.txn (comes_to w r).writes (voters w turn.state (comes_to w r).writes))
  goes_sent turn r (parts.stops e) a = more_sent turn.outs _ a (tt, tt)
  goes_sent turn r (parts.overflows e) a = more_sent turn.outs _ a (tt, tt)

  row_sent : (after : Turn SiteState) → Row w state from letter after → AreSent after.outs
  row_sent after (parts.halts u f m) = (tt, tt)
  row_sent after (parts.returns u f m) = (tt, tt)
  row_sent after (parts.refuses k t writes u f l m) = (tt, tt)
  row_sent after (parts.idle i) = tt
  row_sent after (parts.welcomed v next m) = tt
  row_sent after (parts.served t k x h n c m q i) = (record { item = x; home = h; copy = c; told = m; found = q; value = refl; addressee = refl }, tt)
  row_sent after (parts.notes r k x q s f p m) = tt
  row_sent after (parts.applied t number ps m q) = (tt, tt)
  row_sent after (parts.over t m) = tt
  row_sent after (parts.dropped t again m n) = tt
  row_sent after (parts.retried t m r g) = goes_sent _ _ g (tt, tt)
  row_sent after (parts.falls s m) = tt
  row_sent after (parts.rises s n m) = tt
  row_sent after (parts.copies x target n c m q) = (record { target = target; session = n; copy = c; told = m; found = q; value = refl; number = refl }, tt)
  row_sent after (parts.staged k t writes m) = (tt, tt)
  row_sent after (parts.counts k r reads writes awaited f p m s) = tt
  row_sent after (parts.renewed k x v version c m q l) = (tt, tt)
  row_sent after (parts.given r k x q v f p m g) = goes_sent _ _ g tt

  move_sent : (turn after : Turn SiteState) → Move w state from letter turn after → AreSent turn.outs → AreSent after.outs
  move_sent turn after (parts.begins s n l g) a = goes_sent _ _ g (more_sent turn.outs _ a (tt, tt))
  move_sent turn after (parts.asks r k x s q f p m i) a = more_sent turn.outs _ a (tt, tt)
  move_sent turn after (parts.loses r reads writes awaited s f p m) a = a
  move_sent turn after (parts.joins r reads writes awaited s n f p m h) a = more_sent turn.outs _ a (tt, tt)
  move_sent turn after (parts.commits r reads writes f p m) a = more_sent turn.outs _ a (tt, tt)

  pub step_sent : Ascend state.running → AreSent (hear_site w state from letter).outs
  step_sent a = step_keeps w state from letter (λ turn. AreSent turn.outs) row_sent (λ turn after move up sent. move_sent turn after move sent) a
