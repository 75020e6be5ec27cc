-- What is staged at a site for a transaction that isn't over stays staged through the site's steps, until it stops.
use Rattle.std.proofs.Common.{◌≡◌, ℕ, ℤ, ◌+◌, ◌==◌, Bool, true, false, not, ◌||◌, List, [], ◌∷◌, if◌then◌else◌, arith, sym, subst, ◌∙◌, refl}
use Rattle.std.specs.List.{list_any}
use Rattle.std.proofs.lemmas.Bool.{true≢false}
use Rattle.std.proofs.lemmas.List.Folds.{list_any-append}
use Rattle.raid_base.specs.declared.names.Txn.{Txn}
use Rattle.raid_base.specs.declared.names.Item.{Item}
use Rattle.raid_base.specs.declared.entry.Noted.{Noted}
use Rattle.raid_base.specs.Names.{is_txn}
use Rattle.raid_base.specs.Sites.{site}
use Rattle.raid_program.specs.Run.{put}
use Rattle.raid_workload.specs.declared.workload.Workload.{Workload}
use Rattle.raid_rules.specs.History.{has_ended}
use Rattle.raid_rules.proofs.Push.{same_txn}
use Rattle.raid_legal.specs.Seen.{holds_some}
use Rattle.raid_message.specs.declared.letter.Message.TheVariants as letters
use Rattle.raid_message.specs.declared.letter.Letter.{Letter}
use Rattle.raid_steps.specs.State.{Turn, opened, tell, Running, SiteState}
use Rattle.raid_steps.specs.Copies.{unstage, stage}
use Rattle.raid_steps.specs.Programs as programs
use Rattle.raid_moves.specs.Moves as parts
use Rattle.raid_moves.specs.Moves.{Ascend, Tells, comes_to, Goes, fresh, Row, next_of, passed, Move, Moves}
use Rattle.raid_asks.proofs.Facts.{or_left, or_right}
use Rattle.raid_letters.specs.Says.{NoteSays}
use Rattle.raid_layers.proofs.Histories.{committed_ended}
use Rattle.raid_staged.specs.Staged.{is_staged}
use Rattle.raid_staged.proofs.Ends.{aborted_ended, applied_committed}

abbrev Pairs : Type 0
Pairs = Txn × List (Item × ℤ)

abbrev pub staged_in : Txn → List (Txn × List (Item × ℤ)) → Bool
staged_in t staged = list_any (λ (e : Txn × List (Item × ℤ)). is_txn t e.0) staged

-- others are left where one is taken away, and where one is put
pub unstaged_other : (t u : Txn) (staged : List (Txn × List (Item × ℤ))) → is_txn t u ≡ false → staged_in t staged ≡ true → staged_in t (unstage u staged) ≡ true
unstaged_other t u [] d h = absurd (true≢false (sym h))
unstaged_other t u (e ∷ staged) d h = go (e.0.0 == u.0) (e.0.0 == t.0) refl refl h (unstaged_other t u staged d)
  where
    both : (a b c : ℕ) → (a == b) ≡ true → (a == c) ≡ true → (b == c) ≡ true
    both a b c q r = grind (arith, q, r)

    go : (b c : Bool) → (e.0.0 == u.0) ≡ b → (e.0.0 == t.0) ≡ c → (c || staged_in t staged) ≡ true → (staged_in t staged ≡ true → staged_in t (unstage u staged) ≡ true) → staged_in t (if not b then e ∷ unstage u staged else unstage u staged) ≡ true
    go true true q r h rest = absurd (true≢false (sym (both e.0.0 u.0 t.0 q r) ∙ d))
    go true false q r h rest = rest h
    go false true q r h rest = or_left (e.0.0 == t.0) (staged_in t (unstage u staged)) r
    go false false q r h rest = or_right (e.0.0 == t.0) (staged_in t (unstage u staged)) (rest h)

pub staged_now : (u : Txn) (ps : List (Item × ℤ)) (staged : List (Txn × List (Item × ℤ))) → staged_in u (stage u ps staged) ≡ true
staged_now u ps staged = list_any-append (λ (e : Txn × List (Item × ℤ)). is_txn u e.0) (unstage u staged) ((u, ps) ∷ []) ∙ or_right (staged_in u (unstage u staged)) (is_txn u u || false) (or_left (is_txn u u) false (self u.0))
  where
    self : (n : ℕ) → (n == n) ≡ true
    self n = grind arith

pub still_staged : (t u : Txn) (ps : List (Item × ℤ)) (staged : List (Txn × List (Item × ℤ))) → staged_in t staged ≡ true → staged_in t (stage u ps staged) ≡ true
still_staged t u ps staged h = go (is_txn t u) refl
  where
    go : (b : Bool) → is_txn t u ≡ b → staged_in t (stage u ps staged) ≡ true
    go true q = subst (λ z. staged_in z (stage u ps staged) ≡ true) (same_txn u t q) (staged_now u ps staged)
    go false q = list_any-append (λ (e : Txn × List (Item × ℤ)). is_txn t e.0) (unstage u staged) ((u, ps) ∷ []) ∙ or_left (staged_in t (unstage u staged)) (is_txn t u || false) (unstaged_other t u staged q h)

-- if the letter is the sequencer's, it neither applies nor drops the transaction
pub record IsSpared (from : ℕ) (letter : Letter) (t : Txn) : Type 0 where
  pub applied : from ≡ 1 → (u : Txn) (number : ℕ) → letter.message ≡ letters.Apply u number → is_txn t u ≡ false
  pub dropped : from ≡ 1 → (u : Txn) (again : Bool) → letter.message ≡ letters.Drop u again → is_txn t u ≡ false

module _ (w : Workload) (state : SiteState) (from : ℕ) (letter : Letter) (t : Txn) (spared : IsSpared from letter t) where
  abbrev pub IsKept : Turn SiteState → Type 0
  IsKept turn = is_staged t turn.state ≡ true

  goes_keep : (turn : Turn SiteState) (r : Running) {after : Turn SiteState} → Goes w turn r after → IsKept turn → IsKept after
  goes_keep turn r (parts.reads_next x e) h = h
  goes_keep turn r (parts.prepares e) h = go (holds_some w (comes_to w r).writes turn.state.site)
    where
      go : (b : Bool) → (let s : SiteState = (if b then record (turn.state) { staged = stage r.txn (programs.held_by w turn.state.site (comes_to w r).writes) turn.state.staged } else turn.state) in is_staged t s) ≡ true
      go true = still_staged t r.txn (programs.held_by w turn.state.site (comes_to w r).writes) turn.state.staged h
      go false = h
  goes_keep turn r (parts.stops e) h = h
  goes_keep turn r (parts.overflows e) h = h

  pub move_keeps : {turn after : Turn SiteState} → Move w state from letter turn after → IsKept turn → IsKept after
  move_keeps {turn = turn} (parts.begins s n l g) h = goes_keep (tell (passed w turn) (letters.Begin (next_of turn))) (fresh (next_of turn)) g h
  move_keeps (parts.asks r i x s o f q m y) h = h
  move_keeps (parts.loses r told_reads writes awaited s f q m) h = h
  move_keeps (parts.joins r told_reads writes awaited s n f q m y) h = h
  move_keeps (parts.commits r told_reads writes f q m) h = h

  pub moves_keep : {turn last : Turn SiteState} → Moves w state from letter turn last → IsKept turn → IsKept last
  moves_keep parts.done h = h
  moves_keep (parts.moves m rest) h = moves_keep rest (move_keeps m h)

  pub row_keeps : (from ≡ 0 → ⊥) → {after : Turn SiteState} → Row w state from letter after → is_staged t state ≡ true → IsKept after
  row_keeps some (parts.halts u f e) h = absurd (some f)
  row_keeps some (parts.returns u f e) h = absurd (some f)
  row_keeps some (parts.refuses i u writes v f l e) h = h
  row_keeps some (parts.idle i) h = h
  row_keeps some (parts.welcomed v z e) h = h
  row_keeps some (parts.served u ask x s z c e q o) h = h
  row_keeps some (parts.notes r ask x q s f ph e) h = h
  row_keeps some (parts.applied u number ps e q) h = unstaged_other t u state.staged (spared.applied e.by u number e.is) h
  row_keeps some (parts.over u e) h = h
  row_keeps some (parts.dropped u again e q) h = unstaged_other t u state.staged (spared.dropped e.by u again e.is) h
  row_keeps some (parts.retried u e q g) h =
      goes_keep (tell (parts.drops state u) (letters.Begin (programs.next_attempt w u))) (fresh (programs.next_attempt w u)) g (unstaged_other t u state.staged (spared.dropped e.by u true e.is) h)
  row_keeps some (parts.falls s e) h = h
  row_keeps some (parts.rises s z e) h = h
  row_keeps some (parts.copies x target z c e q) h = h
  row_keeps some (parts.staged i u writes e) h = still_staged t u writes state.staged h
  row_keeps some (parts.counts i r told_reads writes awaited f ph e q) h = h
  row_keeps some (parts.renewed i x v version c e q l) h = h
  row_keeps some (parts.given r ask x q v f ph g gg) h = goes_keep (opened state) (record r { answers = put r.answers x v }) gg h

-- a transaction that isn't over is spared
module _ (w : Workload) (p : List Noted) (k from : ℕ) (letter : Letter) (note : from ≡ 1 → NoteSays w p (site (k + 1)) letter.to letter.message) (t : Txn) (alive : has_ended p t ≡ false) where
  over_not : (u : Txn) → has_ended p u ≡ true → is_txn t u ≡ false
  over_not u over = go (is_txn t u) refl
    where
      go : (b : Bool) → is_txn t u ≡ b → b ≡ false
      go true q = absurd (true≢false (sym over ∙ subst (λ z. has_ended p z ≡ false) (sym (same_txn u t q)) alive))
      go false q = refl

  pub alive_spared : IsSpared from letter t
  alive_spared = record {
    applied = λ by u number is. over_not u (committed_ended p u (applied_committed p u (site (k + 1)) number (subst (NoteSays w p (site (k + 1)) letter.to) is (note by))));
    dropped = λ by u again is. over_not u (aborted_ended p u (subst (NoteSays w p (site (k + 1)) letter.to) is (note by)));
  }
