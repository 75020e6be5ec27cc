-- What a history with one more entry says of a transaction's reads and waits.
use Rattle.std.proofs.Common.{◌≡◌, ◌⊎◌, inl, inr, ℕ, ◌≤◌, nat_lt, Bool, true, false, ◌&&◌, ◌||◌, List, [], ◌∷◌, ◌++◌, fold, filter_map, Option, Some, None, if◌then◌else◌, sym, subst, ap, ◌∙◌, refl}
use Rattle.std.specs.List.{AllByRecursion, list_any, cons_option}
use Rattle.std.specs.Option.{option_map_or}
use Rattle.std.proofs.lemmas.Bool.{and_parts, and_from, true≢false}
use Rattle.std.proofs.lemmas.List.Folds.{list_any-append}
use Rattle.std.proofs.lemmas.List.Sums.{fold-append}
use Rattle.raid_base.specs.declared.names.Txn.{Txn}
use Rattle.raid_base.specs.declared.names.Item.{Item}
use Rattle.raid_base.specs.declared.request.Request.{Request}
use Rattle.raid_base.specs.declared.entry.Entry.{Entry}
use Rattle.raid_base.specs.declared.entry.Entry.TheVariants.{Read, Wait, Commit, Abort}
use Rattle.raid_base.specs.declared.entry.Noted.{Noted}
use Rattle.raid_base.specs.Names.{is_txn, is_item, is_site}
use Rattle.raid_rules.specs.Entries.{is_read, is_commit_of, is_abort_of, is_end_of, is_down, reads_item, wait_of}
use Rattle.raid_rules.specs.History.{add, next, has_begun, has_committed, has_ended, is_running, waiting}
use Rattle.raid_rules.specs.Order.{is_of, IsWhole}
use Rattle.raid_legal.specs.Seen.{has_down_after}
use Rattle.raid_legal.specs.Legal.{last_read, is_lost}
use Rattle.raid_message.specs.declared.letter.Message.{Message}
use Rattle.raid_message.specs.declared.letter.Message.TheVariants as letters
use Rattle.raid_sessions.proofs.Lists.{same_self}
use Rattle.raid_moves.proofs.Places.{all_kept}
use Rattle.raid_asks.proofs.Facts.{or_left, or_right, or_parts, any_weaken}
use Rattle.raid_layers.specs.Asks.{has_read, is_wait_of, has_waited, IsTimely}

-- one entry more
pub no_more : (b : Bool) → (b || false) ≡ b
no_more true = refl
no_more false = refl

pub any_push : (test : Noted → Bool) (p : List Noted) (n : Noted) → list_any test (p ++ n ∷ []) ≡ (list_any test p || test n)
any_push test p n = list_any-append test p (n ∷ []) ∙ ap (λ b. list_any test p || b) (no_more (test n))

pub any_same : (test : Noted → Bool) (p : List Noted) (n : Noted) → test n ≡ false → list_any test (p ++ n ∷ []) ≡ list_any test p
any_same test p n q = any_push test p n ∙ ap (λ b. list_any test p || b) q ∙ no_more (list_any test p)

pub any_last : (test : Noted → Bool) (p : List Noted) (n : Noted) → test n ≡ true → list_any test (p ++ n ∷ []) ≡ true
any_last test p n q = any_push test p n ∙ or_right (list_any test p) (test n) q

pub any_kept : (test : Noted → Bool) (p : List Noted) (n : Noted) → list_any test p ≡ true → list_any test (p ++ n ∷ []) ≡ true
any_kept test p n q = any_push test p n ∙ or_left (list_any test p) (test n) q

pub read_push : (p : List Noted) (n : Noted) (t : Txn) → last_read (p ++ n ∷ []) t ≡ (if is_read (λ u x s. is_txn t u) n.entry then Some n else last_read p t)
read_push p n t = fold-append (λ last n. if is_read (λ u x s. is_txn t u) n.entry then Some n else last) None p (n ∷ [])

-- the second history has all entries of the first
abbrev pub Grows : List Noted → List Noted → Type 0
Grows p q = (test : Noted → Bool) → list_any test p ≡ true → list_any test q ≡ true

-- the transaction has read and waited in the second as in the first
pub record IsQuiet (t : Txn) (p q : List Noted) : Type 0 where
  pub reads : (x : Item) → has_read q t x ≡ has_read p t x
  pub waits : has_waited q t ≡ has_waited p t
  pub last : last_read q t ≡ last_read p t

pub quiet_same : (t : Txn) (p : List Noted) → IsQuiet t p p
quiet_same t p = record { reads = λ x. refl; waits = refl; last = refl }

pub quiet_on : (t : Txn) (p q r : List Noted) → IsQuiet t p q → IsQuiet t q r → IsQuiet t p r
quiet_on t p q r a b = record { reads = λ x. b.reads x ∙ a.reads x; waits = b.waits ∙ a.waits; last = b.last ∙ a.last }

-- an entry that is neither a Read nor a Wait of the transaction
pub quiet_push : (t : Txn) (p : List Noted) (e : Entry) → is_read (λ u x s. is_txn t u) e ≡ false → is_wait_of t e ≡ false → IsQuiet t p (add p e)
quiet_push t p e unread unwaited = record {
  reads = λ x. any_same (λ n. reads_item t x n.entry) p (next p e) (item e x unread);
  waits = any_same (λ n. is_wait_of t n.entry) p (next p e) unwaited;
  last = read_push p (next p e) t ∙ ap (λ b. if b then Some (next p e) else last_read p t) unread;
}
  where
    item : (e : Entry) (x : Item) → is_read (λ u x s. is_txn t u) e ≡ false → reads_item t x e ≡ false
    item (Read u y s) x q = ap (λ b. b && is_item x y) q
    item other x q = refl

-- what is lost stays lost
lost_in : (p q : List Noted) → Grows p q → (x : Item) (n : Noted) (e : Entry) → is_read (λ u y s. is_item x y && has_down_after p n.at s) e ≡ true → is_read (λ u y s. is_item x y && has_down_after q n.at s) e ≡ true
lost_in p q grows x n (Read u y s) h =
    let both = and_parts (is_item x y) (has_down_after p n.at s) h in
    and_from (is_item x y) (has_down_after q n.at s) both.0 (grows (λ k. nat_lt n.at k.at && is_down (is_site s) k.entry) both.1)
lost_in p q grows x n other h = absurd (true≢false (sym h))

still_lost : (t : Txn) (p q : List Noted) → Grows p q → IsQuiet t p q → (x : Item) → is_lost p t x ≡ true → is_lost q t x ≡ true
still_lost t p q grows quiet x h = ap (λ o. option_map_or (λ n. is_read (λ u y s. is_item x y && has_down_after q n.at s) n.entry) o false) quiet.last ∙ go (last_read p t) h
  where
    go : (o : Option Noted) → option_map_or (λ n. is_read (λ u y s. is_item x y && has_down_after p n.at s) n.entry) o false ≡ true → option_map_or (λ n. is_read (λ u y s. is_item x y && has_down_after q n.at s) n.entry) o false ≡ true
    go None h = h
    go (Some n) h = lost_in p q grows x n n.entry h

pub still_timely : (t : Txn) (p q : List Noted) → Grows p q → IsQuiet t p q → (m : Message) → IsTimely p t m → IsTimely q t m
still_timely t p q grows quiet (letters.ReadAsk u ask x) (inl unread) = inl (quiet.reads x ∙ unread)
still_timely t p q grows quiet (letters.ReadAsk u ask x) (inr lost) = inr (still_lost t p q grows quiet x lost)
still_timely t p q grows quiet (letters.CommitAsk u request) told = λ x. told x ∙ sym (quiet.reads x)
still_timely t p q grows quiet (letters.EndAsk u cause reads) told = λ x. told x ∙ sym (quiet.reads x)
still_timely t p q grows quiet other told = tt

-- the last Read is in the history
pub last_within : (k : ℕ) (t : Txn) (p : List Noted) → AllByRecursion (λ (n : Noted). n.at ≤ k) p → (n : Noted) → last_read p t ≡ Some n → n.at ≤ k
last_within k t p a n q = from None p (λ m e. absurd (cc e)) a n q
  where
    from : (first : Option Noted) (p : List Noted) → ((n : Noted) → first ≡ Some n → n.at ≤ k) → AllByRecursion (λ (n : Noted). n.at ≤ k) p → (n : Noted) →
        fold (λ last n. if is_read (λ u x s. is_txn t u) n.entry then Some n else last) first p ≡ Some n → n.at ≤ k
    from first [] h a n q = h n q
    from first (m ∷ p) h a n q = from (if is_read (λ u x s. is_txn t u) m.entry then Some m else first) p (go (is_read (λ u x s. is_txn t u) m.entry)) a.1 n q
      where
        go : (b : Bool) → (n : Noted) → (if b then Some m else first) ≡ Some n → n.at ≤ k
        go true n e = (let same : m ≡ n = cc e in subst (λ (z : Noted). z.at ≤ k) same a.0)
        go false n e = h n e

-- the history has a Wait of the transaction with this request
abbrev pub HasWait : List Noted → Txn → Request → Type 0
HasWait [] t request = ⊥
HasWait (n ∷ p) t request = (n.entry ≡ Wait t request) ⊎ HasWait p t request

pub wait_waited : (p : List Noted) (t : Txn) (request : Request) → HasWait p t request → has_waited p t ≡ true
wait_waited [] t request h = absurd h
wait_waited (n ∷ p) t request (inl is) = or_left (is_wait_of t n.entry) (has_waited p t) (ap (is_wait_of t) is ∙ same_self t.0)
wait_waited (n ∷ p) t request (inr more) = or_right (is_wait_of t n.entry) (has_waited p t) (wait_waited p t request more)

-- each request that waits was made to
pub all_wait : (p : List Noted) → AllByRecursion (λ (r : Txn × Request). HasWait p r.0 r.1) (waiting p)
all_wait p = all_kept (λ (r : Txn × Request). HasWait p r.0 r.1) (λ (r : Txn × Request). is_running p r.0) (filter_map (λ n. wait_of n.entry) p) (all_in p p (λ t r h. h))
  where
    all_in : (p q : List Noted) → ((t : Txn) (r : Request) → HasWait p t r → HasWait q t r) → AllByRecursion (λ (r : Txn × Request). HasWait q r.0 r.1) (filter_map (λ n. wait_of n.entry) p)
    all_in [] q f = tt
    all_in (n ∷ p) q f = go n.entry refl (all_in p q (λ t r h. f t r (inr h)))
      where
        go : (e : Entry) → n.entry ≡ e → AllByRecursion (λ (r : Txn × Request). HasWait q r.0 r.1) (filter_map (λ n. wait_of n.entry) p) → AllByRecursion (λ (r : Txn × Request). HasWait q r.0 r.1) (cons_option (wait_of e) (filter_map (λ n. wait_of n.entry) p))
        go (Wait t r) is rest = (f t r (inl is), rest)
        go other is rest = rest

-- a transaction that hasn't begun has done nothing
module _ (p : List Noted) (whole : IsWhole p) (t : Txn) (fresh : has_begun p t ≡ false) where
  none_of : (test : Entry → Bool) → ((e : Entry) → test e ≡ true → is_of t e ≡ true) → (b : Bool) → list_any (λ (n : Noted). test n.entry) p ≡ b → b ≡ false
  none_of test each true q = absurd (true≢false (sym (whole t (any_weaken (λ n. test n.entry) (λ n. is_of t n.entry) (λ n h. each n.entry h) p q)) ∙ fresh))
  none_of test each false q = refl

  abbrev pub HasNone : (Entry → Bool) → Type 0
  HasNone test = list_any (λ (n : Noted). test n.entry) p ≡ false

  none : (test : Entry → Bool) → ((e : Entry) → test e ≡ true → is_of t e ≡ true) → HasNone test
  none test each = none_of test each (list_any (λ (n : Noted). test n.entry) p) refl

  read_of : (x : Item) (e : Entry) → reads_item t x e ≡ true → is_of t e ≡ true
  read_of x (Read u y s) h = (and_parts (is_txn t u) (is_item x y) h).0
  read_of x other h = absurd (true≢false (sym h))

  wait_is_of : (e : Entry) → is_wait_of t e ≡ true → is_of t e ≡ true
  wait_is_of (Wait u request) h = h
  wait_is_of other h = absurd (true≢false (sym h))

  pub fresh_unread : (x : Item) → has_read p t x ≡ false
  fresh_unread x = none (reads_item t x) (read_of x)

  pub fresh_unwaited : has_waited p t ≡ false
  fresh_unwaited = none (is_wait_of t) wait_is_of

  pub fresh_unended : has_ended p t ≡ false
  fresh_unended = none (is_end_of t) end_of
    where
      commit_of : (e : Entry) → is_commit_of t e ≡ true → is_of t e ≡ true
      commit_of (Commit u request applied) h = h
      commit_of other h = absurd (true≢false (sym h))

      abort_of : (e : Entry) → is_abort_of t e ≡ true → is_of t e ≡ true
      abort_of (Abort u cause act) h = h
      abort_of other h = absurd (true≢false (sym h))

      end_of : (e : Entry) → is_end_of t e ≡ true → is_of t e ≡ true
      end_of e h = elim (or_parts (is_commit_of t e) (is_abort_of t e) h) [ inl c ↦ commit_of e c | inr a ↦ abort_of e a ]

-- a commit ends its transaction
pub committed_ended : (p : List Noted) (t : Txn) → has_committed p t ≡ true → has_ended p t ≡ true
committed_ended p t q = any_weaken (λ n. is_commit_of t n.entry) (λ n. is_end_of t n.entry) (λ n h. or_left (is_commit_of t n.entry) _ h) p q
