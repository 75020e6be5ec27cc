-- How often a transaction was granted a read and made to wait, and how often it asks for either.
use Rattle.std.proofs.Common.{◌≡◌, ℕ, ◌+◌, nat_lt, Bool, true, false, not, ◌||◌, List, [], ◌∷◌, ◌++◌, if◌then◌else◌, arith, sym, subst, ap, ◌∙◌, refl}
use Rattle.std.specs.Prelude.{count_by, filter, filter_map}
use Rattle.std.specs.List.{list_any, cons_option}
use Rattle.std.proofs.lemmas.Bool.{and_from, true≢false}
use Rattle.std.proofs.lemmas.Grind.{common_steps}
use Rattle.std.proofs.lemmas.List.Sums.{sum_by-cons, sum_by_push}
use Rattle.raid_base.specs.declared.names.Txn.{Txn}
use Rattle.raid_base.specs.declared.names.Item.{Item}
use Rattle.raid_base.specs.declared.request.Request.{Request}
use Rattle.raid_base.specs.declared.entry.Entry.{Entry}
use Rattle.raid_base.specs.declared.entry.Entry.TheVariants.{Read, Wait}
use Rattle.raid_base.specs.declared.entry.Noted.{Noted}
use Rattle.raid_base.specs.Names.{is_txn}
use Rattle.raid_rules.specs.Entries.{is_read, wait_of}
use Rattle.raid_rules.specs.History.{add, next, has_begun, has_ended, is_running, is_waiting}
use Rattle.raid_rules.specs.Order.{is_of, IsWhole}
use Rattle.raid_rules.proofs.Push.{same_txn}
use Rattle.raid_faillock.proofs.Cells.{any_counted}
use Rattle.raid_message.specs.declared.letter.Message.{Message}
use Rattle.raid_message.specs.declared.letter.Message.TheVariants as letters
use Rattle.raid_steps.specs.State.{Phase, sent}
use Rattle.raid_asks.proofs.Facts.{any_weaken}
use Rattle.raid_layers.specs.Asks.{is_wait_of, has_waited, asks_end}
use Rattle.raid_layers.proofs.Histories.{fresh_unwaited}
use Rattle.raid_witness.specs.Ended.{count_reads}

-- one more
pub count_push : {X : Type 0} (test : X → Bool) (xs : List X) (x : X) (b : Bool) → test x ≡ b → count_by test (xs ++ x ∷ []) ≡ count_by test xs + (if b then 1 else 0)
count_push test xs x b q = sum_by_push (λ x. if test x then 1 else 0) xs x ∙ ap (λ c. count_by test xs + (if c then 1 else 0)) q

pub count_cons : {X : Type 0} (test : X → Bool) (x : X) (xs : List X) (b : Bool) → test x ≡ b → count_by test (x ∷ xs) ≡ (if b then 1 else 0) + count_by test xs
count_cons test x xs b q = sum_by-cons (λ x. if test x then 1 else 0) x xs ∙ ap (λ c. (if c then 1 else 0) + count_by test xs) q

pub count_same : {X : Type 0} (test : X → Bool) (xs : List X) (x : X) → test x ≡ false → count_by test (xs ++ x ∷ []) ≡ count_by test xs
count_same test xs x q = (let n = count_push test xs x false q in omega (arith, n))

-- a count of none
pub none_counted : {X : Type 0} (test : X → Bool) (xs : List X) → list_any test xs ≡ false → count_by test xs ≡ 0
none_counted test xs q = zeros (count_by test xs) (any_counted test xs ∙ q)
  where
    zeros : (n : ℕ) → nat_lt 0 n ≡ false → n ≡ 0
    zeros n q = grind (arith, q)

-- how often the transaction was made to wait
abbrev pub count_waits : List Noted → Txn → ℕ
count_waits p t = count_by (λ n. is_wait_of t n.entry) p

pub waits_counted : (p : List Noted) (t : Txn) (k : ℕ) → count_waits p t ≡ k → has_waited p t ≡ nat_lt 0 k
waits_counted p t k q = sym (any_counted (λ n. is_wait_of t n.entry) p) ∙ ap (nat_lt 0) q

-- it has read and waited in the second history as often as in the first
pub record IsAsOften (t : Txn) (p q : List Noted) : Type 0 where
  pub reads : count_reads q t ≡ count_reads p t
  pub waits : count_waits q t ≡ count_waits p t

pub as_often : (t : Txn) (p : List Noted) → IsAsOften t p p
as_often t p = record { reads = refl; waits = refl }

pub often_on : (t : Txn) (p q r : List Noted) → IsAsOften t p q → IsAsOften t q r → IsAsOften t p r
often_on t p q r a b = record { reads = b.reads ∙ a.reads; waits = b.waits ∙ a.waits }

pub often_push : (t : Txn) (p : List Noted) (e : Entry) → is_read (λ u x s. is_txn t u) e ≡ false → is_wait_of t e ≡ false → IsAsOften t p (add p e)
often_push t p e unread unwaited = record { reads = count_same (λ n. is_read (λ u x s. is_txn t u) n.entry) p (next p e) unread; waits = count_same (λ n. is_wait_of t n.entry) p (next p e) unwaited }

-- the message asks for an item
abbrev pub asks_item : Message → Bool
asks_item (letters.ReadAsk t ask x) = true
asks_item other = false

-- how often a program has asked for its end
abbrev pub ends_asked : Phase → ℕ
ends_asked sent = 1
ends_asked other = 0

-- Of so many asks for an item, and so many for the end, each was answered by a Read or a Wait, or is on its way
pub record Balance (p : List Noted) (t : Txn) (asks : List Message) (items ends : ℕ) : Type 0 where
  pub reads : count_reads p t + count_by asks_item asks ≡ items
  pub waits : count_waits p t + count_by asks_end asks ≡ ends

-- of a transaction that hasn't begun there is none
pub fresh_balance : (p : List Noted) → IsWhole p → (t : Txn) → has_begun p t ≡ false → Balance p t [] 0 0
fresh_balance p whole t fresh = record { reads = ap (λ n. n + 0) (none_counted (λ n. is_read (λ u x s. is_txn t u) n.entry) p (unread (list_any (λ n. is_read (λ u x s. is_txn t u) n.entry) p) refl)); waits = ap (λ n. n + 0) (none_counted (λ n. is_wait_of t n.entry) p (fresh_unwaited p whole t fresh)) }
  where
    its : (e : Entry) → is_read (λ u x s. is_txn t u) e ≡ true → is_of t e ≡ true
    its (Read u x s) h = h
    its other h = absurd (true≢false (sym h))

    unread : (b : Bool) → list_any (λ (n : Noted). is_read (λ u x s. is_txn t u) n.entry) p ≡ b → b ≡ false
    unread true q = absurd (true≢false (sym (whole t (any_weaken (λ n. is_read (λ u x s. is_txn t u) n.entry) (λ n. is_of t n.entry) (λ n h. its n.entry h) p q)) ∙ fresh))
    unread false q = refl

-- one ask more
pub item_more : (p : List Noted) (t : Txn) (asks : List Message) (u : Txn) (ask : ℕ) (x : Item) (items ends : ℕ) → Balance p t asks items ends → Balance p t (asks ++ letters.ReadAsk u ask x ∷ []) (items + 1) ends
item_more p t asks u ask x items ends b = record {
  reads = (let more = count_push asks_item asks (letters.ReadAsk u ask x) true refl in let was = b.reads in omega (arith, more, was));
  waits = (let more = count_push asks_end asks (letters.ReadAsk u ask x) false refl in let was = b.waits in omega (arith, more, was));
}

pub end_more : (p : List Noted) (t : Txn) (asks : List Message) (m : Message) (items : ℕ) → asks_end m ≡ true → Balance p t asks items 0 → Balance p t (asks ++ m ∷ []) items 1
end_more p t asks m items is b = record {
  reads = (let more = count_push asks_item asks m false (no_item m is) in let was = b.reads in omega (arith, more, was));
  waits = (let more = count_push asks_end asks m true is in let was = b.waits in omega (arith, more, was));
}
  where
    no_item : (m : Message) → asks_end m ≡ true → asks_item m ≡ false
    no_item (letters.ReadAsk t ask x) q = absurd (true≢false (sym q))
    no_item other q = refl

-- one of those that run is the transaction
abbrev IsAmong : List Noted → Txn → List (Txn × Request) → Type 0
IsAmong p t rs = list_any (λ r. is_txn t r.0) (filter (λ r. is_running p r.0) rs) ≡ true

-- who has waited and isn't over waits
pub waited_waits : (p : List Noted) → IsWhole p → (t : Txn) → has_waited p t ≡ true → has_ended p t ≡ false → is_waiting p t ≡ true
waited_waits p whole t waited unended = among p waited
  where
    its : (e : Entry) → is_wait_of t e ≡ true → is_of t e ≡ true
    its (Wait u request) h = h
    its other h = absurd (true≢false (sym h))

    runs : is_running p t ≡ true
    runs = and_from (has_begun p t) (not (has_ended p t)) (whole t (any_weaken (λ n. is_wait_of t n.entry) (λ n. is_of t n.entry) (λ n h. its n.entry h) p waited)) (ap not unended)

    more : (r : Txn × Request) (rs : List (Txn × Request)) → IsAmong p t rs → IsAmong p t (r ∷ rs)
    more r rs a = go (is_running p r.0)
      where
        go : (b : Bool) → list_any (λ r. is_txn t r.0) (if b then r ∷ filter (λ r. is_running p r.0) rs else filter (λ r. is_running p r.0) rs) ≡ true
        go true = grind (arith, common_steps, a)
        go false = a

    first : (u : Txn) (request : Request) (rs : List (Txn × Request)) → is_txn t u ≡ true → IsAmong p t ((u, request) ∷ rs)
    first u request rs is =
        subst (λ b. list_any (λ r. is_txn t r.0) (if b then (u, request) ∷ filter (λ r. is_running p r.0) rs else filter (λ r. is_running p r.0) rs) ≡ true) (sym (ap (is_running p) (same_txn u t is) ∙ runs)) (grind (arith, common_steps, is))

    among : (ns : List Noted) → list_any (λ n. is_wait_of t n.entry) ns ≡ true → IsAmong p t (filter_map (λ n. wait_of n.entry) ns)
    among [] h = absurd (true≢false (sym h))
    among (n ∷ ns) h = go n.entry h (among ns)
      where
        go : (e : Entry) → (is_wait_of t e || list_any (λ n. is_wait_of t n.entry) ns) ≡ true → (list_any (λ n. is_wait_of t n.entry) ns ≡ true → IsAmong p t (filter_map (λ n. wait_of n.entry) ns)) → IsAmong p t (cons_option (wait_of e) (filter_map (λ n. wait_of n.entry) ns))
        go (Wait u request) h later = by (is_txn t u) refl h
          where
            by : (b : Bool) → is_txn t u ≡ b → (b || list_any (λ n. is_wait_of t n.entry) ns) ≡ true → IsAmong p t ((u, request) ∷ filter_map (λ n. wait_of n.entry) ns)
            by true is h = first u request (filter_map (λ n. wait_of n.entry) ns) is
            by false is h = more (u, request) (filter_map (λ n. wait_of n.entry) ns) (later h)
        go other h later = later h
