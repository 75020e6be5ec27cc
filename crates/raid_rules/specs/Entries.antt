-- What one entry says.
use Rattle.std.specs.Prelude.{ℕ, ℤ, Bool, true, false, ◌&&◌, ◌||◌, List, [], Option, Some, None}
use Rattle.raid_base.specs.declared.names.Txn.{Txn}
use Rattle.raid_base.specs.declared.names.Item.{Item}
use Rattle.raid_base.specs.declared.names.Site.{Site}
use Rattle.raid_base.specs.declared.request.Request.{Request}
use Rattle.raid_base.specs.declared.entry.Cause.{Cause}
use Rattle.raid_base.specs.declared.entry.Entry.{Entry}
use Rattle.raid_base.specs.declared.entry.Entry.TheVariants.{Begin, Read, Wait, Commit, Abort, Ack, SwitchOn, Down, Up}
use Rattle.raid_base.specs.Names.{is_txn, is_item, holds}

-- a Begin whose transaction passes the test
abbrev pub is_begin : (Txn → Bool) → Entry → Bool
is_begin test (Begin t home) = test t
is_begin test other = false

-- a Read whose transaction, item and site pass the test
abbrev pub is_read : (Txn → Item → Site → Bool) → Entry → Bool
is_read test (Read t x site) = test t x site
is_read test other = false

-- a Commit whose transaction and request pass the test
abbrev pub is_commit : (Txn → Request → Bool) → Entry → Bool
is_commit test (Commit t request applied) = test t request
is_commit test other = false

-- an Abort whose transaction and cause pass the test
abbrev pub is_abort : (Txn → Cause → Bool) → Entry → Bool
is_abort test (Abort t cause act) = test t cause
is_abort test other = false

-- a Down whose site passes the test
abbrev pub is_down : (Site → Bool) → Entry → Bool
is_down test (Down site) = test site
is_down test other = false

-- an Up whose site passes the test
abbrev pub is_up : (Site → Bool) → Entry → Bool
is_up test (Up site session) = test site
is_up test other = false

-- a SwitchOn whose number passes the test
abbrev pub is_switch_on : (ℕ → Bool) → Entry → Bool
is_switch_on test (SwitchOn k kind method) = test k
is_switch_on test other = false

-- the transaction that the entry names
abbrev pub named : Entry → Option Txn
named (Begin t home) = Some t
named (Read t x site) = Some t
named (Wait t request) = Some t
named (Commit t request applied) = Some t
named (Abort t cause act) = Some t
named (Ack t site) = Some t
named other = None

-- what a Wait asks for
abbrev pub wait_of : Entry → Option (Txn × Request)
wait_of (Wait t request) = Some (t, request)
wait_of other = None

-- what an entry writes: a Commit's writes
abbrev pub writes_of : Entry → List (Item × ℤ)
writes_of (Commit t request applied) = request.writes
writes_of other = []

-- the Begin of one transaction
abbrev pub is_begin_of : Txn → Entry → Bool
is_begin_of t = is_begin (is_txn t)

-- its Commit
abbrev pub is_commit_of : Txn → Entry → Bool
is_commit_of t = is_commit (λ u request. is_txn t u)

-- its Abort
abbrev pub is_abort_of : Txn → Entry → Bool
is_abort_of t = is_abort (λ u cause. is_txn t u)

-- its end, a Commit or an Abort
abbrev pub is_end_of : Txn → Entry → Bool
is_end_of t e = is_commit_of t e || is_abort_of t e

-- an end of whatever transaction
abbrev pub is_end : Entry → Bool
is_end e = is_commit (λ t request. true) e || is_abort (λ t cause. true) e

-- the entry is a Read of the item by the transaction
abbrev pub reads_item : Txn → Item → Entry → Bool
reads_item t x = is_read (λ u y s. is_txn t u && is_item x y)

-- the entry is a Commit of the transaction that writes the item
abbrev pub writes_item : Txn → Item → Entry → Bool
writes_item t x = is_commit (λ u request. is_txn t u && holds x request.writes)
