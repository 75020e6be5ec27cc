-- What tables say of a history's values, of what was read in it, and of its sites.
use Rattle.std.specs.Prelude.{◌≡◌, ℕ, ℤ, pos, ◌+◌, nat_lt, Bool, ◌&&◌, List, [], Option, Some, None, slice_index_or, ⊤, if◌then◌else◌}
use Rattle.raid_base.specs.declared.names.Txn.{Txn}
use Rattle.raid_base.specs.declared.names.Item.{Item}
use Rattle.raid_base.specs.declared.names.Site.{Site}
use Rattle.raid_base.specs.declared.entry.Entry.{Entry}
use Rattle.raid_base.specs.declared.entry.Entry.TheVariants.{Read, Down, Up}
use Rattle.raid_base.specs.declared.entry.Noted.{Noted}
use Rattle.raid_base.specs.Find.{first_of}
use Rattle.raid_base.specs.Names.{is_txn, is_item, is_site}
use Rattle.raid_program.specs.Run.{put}
use Rattle.raid_workload.specs.declared.workload.Workload.{Workload}
use Rattle.raid_rules.specs.Entries.{is_down}
use Rattle.raid_rules.specs.History.{number_of}
use Rattle.raid_rules.specs.Sessions.{last_session}
use Rattle.raid_legal.specs.Seen.{value_of, seen}
use Rattle.raid_legal.specs.Legal as legal
use Rattle.raid_seen.specs.declared.outages.Outage.{Outage}
use Rattle.raid_seen.specs.declared.readings.LastRead.{LastRead}
use Rattle.raid_seen.specs.declared.readings.Reading.{Reading}

-- a site that has never gone down
abbrev pub unbroken : Outage
unbroken = record { downs = 0; ups = 0; session = 1; fell = 0 }

-- how the site has fared, by the rows
abbrev pub outage_of : List Outage → Site → Outage
outage_of rows s = slice_index_or rows s.0 unbroken

-- a transaction that hasn't read
abbrev pub unread : Reading
unread = record { answers = []; latest = None }

-- what the transaction has read, and its last Read, by the rows
abbrev pub answers_of : List Reading → Txn → List (Item × ℤ)
answers_of rows t = (slice_index_or rows t.0 unread).answers

abbrev pub latest_of : List Reading → Txn → Option LastRead
latest_of rows t = (slice_index_or rows t.0 unread).latest

-- the Read is of the item, and the site that was to serve it has gone down since
abbrev pub is_lapsed : List Outage → Item → LastRead → Bool
is_lapsed rows x read = is_item x read.item && nat_lt read.number (outage_of rows read.site).fell

-- how a site has fared after an entry with this number
abbrev pub turn_outage : ℕ → Site → Outage → Entry → Outage
turn_outage number s o (Down site) = if is_site s site then record o { downs = o.downs + 1; fell = number } else o
turn_outage number s o (Up site session) = if is_site s site then record o { ups = o.ups + 1; session = session } else o
turn_outage number s o other = o

-- what a transaction has read after an entry, given the items' values before it
abbrev pub turn_answers : List ℤ → Txn → List (Item × ℤ) → Entry → List (Item × ℤ)
turn_answers values t answers (Read u x site) = if is_txn t u then put answers x (slice_index_or values x.0 (pos 0)) else answers
turn_answers values t answers other = answers

-- its last Read after an entry with this number
abbrev pub turn_latest : ℕ → Txn → Option LastRead → Entry → Option LastRead
turn_latest number t latest (Read u x s) = if is_txn t u then Some (record { item = x; site = s; number = number }) else latest
turn_latest number t latest other = latest

-- the values are those of the items after the prefix
abbrev pub AreValues : Workload → List ℤ → List Noted → Type 0
AreValues w values p = (x : Item) → slice_index_or values x.0 (pos 0) ≡ value_of w p x

-- the entry is this Read
pub record IsRead (read : LastRead) (n : Noted) : Type 0 where
  pub by : Txn
  pub entry : n.entry ≡ Read by read.item read.site
  pub number : n.at ≡ read.number

-- the entry, if there is one, is the Read, if there is one
abbrev pub IsLatest : Option LastRead → Option Noted → Type 0
IsLatest None None = ⊤
IsLatest (Some read) (Some n) = IsRead read n
IsLatest read n = ⊥

-- the rows have what each transaction has seen, and its last Read
pub record AreReadings (w : Workload) (rows : List Reading) (p : List Noted) : Type 0 where
  pub answers : (t : Txn) (x : Item) → first_of x (answers_of rows t) ≡ seen w p t x
  pub latest : (t : Txn) → IsLatest (latest_of rows t) (legal.last_read p t)

-- the rows have how each site has fared
pub record AreOutages (rows : List Outage) (p : List Noted) : Type 0 where
  pub downs : (s : Site) → (outage_of rows s).downs ≡ legal.downs p s
  pub ups : (s : Site) → (outage_of rows s).ups ≡ legal.ups p s
  pub sessions : (s : Site) → (outage_of rows s).session ≡ last_session p s
  pub falls : (s : Site) → (outage_of rows s).fell ≡ number_of (is_down (is_site s)) p
