-- What the table of running transactions says of a view.
use Rattle.std.specs.Prelude.{◌≡◌, ℕ, ◌<◌, nat_le, ◌/◌, Bool, true, false, ◌&&◌, ◌||◌, List, map, filter, slice_index, slice_index_or, vec_len, vec_capacity, if◌then◌else◌, ⊤}
use Rattle.std.specs.List.{list_any}
use Rattle.raid_base.specs.declared.names.Item.{Item}
use Rattle.raid_base.specs.declared.names.Txn.{Txn}
use Rattle.raid_base.specs.declared.entry.Entry.{Entry}
use Rattle.raid_base.specs.declared.entry.Entry.TheVariants.{Begin, Read, Commit, Abort}
use Rattle.raid_base.specs.declared.entry.Noted.{Noted}
use Rattle.raid_base.specs.Names.{is_txn}
use Rattle.raid_rules.specs.Entries.{is_read}
use Rattle.raid_rules.specs.History.{stamp, has_ended}
use Rattle.raid_control.specs.Carried.{is_start}
use Rattle.raid_tables.specs.Rows.{row_of, HasRoom}
use Rattle.raid_tables.specs.declared.running.Started.{Started}
use Rattle.raid_tables.specs.declared.running.Started.TheVariants as starts
use Rattle.raid_tables.specs.declared.running.Start.{Start}
use Rattle.raid_tables.specs.declared.running.Running.{Running}

-- the transaction's flag is set
abbrev pub marked : List Bool → Txn → Bool
marked flags t = slice_index_or flags t.0 false

-- the entry that a start of the transaction is
abbrev pub entry_of : Txn → Started → Entry
entry_of t (starts.Begin home) = Begin t home
entry_of t (starts.Read x site) = Read t x site

-- the noted entry that a start stands for
abbrev pub noted_of : Start → Noted
noted_of s = record { at = s.number; stamp = s.stamp; entry = entry_of s.txn s.what }

-- the test passes none but transactions that haven't ended in the view
abbrev pub PassesRunning : List Noted → (Txn → Bool) → Type 0
PassesRunning view test = (t : Txn) → test t ≡ true → has_ended view t ≡ false

-- the table says who has ended and with which number each began; of a transaction that hasn't ended it has the Reads, and the log has
-- the Begins and Reads of all those in order
pub record KnowsRunning (r : Running) (view : List Noted) : Type 0 where
  pub ends : (t : Txn) → marked r.ended.items t ≡ has_ended view t
  pub begins : (t : Txn) → slice_index r.begins.items t.0 ≡ stamp view t
  pub reads : (t : Txn) → has_ended view t ≡ false → (test : Item → ℕ → Bool) →
      list_any (λ s. test s.item s.number) (row_of r.reads.items t.0) ≡ list_any (λ n. is_read (λ u x s. is_txn t u && test x n.at) n.entry) view
  pub starts : (test : Txn → Bool) → PassesRunning view test → map noted_of (filter (λ s. test s.txn) r.log.items) ≡ filter (λ n. is_start test n.entry) view

-- how many stale starts are counted after a log of this length was thinned out: none where they were its larger part
abbrev pub left_stale : ℕ → ℕ → ℕ
left_stale stale starts = if nat_le stale (starts / 2) then stale else 0

-- there is room for the entry
abbrev pub HasRunningRoom : Running → Entry → Type 0
HasRunningRoom r (Begin t home) = (t.0 < vec_len r.begins) × (vec_len r.log < vec_capacity r.log)
HasRunningRoom r (Read t x site) = HasRoom r.reads.items t.0 × (vec_len r.log < vec_capacity r.log)
HasRunningRoom r (Commit t request applied) = t.0 < vec_len r.ended
HasRunningRoom r (Abort t cause act) = t.0 < vec_len r.ended
HasRunningRoom r other = ⊤

-- the transaction has ended
pub record Ends (r s : Running) (t : Txn) : Type 0 where
  pub ends : (u : Txn) → marked s.ended.items u ≡ (marked r.ended.items u || is_txn u t)
  pub begins : s.begins ≡ r.begins
  pub reads : (u : Txn) → is_txn t u ≡ false → row_of s.reads.items u.0 ≡ row_of r.reads.items u.0
  pub starts : (test : Txn → Bool) → ((u : Txn) → test u ≡ true → marked s.ended.items u ≡ false) →
      filter (λ x. test x.txn) s.log.items ≡ filter (λ x. test x.txn) r.log.items
