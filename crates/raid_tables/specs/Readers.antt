-- What the table of readers says of a view.
use Rattle.std.specs.Prelude.{◌≡◌, Bool, List, ⊤}
use Rattle.std.specs.List.{list_any}
use Rattle.raid_base.specs.declared.names.Item.{Item}
use Rattle.raid_base.specs.declared.names.Txn.{Txn}
use Rattle.raid_base.specs.declared.entry.Entry.{Entry}
use Rattle.raid_base.specs.declared.entry.Entry.TheVariants.{Read}
use Rattle.raid_base.specs.declared.entry.Noted.{Noted}
use Rattle.raid_rules.specs.Verdicts.{is_read_by}
use Rattle.raid_tables.specs.Rows.{row_of, HasRoom}
use Rattle.raid_tables.specs.Running.{PassesRunning}
use Rattle.raid_tables.specs.declared.readers.Readers.{Readers}

-- the rows answer each question on the running readers of an item
pub record KnowsReaders (r : Readers) (view : List Noted) : Type 0 where
  pub readers : (x : Item) (test : Txn → Bool) → PassesRunning view test → list_any test (row_of r.rows.items x.0) ≡ list_any (λ n. is_read_by test x n.entry) view

-- there is room for the entry
abbrev pub HasReaderRoom : Readers → Entry → Type 0
HasReaderRoom r (Read t x site) = HasRoom r.rows.items x.0
HasReaderRoom r other = ⊤
