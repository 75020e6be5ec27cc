-- What tables say of owed acknowledgements, and how an entry changes them.
use Rattle.std.specs.Prelude.{◌≡◌, ◌≤◌, Bool, true, ◌&&◌, ◌||◌, [], slice_index_or}
use Rattle.std.specs.List.{list_any}
use Rattle.raid_base.specs.declared.names.Txn.{Txn}
use Rattle.raid_base.specs.declared.names.Item.{Item}
use Rattle.raid_base.specs.declared.names.Site.{Site}
use Rattle.raid_base.specs.declared.entry.Entry.{Entry}
use Rattle.raid_base.specs.Names.{is_item, has_txn}
use Rattle.raid_rules.specs.Entries.{writes_item}
use Rattle.raid_rules.specs.Sessions.{turn_owed}
use Rattle.raid_faillock.specs.declared.debts.Debts.{Debts}
use Rattle.raid_faillock.specs.Sets.{has_at}

-- the site owes the transaction's acknowledgement
abbrev pub owes_in : Debts → Site → Txn → Bool
owes_in d s t = has_at d.owed.items t.0 s

-- a Commit of the transaction wrote the item
abbrev pub wrote_in : Debts → Txn → Item → Bool
wrote_in d t x = list_any (is_item x) (slice_index_or d.wrote.items t.0 [])

-- each transaction whose acknowledgement a site owes is listed
abbrev pub AreListed : Debts → Type 0
AreListed d = (s : Site) (t : Txn) → 1 ≤ s.0 → s.0 ≤ 8 → owes_in d s t ≡ true → has_txn d.unpaid.items t ≡ true

-- the site owes the acknowledgement of a listed transaction that wrote the item
abbrev pub owed_for : Debts → Site → Item → Bool
owed_for d s x = list_any (λ t. owes_in d s t && wrote_in d t x) d.unpaid.items

-- what is said after an entry
pub record DebtsTurn (d e : Debts) (entry : Entry) : Type 0 where
  pub owed : (s : Site) (t : Txn) → 1 ≤ s.0 → s.0 ≤ 8 → owes_in e s t ≡ turn_owed s t (owes_in d s t) entry
  pub wrote : (t : Txn) (x : Item) → wrote_in e t x ≡ (wrote_in d t x || writes_item t x entry)
  pub listed : AreListed e

-- the same is said
pub record DebtsAlike (d e : Debts) : Type 0 where
  pub owed : (s : Site) (t : Txn) → owes_in e s t ≡ owes_in d s t
  pub wrote : (t : Txn) (x : Item) → wrote_in e t x ≡ wrote_in d t x
  pub unpaid : e.unpaid.items ≡ d.unpaid.items
