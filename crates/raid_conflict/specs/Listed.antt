-- Which entry may be noted after a list, and what a transaction reaches.
use Rattle.std.specs.Prelude.{◌≡◌, ℕ, ◌<◌, nat_lt, Bool, true, false, List, All}
use Rattle.std.specs.List.{list_any}
use Rattle.raid_base.specs.declared.names.Txn.{Txn}
use Rattle.raid_base.specs.declared.entry.Entry.{Entry}
use Rattle.raid_base.specs.declared.entry.Noted.{Noted}
use Rattle.raid_rules.specs.History.{stamp, has_ended}
use Rattle.raid_rules.specs.Conflict.{edges, reached}
use Rattle.raid_rules.specs.Last.{acts_by}
use Rattle.raid_rules.specs.Order.{is_of}

-- an entry under a number, with a stamp
abbrev pub noted_as : ℕ → ℕ → Entry → Noted
noted_as at stamp e = record { at = at; stamp = stamp; entry = e }

-- the entry may come after the list: its number is larger than each there, its stamp is that of all entries of its transaction, and who reads or commits has not ended
pub record Extends (view : List Noted) (n : Noted) : Type 0 where
  pub above : All (λ m. m.at < n.at) view
  pub stamped : (t : Txn) → is_of t n.entry ≡ true → All (λ m. is_of t m.entry ≡ true → m.stamp ≡ n.stamp) view
  pub goes_on : (t : Txn) → acts_by t n.entry ≡ true → has_ended view t ≡ false

-- the transaction reaches one whose stamp is less
abbrev pub reaches_before : List Noted → Txn → ℕ → Bool
reaches_before view t before = list_any (λ u. nat_lt (stamp view u) before) (reached (edges view) t)
