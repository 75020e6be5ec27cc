-- What a controller carries to the next one.
use Rattle.std.specs.Prelude.{◌≡◌, Bool, true, false, not, ◌||◌, List, filter, All}
use Rattle.raid_base.specs.declared.entry.Entry.{Entry}
use Rattle.raid_base.specs.declared.entry.Noted.{Noted}
use Rattle.raid_base.specs.declared.verdict.Structure.{Structure}
use Rattle.raid_base.specs.declared.verdict.Structure.TheVariants.{Native, GenericState}
use Rattle.raid_base.specs.declared.names.Txn.{Txn}
use Rattle.raid_rules.specs.Entries.{is_begin, is_read}
use Rattle.raid_rules.specs.History.{has_ended}
use Rattle.raid_rules.specs.Order.{IsInOrder}

-- a Begin or a Read of a transaction that passes the test
abbrev pub is_start : (Txn → Bool) → Entry → Bool
is_start test e = is_begin test e || is_read (λ t x s. test t) e

-- the Begins and Reads of the transactions that haven't ended
abbrev pub carried : List Noted → List Noted
carried view = filter (λ n. is_start (λ t. not (has_ended view t)) n.entry) view

-- what may be carried: Begins and Reads, in order
pub record IsCarry (c : List Noted) : Type 0 where
  pub in_order : IsInOrder c
  pub starts : All (λ n. is_start (λ t. true) n.entry ≡ true) c

-- the structure is that which serves every kind
abbrev pub is_generic : Structure → Bool
is_generic Native = false
is_generic GenericState = true
