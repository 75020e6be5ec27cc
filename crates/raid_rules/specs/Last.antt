-- What one last entry adds to the edges of a view.
use Rattle.std.specs.Prelude.{◌≡◌, ◌⊎◌, Bool, true, false, ◌||◌, List, [], ◌∷◌, ◌++◌, Contains}
use Rattle.raid_base.specs.Names.{is_txn}
use Rattle.raid_base.specs.declared.names.Txn.{Txn}
use Rattle.raid_base.specs.declared.names.Item.{Item}
use Rattle.raid_base.specs.declared.entry.Entry.{Entry}
use Rattle.raid_base.specs.declared.entry.Noted.{Noted}
use Rattle.raid_rules.specs.Entries.{is_read, is_commit_of}
use Rattle.raid_rules.specs.History.{has_aborted}
use Rattle.raid_rules.specs.Conflict.{Path, clash}

-- a path of no steps or more
abbrev pub Star : (Txn → Txn → Type 0) → Txn → Txn → Type 0
Star R t u = (t ≡ u) ⊎ Path R t u

-- the entry is a Read or a Commit of the transaction
abbrev pub acts_by : Txn → Entry → Bool
acts_by t e = is_read (λ u x s. is_txn t u) e || is_commit_of t e

-- the view has an action of u that the entry of t, placed last, clashes with
pub record NewEdge (view : List Noted) (n : Noted) (t u : Txn) : Type 0 where
  pub first : Noted
  pub item : Item
  pub in_first : Contains view first
  pub clashing : clash u t item first.entry n.entry ≡ true
  pub differ : is_txn u t ≡ false
  pub stays : has_aborted view u ≡ false
