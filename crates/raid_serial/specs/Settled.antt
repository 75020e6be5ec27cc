-- Transactions that no later conflict can reach any more.
use Rattle.std.specs.Prelude.{◌≡◌, true, List}
use Rattle.raid_base.specs.declared.names.Txn.{Txn}
use Rattle.raid_base.specs.declared.entry.Noted.{Noted}
use Rattle.raid_rules.specs.Conflict.{Edge, Path}
use Rattle.raid_rules.specs.History.{has_committed, is_running}

-- the transaction is committed, and no running one reaches it
pub record IsSettled (p : List Noted) (t : Txn) : Type 0 where
  pub committed : has_committed p t ≡ true
  pub unreached : (r : Txn) → is_running p r ≡ true → Path (Edge p) r t → ⊥
