-- How the waiting requests change.
use Rattle.std.specs.Prelude.{not, List, [], ◌∷◌, ◌++◌, filter}
use Rattle.raid_base.specs.declared.names.Txn.{Txn}
use Rattle.raid_base.specs.declared.request.Request.{Request}
use Rattle.raid_base.specs.declared.entry.Entry.{Entry}
use Rattle.raid_base.specs.declared.entry.Entry.TheVariants.{Wait, Commit, Abort}
use Rattle.raid_base.specs.Names.{is_txn}

-- the waiting requests after an entry: a Wait adds one at the end, and who ends waits no more
abbrev pub turn_waiting : List (Txn × Request) → Entry → List (Txn × Request)
turn_waiting rs (Wait t request) = rs ++ (t, request) ∷ []
turn_waiting rs (Commit t request applied) = filter (λ r. not (is_txn t r.0)) rs
turn_waiting rs (Abort t cause act) = filter (λ r. not (is_txn t r.0)) rs
turn_waiting rs other = rs
