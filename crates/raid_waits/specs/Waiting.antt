-- Requests that wait, and who waits for whom by a test.
use Rattle.std.specs.Prelude.{ℤ, Bool, List, [], ◌∷◌, ◌++◌, filter, find, map, flat_map, Option, option_map}
use Rattle.std.specs.List.{list_any}
use Rattle.raid_base.specs.declared.names.Txn.{Txn}
use Rattle.raid_base.specs.declared.names.Item.{Item}
use Rattle.raid_base.specs.declared.request.Request.{Request}
use Rattle.raid_base.specs.Names.{is_txn}
use Rattle.raid_rules.specs.Conflict.{leads}

-- the transaction has a request among these
abbrev pub is_among : List (Txn × Request) → Txn → Bool
is_among rs t = list_any (λ r. is_txn t r.0) rs

-- its request, if it has one
abbrev pub request_of : List (Txn × Request) → Txn → Option Request
request_of rs t = option_map (λ r. r.1) (find (λ r. is_txn t r.0) rs)

-- whether a first transaction keeps a second from making these writes
abbrev pub Test : Type 0
Test = Txn → Txn → List (Item × ℤ) → Bool

-- which of these transactions wait for which of them, each with its request, by the test
abbrev pub edges_by : Test → List (Txn × Request) → List (Txn × Txn)
edges_by test rs = flat_map (λ r. map (λ q. (r.0, q.0)) (filter (λ q. test q.0 r.0 r.1.writes) rs)) rs

-- a new request, were it to wait behind these, would wait for itself
abbrev pub closes_by : Test → List (Txn × Request) → Txn → Request → Bool
closes_by test rs t request = leads (edges_by test (rs ++ (t, request) ∷ [])) t t
