-- Who waits for whom after a history, and traps: transactions each of which waits for one of them.
use Rattle.std.specs.Prelude.{◌≡◌, ℕ, ℤ, nat_lt, Bool, true, false, not, ◌&&◌, List, Option, Some, None}
use Rattle.std.specs.List.{list_any, list_all}
use Rattle.raid_base.specs.declared.names.Txn.{Txn}
use Rattle.raid_base.specs.declared.names.Item.{Item}
use Rattle.raid_base.specs.declared.entry.Noted.{Noted}
use Rattle.raid_base.specs.declared.verdict.Kind.{Kind}
use Rattle.raid_base.specs.Names.{is_txn}
use Rattle.raid_workload.specs.declared.workload.Workload.{Workload}
use Rattle.raid_rules.specs.History.{is_running, is_waiting, waiting}
use Rattle.raid_rules.specs.Conflict.{Path}
use Rattle.raid_rules.specs.Verdicts.{is_read_by}
use Rattle.raid_legal.specs.InForce.{in_force}
use Rattle.raid_legal.specs.Answers.{is_lock, blocks}

-- each of these transactions waits for one of them, by the relation given
abbrev pub is_trap : (Txn → Txn → Bool) → List Txn → Bool
is_trap waits ts = list_all (λ t. list_any (waits t) ts) ts

-- t waits, and a read of u keeps it from making its writes under the controllers in force
abbrev pub waits_for : Workload → List Noted → Txn → Txn → Bool
waits_for w p t u = list_any (λ r. is_txn t r.0 && blocks w p u t r.1.writes) (waiting p)

-- reads up to this number make nobody wait: those before the SwitchOn, where the old one of two controllers isn't locking
abbrev pub cut_at : Bool → Option (Kind × ℕ) → ℕ
cut_at true next = 0
cut_at false None = 0
cut_at false (Some c) = c.1

abbrev pub wait_cut : Workload → List Noted → ℕ
wait_cut w p = let f = in_force w p in cut_at (is_lock f.kind) f.next

-- the transaction has a Read of one of the items, with a larger number
abbrev pub has_read_past : ℕ → List Noted → Txn → List (Item × ℤ) → Bool
has_read_past k p u writes = list_any (λ n. nat_lt k n.at && list_any (λ pair. is_read_by (is_txn u) pair.0 n.entry) writes) p

-- t waits to write an item that u, another one that runs, has read past the cut. What the controllers in force say may come back after
-- switches; this can't: between two that wait, no entry makes it so but a Wait of the first
abbrev pub waits_on_reads : Workload → List Noted → Txn → Txn → Bool
waits_on_reads w p t u = not (is_txn t u) && is_running p u && list_any (λ r. is_txn t r.0 && has_read_past (wait_cut w p) p u r.1.writes) (waiting p)

-- the same as a relation, whose paths lead from who waits to whom it waits for, and on
abbrev pub WaitsFor : Workload → List Noted → Txn → Txn → Type 0
WaitsFor w p t u = waits_for w p t u ≡ true

-- following who waits for whom leads from the transaction to one that runs and doesn't wait
pub record EndsFree (w : Workload) (p : List Noted) (t : Txn) : Type 0 where
  pub last : Txn
  pub reached : Path (WaitsFor w p) t last
  pub runs : is_running p last ≡ true
  pub free : is_waiting p last ≡ false
