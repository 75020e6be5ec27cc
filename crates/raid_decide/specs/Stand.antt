-- The sequencer's parts, and the history that they stand for.
use Rattle.std.specs.Prelude.{◌≡◌, ℕ, List, Some}
use Rattle.raid_base.specs.declared.names.Txn.{Txn}
use Rattle.raid_base.specs.declared.request.Request.{Request}
use Rattle.raid_base.specs.declared.entry.Entry.{Entry}
use Rattle.raid_base.specs.declared.entry.Noted.{Noted}
use Rattle.raid_base.specs.declared.verdict.Kind.{Kind}
use Rattle.raid_workload.specs.declared.workload.Workload.{Workload}
use Rattle.raid_workload.specs.Parts.{placement}
use Rattle.raid_rules.specs.History.{noted, waiting}
use Rattle.raid_legal.specs.InForce.{in_force, controllers}
use Rattle.raid_conflict.specs.declared.state.State.{State}
use Rattle.raid_conflict.specs.Live as graphs
use Rattle.raid_faillock.specs.Stands as faillocks
use Rattle.raid_switch.specs.declared.eras.Eras.{Eras}
use Rattle.raid_switch.specs.Force.{AreInForce, of_each}
use Rattle.raid_placed.specs.Placed.{Placed}
use Rattle.raid_boxed.specs.Boxed.{Says, kind_by, structure_by, StandsBy}

-- the controllers of the eras have these kinds and stand for these views
abbrev pub AreEras : {V : Type 0} {D : V → Type 0} → Says V D → Eras V D → List (Kind × List Noted) → Type 0
AreEras say eras cs = AreInForce (kind_by say) (StandsBy say) eras.first eras.second cs

-- the same is said of eras after as before: they stand for what they stood for, with their kinds and structures
pub record AreKept {V : Type 0} {D : V → Type 0} (say : Says V D) (before after : Eras V D) : Type 0 where
  pub views : (cs : List (Kind × List Noted)) → AreEras say before cs → AreEras say after cs
  pub kinds : of_each (kind_by say) after.first after.second ≡ of_each (kind_by say) before.first before.second
  pub structures : of_each (structure_by say) after.first after.second ≡ of_each (structure_by say) before.first before.second
  pub since : after.since ≡ before.since
  pub finished : after.finished ≡ before.finished

-- the history is placed, and these are the controllers in force after it, with their kinds and views
pub record AreOf {V : Type 0} {D : V → Type 0} (say : Says V D) (w : Workload) (h : List Entry) (eras : Eras V D) : Type 0 where
  pub placed : Placed w h
  pub views : AreEras say eras (controllers (in_force w (noted h)) (noted h))

-- and what else is asked for the answers is of the history: the fail-locks, and the waiting requests
pub record PartsStand {V : Type 0} {D : V → Type 0} (say : Says V D) (w : Workload) (h : List Entry) (locks : faillocks.Parts) (waits : List (Txn × Request)) (eras : Eras V D) : Type 0 where
  pub asked : AreOf say w h eras
  pub locked : faillocks.Stands locks w.sites (placement w) (noted h)
  pub waited : waits ≡ waiting (noted h)

-- and what is asked besides to tell what must come next: the graph, with which SwitchOn the second controller came, how many switches there
-- were, and whom the last one aborts
pub record SwitchesStand (w : Workload) (h : List Entry) (graph : State) (since switches : ℕ) (off : List Txn) : Type 0 where
  pub drawn : graphs.Stands graph (noted h)
  pub joined : (c : Kind × ℕ) → (in_force w (noted h)).next ≡ Some c → since ≡ c.1
  pub counted : switches ≡ (in_force w (noted h)).switches
  pub aborted : off ≡ (in_force w (noted h)).off
