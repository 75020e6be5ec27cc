-- What a replay keeps of the entries so far.
use Rattle.std.specs.Prelude.{◌≡◌, ℕ, ℤ, ◌+◌, ◌==◌, Bool, true, false, not, ◌&&◌, ◌||◌, List, [], ◌∷◌, ◌++◌, length, Option, Some, None}
use Rattle.std.specs.Option.{option_map_or}
use Rattle.std.specs.Ordering.{int_eq}
use Rattle.raid_base.specs.declared.names.Item.{Item}
use Rattle.raid_base.specs.declared.entry.Entry.{Entry}
use Rattle.raid_base.specs.declared.report.CopyLine.{CopyLine}
use Rattle.raid_base.specs.Find.{first_of}
use Rattle.std.specs.List.{list_any, list_all}
use Rattle.raid_base.specs.declared.entry.Noted.{Noted}
use Rattle.raid_workload.specs.declared.workload.Workload.{Workload}
use Rattle.raid_workload.specs.Parts.{txns, sites, items}
use Rattle.raid_rules.specs.History.{noted, version}
use Rattle.raid_rules.specs.Sessions.{owes}
use Rattle.raid_legal.specs.Seen.{running, is_up, is_locked}
use Rattle.raid_legal.specs.Switched.{is_served, is_settled}
use Rattle.raid_legal.specs.Legal.{Legal, Allowed}
use Rattle.raid_seen.specs.Tables.{AreValues, AreReadings, AreOutages}
use Rattle.raid_record.specs.Keeps as records
use Rattle.raid_boxed.specs.Boxed.{Says}
use Rattle.raid_force.specs.Force.{Holds}
use Rattle.raid_check.specs.declared.tables.Tables.{Tables}
use Rattle.raid_check.specs.declared.replay.Replay.{Replay}

-- the tables are those of their history, which is legal
pub record AreOf (w : Workload) (t : Tables) : Type 0 where
  pub legal : Legal w t.history
  pub kept : records.Stands w t.graph t.locks t.waits t.nexts t.left (noted t.history)
  pub values : AreValues w t.values (noted t.history)
  pub readings : AreReadings w t.readings (noted t.history)
  pub outages : AreOutages t.outages (noted t.history)

-- and the controllers are those in force after it
pub record Stands {V : Type 0} {D : V → Type 0} (say : Says V D) (w : Workload) (r : Replay V D) : Type 0 where
  pub tables : AreOf w r.tables
  pub force : Holds say w r.force (noted r.tables.history)
  pub goes_on : r.force.finished ≡ false

-- nothing is left to do after the prefix, but for entries that are forced; nobody begins or ends twice in a legal history
pub record IsQuiet (w : Workload) (p : List Noted) : Type 0 where
  pub ended : running w p ≡ []
  pub served : list_all (is_served w p) (txns w) ≡ true
  pub settled : list_all (λ s. list_all (is_settled w p s) (items w)) (sites w) ≡ true
  pub acked : list_any (λ s. list_any (owes p s) (txns w)) (sites w) ≡ false

-- the copy, if it may be read, has the item's final value, and the number of the Commit that wrote it
abbrev pub is_current : Workload → List Noted → List (Item × ℤ) → CopyLine → Bool
is_current w p finals c =
    not (is_up w p c.site) || is_locked w p c.site c.item
    || (option_map_or (λ v. int_eq v c.value) (first_of c.item finals) false && c.version == version p c.item)

-- what becomes of a history where the entry comes next: it is taken, or else it is refused, and the number that it would have had is told
abbrev pub Takes : Workload → List Entry → Entry → Option ℕ → List Entry → Type 0
Takes w h e None after = (after ≡ h ++ e ∷ []) × Allowed w (noted h) e
Takes w h e (Some n) after = (n ≡ length h + 1) × (Allowed w (noted h) e → ⊥)
