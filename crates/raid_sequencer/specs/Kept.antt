-- When what the sequencer decides from is that of its history.
use Rattle.std.specs.Prelude.{◌≡◌, false}
use Rattle.raid_workload.specs.declared.workload.Workload.{Workload}
use Rattle.raid_rules.specs.History.{noted}
use Rattle.raid_record.specs.Tells as records
use Rattle.raid_boxed.specs.Boxed.{Says}
use Rattle.raid_force.specs.Force.{Holds}
use Rattle.raid_sequencer.specs.declared.parts.Parts.{Parts}

-- the tables are those of the history, and the controllers those that are in force after it
pub record IsKept {V : Type 0} {D : V → Type 0} (say : Says V D) (w : Workload) (parts : Parts V D) : Type 0 where
  pub kept : records.IsKept w parts.record
  pub force : Holds say w parts.force (noted parts.record.history)
  pub goes_on : parts.force.finished ≡ false
