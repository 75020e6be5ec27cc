-- What a sequencer is: that of which state, and what holds of it between two letters.
use Rattle.std.specs.Prelude.{◌≡◌, ℕ, ◌+◌, ◌*◌, ◌≤◌, Bool, false, length, None}
use Rattle.raid_workload.specs.declared.workload.Workload.{Workload}
use Rattle.raid_workload.specs.Parts.{txns}
use Rattle.raid_rules.specs.History.{noted}
use Rattle.raid_legal.specs.Forced.{forced}
use Rattle.raid_boxed.specs.Boxed.{Says}
use Rattle.raid_steps.specs.State as steps
use Rattle.raid_record.specs.Tells as records
use Rattle.raid_force.specs.Force.{Racked}
use Rattle.raid_sequencer.specs.declared.sequencer.Sequencer.{Sequencer}
use Rattle.raid_sequencer.specs.Kept.{IsKept}
use Rattle.raid_sequencer.specs.Extent.{extent}

-- the workload that it was made of
abbrev pub workload_of : {V : Type 0} {D : V → Type 0} → Sequencer V D → Workload
workload_of q = q.workload

-- how many letters it has heard
abbrev pub heard : {V : Type 0} {D : V → Type 0} → Sequencer V D → ℕ
heard q = q.heard

-- it was refused memory
abbrev pub is_finished : {V : Type 0} {D : V → Type 0} → Sequencer V D → Bool
is_finished q = q.finished

-- the sequencer is that of the state
abbrev pub Tells : {V : Type 0} {D : V → Type 0} → Sequencer V D → steps.Sequencer → Type 0
Tells q s = records.Tells q.workload q.parts.record s

-- between two letters the tables and controllers are those of the history, nothing is forced, and the history is no longer than the letters
-- that were heard let it be: three entries for each, and those that none asks for
pub record IsReady {V : Type 0} {D : V → Type 0} (say : Says V D) (q : Sequencer V D) : Type 0 where
  pub kept : IsKept say q.workload q.parts
  pub quiet : forced q.workload (noted q.parts.record.history) ≡ None
  pub room : extent q.workload q.parts.record.history ≤ 3 * q.heard + (length (txns q.workload) + 2 * length q.workload.switches)

-- so it is as long as no memory was wanted
abbrev pub Runs : {V : Type 0} {D : V → Type 0} → Says V D → Sequencer V D → Type 0
Runs say q = q.finished ≡ false → IsReady say q

-- its controllers are of the workload's structure, those in the rack are cleared, and together they are enough: also after want of memory
abbrev pub IsRacked : {V : Type 0} {D : V → Type 0} → Says V D → Sequencer V D → Type 0
IsRacked say q = Racked say q.workload.structure q.parts.force
