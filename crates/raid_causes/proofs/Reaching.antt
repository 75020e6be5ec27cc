-- Each end that servers come to by themselves is reached by a schedule.
use Rattle.std.proofs.Common.{◌≡◌, ℕ, true, List}
use Rattle.raid_workload.specs.declared.workload.Workload.{Workload}
use Rattle.raid_message.specs.declared.letter.Pick.{Pick}
use Rattle.raid_steps.specs.World.{World, open_world, run, is_schedule}
use Rattle.raid_causes.specs.Histories.{History, Histories}
use Rattle.raid_causes.proofs.Opening.{merged_runs, journals_rise}
use Rattle.raid_causes.proofs.Sorted.{an_order}

pub reached : (w : Workload) (histories : ℕ → History) (end : World) → Histories w (open_world w) histories end → (picks : List Pick) × (is_schedule w picks ≡ true) × (run w picks ≡ end)
reached w histories end h =
    let order = an_order end.journals (journals_rise w histories end h) in
    let run = merged_runs w histories end order.0 h order.1 in
    (order.0, run.0, run.1)
