-- Every run ends: all servers are always ready for what they may take next.
use Rattle.std.proofs.Common.{◌≡◌, ◌<◌, true, List, length}
use Rattle.raid_workload.specs.declared.workload.Workload.{Workload}
use Rattle.raid_message.specs.declared.letter.Pick.{Pick}
use Rattle.raid_steps.specs.World.{pick, run, finds, is_schedule, rounds}
use Rattle.raid_measure.specs.Measure.{measure}
use Rattle.raid_ends.specs.Hearing.{AreReady}
use Rattle.raid_ends.proofs.Runs.{pick_falls, ends}
use Rattle.raid_ready.proofs.Runs.{run_ready}
use Rattle.raid_told.proofs.Runs.{runs_told}

module _ (w : Workload) where
  pub ready : (schedule : List Pick) → AreReady w (run w schedule)
  ready schedule = run_ready w schedule (runs_told w schedule)

  pub run_ends : (schedule : List Pick) → is_schedule w schedule ≡ true → length schedule < rounds w
  run_ends = ends w ready

  pub run_falls : (schedule : List Pick) (p : Pick) → finds (run w schedule) p ≡ true → measure w (pick w (run w schedule) p) < measure w (run w schedule)
  run_falls schedule p = pick_falls w (run w schedule) p (ready schedule)
