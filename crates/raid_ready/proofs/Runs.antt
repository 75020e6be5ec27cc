-- In every run all servers may hear what they might take next, where copies are told as they should be; and so runs end.
use Rattle.std.proofs.Common.{◌≡◌, ◌<◌, true, List, length}
use Rattle.raid_workload.specs.declared.workload.Workload.{Workload}
use Rattle.raid_message.specs.declared.letter.Pick.{Pick}
use Rattle.raid_steps.specs.World.{run, is_schedule, rounds}
use Rattle.raid_asks.proofs.Begins.{reached_all}
use Rattle.raid_ends.specs.Hearing.{AreReady}
use Rattle.raid_ends.proofs.Runs.{ends}
use Rattle.raid_ready.specs.Told.{CopiesAreTold}
use Rattle.raid_ready.proofs.Sequencer.{may_hear}
use Rattle.raid_ready.proofs.Sites.{run_sites}

module _ (w : Workload) where
  pub run_ready : (schedule : List Pick) → CopiesAreTold w (run w schedule) → AreReady w (run w schedule)
  run_ready schedule told = record {
    places = λ k s at. ((reached_all w schedule).1.0 k s at).place;
    sites = run_sites w schedule;
    sequencer = may_hear w schedule told;
  }

  pub run_ends : ((earlier : List Pick) → CopiesAreTold w (run w earlier)) → (schedule : List Pick) → is_schedule w schedule ≡ true → length schedule < rounds w
  run_ends told = ends w (λ earlier. run_ready earlier (told earlier))
