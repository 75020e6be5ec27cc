-- Where no letter is left, a run is finished, and so its report is sound.
use Rattle.std.proofs.Common.{◌≡◌, true, List}
use Rattle.raid_workload.specs.declared.workload.Workload.{Workload}
use Rattle.raid_workload.specs.Parts.{txns}
use Rattle.raid_legal.specs.Sound.{Sound}
use Rattle.raid_legal.specs.Switched.{Finished}
use Rattle.raid_message.specs.declared.letter.Pick.{Pick}
use Rattle.raid_steps.specs.World.{run, report, is_idle}
use Rattle.raid_sessions.proofs.Reached.{reached}
use Rattle.raid_legal_runs.proofs.Laws.{truthful}
use Rattle.raid_vectors.proofs.AckRuns.{none_owe}
use Rattle.raid_settled.proofs.Runs.{runs_settled}
use Rattle.raid_starts.proofs.Runs.{idle_served}
use Rattle.raid_idle.proofs.Nobody.{nobody_runs}
use Rattle.raid_idle.proofs.Once.{once_where_none_runs}

module _ (w : Workload) (schedule : List Pick) (idle : is_idle (run w schedule) ≡ true) where
  pub finished : Finished w (report w (run w schedule).servers).entries
  finished = record {
    unforced = (truthful w schedule idle).unforced;
    ended = nobody_runs w schedule idle;
    once = once_where_none_runs w (run w schedule).servers.sequencer.history (txns w) (reached w schedule).placed (nobody_runs w schedule idle);
    served = idle_served w schedule idle (nobody_runs w schedule idle);
    settled = runs_settled w schedule idle;
    acked = none_owe w schedule idle;
  }

  pub sound : Sound w (report w (run w schedule).servers)
  sound = (let t = truthful w schedule idle in record { legal = t.legal; serial = t.serial; copies = t.copies; switched = t.switched; finished = finished })
