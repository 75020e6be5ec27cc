-- Every run is legal, and so it is serial.
use Rattle.std.specs.Prelude.{◌≡◌, true, List}
use Rattle.raid_workload.specs.declared.workload.Workload.{Workload}
use Rattle.raid_message.specs.declared.letter.Pick.{Pick}
use Rattle.raid_steps.specs.World.{run, report, is_idle}
use Rattle.raid_legal.specs.Legal.{Legal}
use Rattle.raid_legal.specs.Serial.{Serial}
use Rattle.raid_runs.specs.Asked.{AreAsked}
use Rattle.raid_runs.proofs.Legal.{upheld_legal, upheld_serial}
use Rattle.raid_runs.proofs.Upheld.{run_upheld}
use Rattle.raid_values.proofs.Given.{runs_give}
use Rattle.raid_values.proofs.Idle.{idle_current}
use Rattle.raid_legal_runs.specs.Tell.{TellSeen}
use Rattle.raid_legal_runs.specs.Truthful.{Truthful}
use Rattle.raid_legal_runs.proofs.Runs.{runs_see, runs_tell}

module _ (w : Workload) where
  pub tell : (schedule : List Pick) → TellSeen w (run w schedule)
  tell schedule = runs_tell w (runs_give w) schedule

  asked : (schedule : List Pick) → AreAsked w (report w (run w schedule).servers).entries
  asked schedule = (runs_see w (runs_give w) schedule).entries

  pub legal : (schedule : List Pick) → Legal w (report w (run w schedule).servers).entries
  legal schedule = upheld_legal w (report w (run w schedule).servers) (run_upheld w schedule) (asked schedule)

  pub serial : (schedule : List Pick) → Serial w (report w (run w schedule).servers)
  serial schedule = upheld_serial w (report w (run w schedule).servers) (run_upheld w schedule) (asked schedule)

  pub truthful : (schedule : List Pick) → is_idle (run w schedule) ≡ true → Truthful w (report w (run w schedule).servers)
  truthful schedule idle =
      let upheld = run_upheld w schedule in
      record {
        legal = legal schedule;
        serial = serial schedule;
        copies = record { all = upheld.known.copies; current = idle_current w schedule idle };
        switched = upheld.switched;
        unforced = upheld.unforced;
      }
