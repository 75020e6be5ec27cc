-- Every run's report is upheld.
use Rattle.std.proofs.Common.{◌≡◌, List, [], ◌∷◌, refl}
use Rattle.std.specs.List.{AllByRecursion}
use Rattle.raid_base.specs.declared.entry.Act.{Act}
use Rattle.raid_base.specs.declared.entry.Act.TheVariants as acts
use Rattle.raid_base.specs.declared.entry.Cause.TheVariants.{SwitchOff}
use Rattle.raid_base.specs.declared.entry.Entry.{Entry}
use Rattle.raid_base.specs.declared.entry.Entry.TheVariants.{Abort}
use Rattle.raid_workload.specs.declared.workload.Workload.{Workload}
use Rattle.raid_rules.specs.History.{noted}
use Rattle.raid_rules.proofs.Listing.{order_lists}
use Rattle.raid_message.specs.declared.letter.Pick.{Pick}
use Rattle.raid_steps.specs.World.{run, report}
use Rattle.raid_placed.proofs.Named.{placed_never_cycles}
use Rattle.raid_report.specs.Known.{IsNothing, IsEntryOf}
use Rattle.raid_known.proofs.Reached.{reached, report_known}
use Rattle.raid_made.proofs.Runs.{runs_made}
use Rattle.raid_sessions.proofs.Reached.{run_due}
use Rattle.raid_runs.specs.Unasked.{IsUnasked, SwitchesUnasked}
use Rattle.raid_runs.specs.Upheld.{Upheld}
use Rattle.raid_runs.proofs.Switches.{placed_switched}

-- an abort for a switch has the act that its cause has, which is none
is_nothing : (act : Act) → IsNothing act → act ≡ acts.Nothing
is_nothing acts.Nothing n = refl
is_nothing (acts.Ended reads) n = absurd n
is_nothing (acts.Read x) n = absurd n
is_nothing (acts.Commit request) n = absurd n

unasked : (w : Workload) (e : Entry) → IsEntryOf w e → IsUnasked e
unasked w (Abort t (SwitchOff k) act) known = is_nothing act known.1
unasked w other known = tt

all_unasked : (w : Workload) (h : List Entry) → AllByRecursion (IsEntryOf w) h → SwitchesUnasked h
all_unasked w [] known = tt
all_unasked w (e ∷ h) known = (unasked w e known.0, all_unasked w h known.1)

pub run_upheld : (w : Workload) (schedule : List Pick) → Upheld w (report w (run w schedule).servers)
run_upheld w schedule =
    let h : List Entry = (run w schedule).servers.sequencer.history in
    let r = reached w schedule in
    let known = report_known w schedule in
    record {
      placed = r.placed;
      unforced = r.quiet;
      switched = placed_switched w h r.placed (all_unasked w h known.entries) r.quiet;
      in_order = refl;
      serial = order_lists (noted h) (placed_never_cycles w h r.placed);
      values = refl;
      made = runs_made w schedule;
      due = run_due w schedule;
      known = known;
    }
