use Rattle.std.proofs.Common.{◌≤◌, true, false, length, subst, sym, arith}
use Rattle.raid_report.specs.Known.{IsReportOf}
use Rattle.raid_steps.specs.World.{run, rounds}
use Rattle.raid_finite.proofs.Ends.{run_ends}
use Rattle.raid_known.proofs.Reached.{report_known}
use Rattle.raid_app.proofs.Bound.{few_rounds}
use Rattle.raid_app.proofs.Sayings.{said_report}
use Rattle.raid_app.proofs.running.run_workload.Goals as goal

pub run-requires-clause-few : goal.run-requires-clause-few
run-requires-clause-few g c = let few = few_rounds c.args.workload.now in omega (arith, few, c.rounds.ensures)

pub schedule-requires : goal.schedule-requires
schedule-requires g c = let r = c.in_ok-end.ensures.ran in record { ran = (c.args.workload.now, r.0, r.1) }

-- a run that was cut off would be as long as none is
pub unreachable-requires : goal.unreachable-requires
unreachable-requires g c =
    let w = c.args.workload.now in
    let ran = c.in_ok-end.ensures.spent c.in-Spent.is in
    let few = ran.1 in
    let short = run_ends w c.in_ok-schedule.schedule (c.in_ok-schedule.ensures.schedule w false ran.0) in
    omega (arith, few, c.rounds.ensures, c.in_ok-schedule.ensures.long, short)

pub report-requires-clause-are : goal.report-requires-clause-are
report-requires-clause-are g c =
    let w = c.args.workload.now in
    let ran = c.in_ok-end.ensures.idle c.in-Idle.is in
    ((run w c.in_ok-schedule.schedule).servers, c.in_ok-schedule.ensures.servers w true ran)

pub told-requires-clause-report : goal.told-requires-clause-report
told-requires-clause-report g c =
    let w = c.args.workload.now in
    let schedule = c.in_ok-schedule.schedule in
    let ran = c.in_ok-end.ensures.idle c.in-Idle.is in
    subst (IsReportOf w) (sym (c.in_ok-report-in-Idle.ensures.is (run w schedule).servers (c.in_ok-schedule.ensures.servers w true ran))) (report_known w schedule)

pub returns : goal.returns
returns g c =
    let w = c.args.workload.now in
    let schedule = c.in_ok-schedule.schedule in
    let ran = c.in_ok-end.ensures.idle c.in-Idle.is in
    said_report c.args.is_brief w schedule c.in_ok-report-in-Idle.report c.in_ok-text-in-Idle.text (c.in_ok-schedule.ensures.schedule w true ran) (c.in_ok-schedule.ensures.idle w true ran)
    (c.in_ok-report-in-Idle.ensures.is (run w schedule).servers (c.in_ok-schedule.ensures.servers w true ran)) c.in_ok-text-in-Idle.ensures
