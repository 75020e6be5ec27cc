use Rattle.raid_world_table.proofs.Led.{told_known}
use Rattle.raid_world_table.proofs.running.told.Goals as goal

pub report-requires-clause-runs : goal.report-requires-clause-runs
report-requires-clause-runs g c = c.requires.runs

pub print-requires-clause-report : goal.print-requires-clause-report
print-requires-clause-report g c = told_known _ c.args.workload.now c.args.world.now c.in_ok-report.report c.requires c.in_ok-report.ensures.is
