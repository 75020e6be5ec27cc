use Rattle.raid_site.specs.Server.{IsRun}
use Rattle.raid_site_table.proofs.hearing.hears_alike.Given as goal

-- the server is one of the workload's
abbrev pub invariant-loop-step : goal.invariant-loop-step
invariant-loop-step l = IsRun l.workload l.server
