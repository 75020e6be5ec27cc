use Rattle.std.proofs.Common.{◌≡◌}
use Rattle.raid_sequencer.specs.Runs.{Runs, workload_of}
use Rattle.raid_sequencer_table.proofs.hearing.hears_with.Given as goal

-- the server is one of the workload's, with all that holds between two letters
abbrev pub invariant-loop-step : goal.invariant-loop-step
invariant-loop-step g l = record {
  runs : Runs (λ v. (g.dyn-1.0.entry v).1) l.server;
  workload : workload_of l.server ≡ l.workload;
}
