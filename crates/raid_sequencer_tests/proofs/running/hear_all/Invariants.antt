use Rattle.std.proofs.Common.{◌≡◌}
use Rattle.raid_sequencer.specs.Runs.{Runs, workload_of}
use Rattle.raid_sequencer_tests.proofs.running.hear_all.Given as goal

-- the server is one of the workload's, with all that holds between two letters
abbrev pub invariant-loop-line : goal.invariant-loop-line
invariant-loop-line g l = record {
  runs : Runs (λ v. (g.dyn-1.0.entry v).1) l.server;
  workload : workload_of l.server ≡ l.workload;
}
