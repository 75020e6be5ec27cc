use Rattle.std.proofs.Common.{◌≡◌, ◌≤◌, ◌-◌, length, take}
use Rattle.raid_io.specs.Ends.{Gave}
use Rattle.raid_io.proofs.whole.write_all.Given as goal

-- the front part up to `done` was written
abbrev pub invariant-loop-done : goal.invariant-loop-done
invariant-loop-done g l = record {
  within : l.done ≤ length l.bytes;
  gave : Gave (take l.done l.bytes) (g.K.Sink.held l.fn.sink) (g.K.Sink.held l.sink);
  later : g.K.Sink.faults l.fn.sink ≤ g.K.Sink.faults l.sink;
}

-- what is left becomes less
abbrev pub decreases-loop-done : goal.decreases-loop-done
decreases-loop-done g l = length l.bytes - l.done
