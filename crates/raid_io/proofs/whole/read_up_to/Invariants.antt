use Rattle.std.proofs.Common.{◌≡◌, ◌≤◌, ◌-◌, length, vec_len}
use Rattle.raid_io.specs.Ends.{Took}
use Rattle.raid_io.proofs.whole.read_up_to.Given as goal

-- the bytes so far were taken from the source
abbrev pub invariant-loop-buffer : goal.invariant-loop-buffer
invariant-loop-buffer g l = record {
  within : vec_len l.bytes ≤ l.most;
  took : Took l.bytes.items (g.S.Source.left l.fn.source) (g.S.Source.left l.source);
  later : g.S.Source.faults l.fn.source ≤ g.S.Source.faults l.source;
}

-- the room that is left becomes less
abbrev pub decreases-loop-buffer : goal.decreases-loop-buffer
decreases-loop-buffer g l = l.most - vec_len l.bytes
