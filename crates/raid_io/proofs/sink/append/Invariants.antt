use Rattle.std.proofs.Common.{◌≡◌, ◌++◌, take, vec_capacity}
use Rattle.raid_io.proofs.sink.append.Given as goal

-- the bytes so far have been put down, and the room is as it was
abbrev pub invariant-loop-byte : goal.invariant-loop-byte
invariant-loop-byte l = record {
  items : l.bytes.items ≡ l.initial.bytes.items ++ take l.byte-index l.more;
  room : vec_capacity l.bytes ≡ vec_capacity l.initial.bytes;
}
