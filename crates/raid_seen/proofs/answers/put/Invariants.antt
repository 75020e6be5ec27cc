use Rattle.std.proofs.Common.{◌≡◌, ◌++◌, take, drop}
use Rattle.raid_program.specs.Run.{put}
use Rattle.raid_seen.proofs.answers.put.Given as goal

-- the pairs so far are of other items, and nothing has changed
abbrev pub invariant-loop-k : goal.invariant-loop-k
invariant-loop-k l = record {
  others : take l.k l.pairs.items ++ put (drop l.k l.pairs.items) l.item l.value ≡ put l.fn.pairs.items l.item l.value;
  same : l.pairs ≡ l.fn.pairs;
}
