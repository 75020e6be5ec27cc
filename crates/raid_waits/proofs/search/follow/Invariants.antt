use Rattle.std.proofs.Common.{◌≡◌, length}
use Rattle.raid_base.specs.declared.request.Request.{Request}
use Rattle.raid_waits.specs.Waiting.{Test}
use Rattle.raid_waits.specs.Marks.{Begun}
use Rattle.raid_waits.proofs.Searched.{Search, unfollowed}
use Rattle.raid_waits.proofs.search.follow.Given as goal

-- the search stands
abbrev pub invariant-loop-k : goal.invariant-loop-k
invariant-loop-k g l = record {
  length : length l.marks ≡ length l.held;
  search : (test : Test) (request : Request) → g.B.Blocks.says l.blocks test → Begun test l.held l.initial.marks l.txn request → Search test l.held l.marks l.txn request;
}

abbrev pub decreases-loop-k : goal.decreases-loop-k
decreases-loop-k g l = unfollowed l.marks
