use Rattle.std.proofs.Common.{◌≡◌, true}
use Rattle.raid_rules.proofs.Cycle.{IsWalk}
use Rattle.raid_rules.proofs.Reach.{many}
use Rattle.raid_rules.proofs.Txns.{out}
use Rattle.raid_conflict.specs.Arrange.{Joined}
use Rattle.raid_conflict.specs.Found.{is_marked}
use Rattle.raid_conflict.proofs.arrange.cycle.Given as goal

-- the walk so far leads from its last one back to the start
abbrev pub invariant-loop-alloc : goal.invariant-loop-alloc
invariant-loop-alloc l = record {
  walk : IsWalk (Joined l.tables l.left) l.walk l.last;
  left : is_marked l.left l.last ≡ true;
}

-- fewer and fewer are out of it
abbrev pub decreases-loop-alloc : goal.decreases-loop-alloc
decreases-loop-alloc l = many (out l.walk) l.all
