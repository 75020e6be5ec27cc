use Rattle.std.proofs.Common.{◌≡◌, true, false}
use Rattle.raid_base.specs.Names.{has_txn}
use Rattle.raid_rules.specs.Committed as sets
use Rattle.raid_rules.proofs.Cycle.{IsWalk}
use Rattle.raid_rules.proofs.Reach.{many}
use Rattle.raid_rules.proofs.Txns.{out}
use Rattle.raid_rules.proofs.order.cycle.Given as goal

-- the walk so far leads from its last one back to the start
abbrev pub invariant-loop-walk : goal.invariant-loop-walk
invariant-loop-walk l = record {
  walk : IsWalk (sets.Joins l.pairs l.all) l.walk l.last;
  committed : has_txn l.all l.last ≡ true;
  unlisted : has_txn l.listed l.last ≡ false;
}

-- fewer and fewer are out of it
abbrev pub decreases-loop-walk : goal.decreases-loop-walk
decreases-loop-walk l = many (out l.walk) l.all
