use Rattle.std.proofs.Common.{◌≡◌, ◌-◌}
use Rattle.raid_conflict.proofs.Spread.{Spreading}
use Rattle.raid_conflict.proofs.search.reach_all.Given as goal

-- those so far were followed
abbrev pub invariant-loop-next : goal.invariant-loop-next
invariant-loop-next l = record {
  searching : Spreading l.tables l.from l.found.0 l.next;
  places : l.found.1 ≡ l.fn.found.1;
}

abbrev pub decreases-loop-next : goal.decreases-loop-next
decreases-loop-next l = l.fn.found.1 - l.next
