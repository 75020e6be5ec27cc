use Rattle.std.proofs.Common.{◌≡◌, vec_len}
use Rattle.raid_access.specs.Stock.{copies_from}
use Rattle.raid_access.proofs.Stored.{first_copies}
use Rattle.raid_access.proofs.slots.first_slots.Given as goal

-- the items so far have slots
abbrev pub invariant-loop-line : goal.invariant-loop-line
invariant-loop-line l = record {
  copies : copies_from 0 l.slots.items ≡ first_copies l.workload l.site l.line-index;
  long : vec_len l.slots ≡ l.line-index;
}
