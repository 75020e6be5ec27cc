use Rattle.std.proofs.Common.{◌≡◌, map, drop, length}
use Rattle.raid_steps.specs.Copies.{renewed}
use Rattle.raid_access.specs.Stock.{copies_from}
use Rattle.raid_access.proofs.slots.set_all.Given as goal

-- the pairs from the place on are told
abbrev pub invariant-loop-k : goal.invariant-loop-k
invariant-loop-k l = record {
  told : copies_from 0 l.slots ≡ map (renewed l.version (drop l.k l.pairs)) (copies_from 0 l.fn.slots);
  length : length l.slots ≡ length l.fn.slots;
}
