use Rattle.std.proofs.Common.{◌≡◌, drop, vec_capacity}
use Rattle.raid_base.specs.declared.names.Item.{Item}
use Rattle.raid_program.specs.Run.{values, written}
use Rattle.raid_program.proofs.table.set_all.Given as goal

-- the pairs from the place on are told
abbrev pub invariant-loop-k : goal.invariant-loop-k
invariant-loop-k l = record {
  told : (x : Item) → values l.held.items x ≡ written (values l.fn.held.items) (drop l.k l.pairs) x;
  room : vec_capacity l.held ≡ vec_capacity l.fn.held;
}
