use Rattle.std.proofs.Common.{◌≡◌, ◌+◌, ◌-◌, vec_len, vec_capacity}
use Rattle.raid_base.specs.declared.names.Item.{Item}
use Rattle.raid_program.specs.Run.{values}
use Rattle.raid_program.proofs.table.set.Given as goal

-- every item's value is as it was
abbrev pub invariant-loop-held : goal.invariant-loop-held
invariant-loop-held l = record {
  same : (x : Item) → values l.held.items x ≡ values l.fn.held.items x;
  room : vec_capacity l.held ≡ vec_capacity l.fn.held;
}

abbrev pub decreases-loop-held : goal.decreases-loop-held
decreases-loop-held l = l.place + 1 - vec_len l.held
