use Rattle.std.proofs.Common.{◌<◌, ℕ, get_or, ℤ}
use Rattle.raid_base.specs.declared.names.Item.{Item}
use Rattle.raid_program.proofs.table.bound.Given as goal

-- the number is larger than those so far
abbrev pub invariant-loop-item : goal.invariant-loop-item
invariant-loop-item l = (k : ℕ) (d : Item × ℤ) → k < l.item-index → (get_or l.pairs k d).0.0 < l.bound
