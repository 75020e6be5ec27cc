use Rattle.std.proofs.Common.{◌≡◌, pos, drop, unwrap_or, slice_index_or}
use Rattle.raid_base.specs.declared.names.Item.{Item}
use Rattle.raid_base.specs.Find.{first_of}
use Rattle.raid_seen.proofs.values.set_all.Given as goal

-- the pairs from the place on are told
abbrev pub invariant-loop-k : goal.invariant-loop-k
invariant-loop-k l = (x : Item) → slice_index_or l.held.items x.0 (pos 0) ≡ unwrap_or (first_of x (drop l.k l.pairs)) (slice_index_or l.fn.held.items x.0 (pos 0))
