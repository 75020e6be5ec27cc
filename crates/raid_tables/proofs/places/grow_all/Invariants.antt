use Rattle.std.proofs.Common.{◌≡◌, ◌<◌, ℕ, ℤ, get_or, vec_len, slice_index}
use Rattle.raid_base.specs.declared.names.Item.{Item}
use Rattle.raid_tables.proofs.places.grow_all.Given as goal

-- the items so far have places, and the table says what it said
abbrev pub invariant-loop-item : goal.invariant-loop-item
invariant-loop-item l = record {
  placed : (k : ℕ) (d : Item × ℤ) → k < l.item-index → (get_or l.writes k d).0.0 < vec_len l.table;
  same : (k : ℕ) → slice_index l.table.items k ≡ slice_index l.fn.table.items k;
}
