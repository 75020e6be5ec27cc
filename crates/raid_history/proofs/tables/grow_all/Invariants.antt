use Rattle.std.proofs.Common.{◌≡◌, ◌<◌, ℕ, ℤ, get_or, vec_len, slice_index}
use Rattle.raid_base.specs.declared.names.Item.{Item}
use Rattle.raid_history.proofs.tables.grow_all.Given as goal

-- the items so far have places, and the table says what it said
abbrev pub invariant-loop-item : goal.invariant-loop-item
invariant-loop-item l = record {
  placed : (k : ℕ) (d : Item × ℤ) → k < l.item-index → (get_or l.writes k d).0.0 < vec_len l.versions;
  same : (k : ℕ) → slice_index l.versions.items k ≡ slice_index l.fn.versions.items k;
}
