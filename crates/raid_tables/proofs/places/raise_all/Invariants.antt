use Rattle.std.proofs.Common.{◌≡◌, if◌then◌else◌, take, length, max, slice_index}
use Rattle.raid_base.specs.declared.names.Item.{Item}
use Rattle.raid_base.specs.Names.{holds}
use Rattle.raid_tables.proofs.places.raise_all.Given as goal

-- the items so far are raised
abbrev pub invariant-loop-item : goal.invariant-loop-item
invariant-loop-item l = record {
  raised : (x : Item) → slice_index l.table x.0 ≡ (if holds x (take l.item-index l.writes) then max (slice_index l.initial.table x.0) l.number else slice_index l.initial.table x.0);
  same : length l.table ≡ length l.initial.table;
}
