use Rattle.std.proofs.Common.{◌≡◌, ◌≤◌, ◌<◌, ℕ, ℤ, get_or, length}
use Rattle.raid_base.specs.declared.names.Item.{Item}
use Rattle.raid_conflict.specs.Tables.{chain_at, room}
use Rattle.raid_conflict.proofs.chains.make_rooms.Given as goal

-- the items so far have room, and each chain is as it was
abbrev pub invariant-loop-item : goal.invariant-loop-item
invariant-loop-item l = record {
  made : (k : ℕ) (d : Item × ℤ) → k < l.item-index → length l.writes ≤ room l.chains.items (get_or l.writes k d).0.0;
  same : (k : ℕ) → chain_at l.chains.items k ≡ chain_at l.fn.chains.items k;
}
