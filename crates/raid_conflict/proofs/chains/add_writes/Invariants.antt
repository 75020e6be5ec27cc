use Rattle.std.proofs.Common.{◌≡◌, ◌≤◌, ◌+◌, ◌&&◌, ◌++◌, ℕ, filter, take}
use Rattle.raid_base.specs.declared.names.Item.{Item}
use Rattle.raid_base.specs.Names.{is_item}
use Rattle.raid_conflict.specs.Tables.{chain_at, room, writes_of}
use Rattle.raid_conflict.proofs.chains.add_writes.Given as goal

-- the writes so far were added
abbrev pub invariant-loop-item : goal.invariant-loop-item
invariant-loop-item l = record {
  added : (x : Item) → chain_at l.chains x.0 ≡ chain_at l.fn.chains x.0 ++ filter (λ a. is_item x a.item) (writes_of l.at l.by (take l.item-index l.writes));
  written : (x : Item) → chain_at l.chains x.0 ≡ chain_at l.fn.chains x.0 ++ filter (λ a. a.writes && is_item x a.item) (writes_of l.at l.by (take l.item-index l.writes));
  rooms : (k : ℕ) → room l.fn.chains k ≤ room l.chains k + l.item-index;
}
