use Rattle.std.proofs.Common.{◌≡◌, ◌==◌, ◌≤◌, ◌+◌, ◌++◌, ℕ, length, take, if◌then◌else◌}
use Rattle.raid_conflict.specs.Tables.{chain_at, room, writes_of}
use Rattle.raid_conflict.proofs.chains.add_own.Given as goal

-- the writes so far were added
abbrev pub invariant-loop-item : goal.invariant-loop-item
invariant-loop-item l = record {
  added : (k : ℕ) → chain_at l.chains k ≡ (if k == l.place then chain_at l.fn.chains k ++ writes_of l.at l.by (take l.item-index l.writes) else chain_at l.fn.chains k);
  rooms : (k : ℕ) → room l.fn.chains k ≤ room l.chains k + l.item-index;
  same : length l.chains ≡ length l.fn.chains;
}
