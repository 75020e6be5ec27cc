use Rattle.std.proofs.Common.{◌≡◌, ◌+◌, ◌-◌, ℕ, pos, vec_len, slice_index_or}
use Rattle.raid_seen.proofs.values.grow.Given as goal

-- every item's value is as it was
abbrev pub invariant-loop-held : goal.invariant-loop-held
invariant-loop-held l = (k : ℕ) → slice_index_or l.held.items k (pos 0) ≡ slice_index_or l.fn.held.items k (pos 0)

abbrev pub decreases-loop-held : goal.decreases-loop-held
decreases-loop-held l = l.place + 1 - vec_len l.held
