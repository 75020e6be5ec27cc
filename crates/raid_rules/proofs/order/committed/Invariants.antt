use Rattle.std.proofs.Common.{◌≡◌, take}
use Rattle.raid_rules.specs.Conflict as words
use Rattle.raid_rules.proofs.order.committed.Given as goal

-- the committed ones of the entries so far
abbrev pub invariant-loop-noted : goal.invariant-loop-noted
invariant-loop-noted l = l.committed ≡ words.committed (take l.noted-index l.view)
