use Rattle.std.proofs.Common.{◌≡◌, take}
use Rattle.raid_rules.specs.History as words
use Rattle.raid_rules.proofs.note.stamp.Given as goal

-- the stamp so far is that of the entries so far
abbrev pub invariant-loop-noted : goal.invariant-loop-noted
invariant-loop-noted l = l.stamp ≡ words.stamp (take l.noted-index l.view) l.txn
