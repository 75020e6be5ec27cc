use Rattle.std.proofs.Common.{◌≡◌, take}
use Rattle.raid_rules.specs.Sessions as words
use Rattle.raid_rules.proofs.sessions.owes.Given as goal

-- what is owed after the entries so far
abbrev pub invariant-loop-noted : goal.invariant-loop-noted
invariant-loop-noted l = l.owed ≡ words.owes (take l.noted-index l.view) l.site l.txn
