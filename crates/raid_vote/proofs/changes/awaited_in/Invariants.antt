use Rattle.std.proofs.Common.{◌≡◌, drop}
use Rattle.std.specs.Prelude.{find}
use Rattle.raid_vote.specs.Ballots as words
use Rattle.raid_vote.proofs.changes.awaited_in.Given as goal

-- those so far are of other transactions
abbrev pub invariant-loop-ballot : goal.invariant-loop-ballot
invariant-loop-ballot l = find (words.is_of l.txn) l.ballots ≡ find (words.is_of l.txn) (drop l.ballot-index l.ballots)
