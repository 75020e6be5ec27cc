use Rattle.std.proofs.Common.{◌≡◌, ◌++◌, map, take, drop}
use Rattle.raid_steps.specs.Programs.{with_vote}
use Rattle.raid_vote.specs.Ballots as words
use Rattle.raid_vote.proofs.changes.join_in.Given as goal

-- those so far are changed, and the others as they were
abbrev pub invariant-loop-ballot : goal.invariant-loop-ballot
invariant-loop-ballot l = l.ballots ≡ map (words.changed l.txn (with_vote l.site)) (take l.ballot-index l.fn.ballots) ++ drop l.ballot-index l.fn.ballots
