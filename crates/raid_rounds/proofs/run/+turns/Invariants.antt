use Rattle.std.proofs.Common.{◌+◌, ◌*◌, length, max}
use Rattle.raid_rounds.proofs.run.+turns.Given as goal

abbrev pub decreases-turn_both-join_mut+arg2 : goal.decreases-turn_both-join_mut+arg2
decreases-turn_both-join_mut+arg2 g l = 3 * length l.left.now + 1

abbrev pub decreases-turn_both-join_mut+arg3 : goal.decreases-turn_both-join_mut+arg3
decreases-turn_both-join_mut+arg3 g l = 3 * length l.right.now + 1

abbrev pub decreases-turn_both : goal.decreases-turn_both
decreases-turn_both g l = 3 * max (length l.left.now) (length l.right.now) + 2

abbrev pub decreases-turn_each : goal.decreases-turn_each
decreases-turn_each g l = 3 * length l.members.now
