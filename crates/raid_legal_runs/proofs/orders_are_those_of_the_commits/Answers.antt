use Rattle.raid_legal_runs.proofs.Locks.{in_commit_order}
use Rattle.raid_legal_runs.proofs.orders_are_those_of_the_commits.Goals as goal

pub returns : goal.returns
returns c = in_commit_order
