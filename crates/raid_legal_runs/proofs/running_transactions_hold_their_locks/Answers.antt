use Rattle.raid_legal_runs.proofs.Locks.{no_edge}
use Rattle.raid_legal_runs.proofs.running_transactions_hold_their_locks.Goals as goal

pub returns : goal.returns
returns c = no_edge
