use Rattle.raid_placed.proofs.Waiting.{placed_waiting, waits_once}
use Rattle.raid_placed.proofs.history.waiting_requests_turn.Goals as goal

pub returns-clause-turn : goal.returns-clause-turn
returns-clause-turn c = placed_waiting

pub returns-clause-once : goal.returns-clause-once
returns-clause-once c = waits_once
