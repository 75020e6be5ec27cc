use Rattle.raid_votes.proofs.Runs.{runs_come}
use Rattle.raid_votes.proofs.awaited_votes_are_on_their_way.Goals as goal

pub returns : goal.returns
returns c = runs_come
