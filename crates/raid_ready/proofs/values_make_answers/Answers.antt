use Rattle.raid_ready.proofs.Values.{run_gives}
use Rattle.raid_ready.proofs.values_make_answers.Goals as goal

pub returns : goal.returns
returns c = run_gives
