use Rattle.raid_asks.proofs.Begins.{run_begun}
use Rattle.raid_asks.proofs.programs_that_run_have_begun.Goals as goal

pub returns : goal.returns
returns c = run_begun
