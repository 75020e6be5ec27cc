use Rattle.std.proofs.Common.{rules}
use Rattle.std.proofs.iter.runs.Made.{chains}
use Rattle.raid_advise.proofs.past.commits.Goals as goal

pub returns : goal.returns
returns c = search (rules, chains)
