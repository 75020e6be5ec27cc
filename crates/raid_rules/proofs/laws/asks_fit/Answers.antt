use Rattle.raid_rules.proofs.Push.{read_fits, commit_fits}
use Rattle.raid_rules.proofs.laws.asks_fit.Goals as goal

pub returns-clause-read : goal.returns-clause-read
returns-clause-read c = read_fits

pub returns-clause-commit : goal.returns-clause-commit
returns-clause-commit c = commit_fits
