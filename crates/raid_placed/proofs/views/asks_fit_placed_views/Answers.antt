use Rattle.raid_placed.proofs.Orderly.{placed_reads_fit, placed_commits_fit}
use Rattle.raid_placed.proofs.views.asks_fit_placed_views.Goals as goal

pub returns-clause-read : goal.returns-clause-read
returns-clause-read c = placed_reads_fit

pub returns-clause-commit : goal.returns-clause-commit
returns-clause-commit c = placed_commits_fit
