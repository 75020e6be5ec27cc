use Rattle.raid_serial.proofs.Views.{reads_fit, commits_fit}
use Rattle.raid_serial.proofs.asks_fit_views.Goals as goal

pub returns-clause-read : goal.returns-clause-read
returns-clause-read c = reads_fit

pub returns-clause-commit : goal.returns-clause-commit
returns-clause-commit c = commits_fit
