use Rattle.raid_runs.proofs.Legal.{upheld_serial}
use Rattle.raid_runs.proofs.upheld_reports_are_legal_where_asked.Goals as goal

-- src/lib.rt:38:1
pub returns-clause-serial : goal.returns-clause-serial
returns-clause-serial c = upheld_serial
