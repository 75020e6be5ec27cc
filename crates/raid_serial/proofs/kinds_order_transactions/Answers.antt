use Rattle.raid_serial.proofs.OneKind.{commits_in_turn, stamps_rise}
use Rattle.raid_serial.proofs.kinds_order_transactions.Goals as goal

pub returns-clause-commits : goal.returns-clause-commits
returns-clause-commits c = commits_in_turn

pub returns-clause-stamps : goal.returns-clause-stamps
returns-clause-stamps c = stamps_rise
