use Rattle.raid_check.proofs.Kept.{running_known}
use Rattle.raid_check.proofs.tables.Tables.is_asked.Goals as goal

pub is_asked-requires : goal.is_asked-requires
is_asked-requires c = running_known c.args.workload.now c.args.self.now c.args.txn c.requires.of c.requires.running
