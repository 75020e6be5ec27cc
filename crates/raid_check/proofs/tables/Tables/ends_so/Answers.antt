use Rattle.raid_check.proofs.Kept.{running_known}
use Rattle.raid_check.proofs.tables.Tables.ends_so.Goals as goal

pub ends_so-requires : goal.ends_so-requires
ends_so-requires c = running_known c.args.workload.now c.args.self.now c.args.txn c.requires.of c.requires.running
