use Rattle.raid_check.proofs.Kept.{running_known}
use Rattle.raid_check.proofs.tables.Tables.makes.Goals as goal

pub makes-requires : goal.makes-requires
makes-requires c = running_known c.args.workload.now c.args.self.now c.args.txn c.requires.of c.requires.running
