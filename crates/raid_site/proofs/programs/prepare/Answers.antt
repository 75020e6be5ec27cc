use Rattle.raid_site.proofs.Fitting.{room_before}
use Rattle.raid_site.proofs.programs.prepare.Goals as goal

pub open_ballot-requires : goal.open_ballot-requires
open_ballot-requires c = room_before c.args.workload.now c.args.parts.now c.args.txn c.requires.whole c.requires.runs
