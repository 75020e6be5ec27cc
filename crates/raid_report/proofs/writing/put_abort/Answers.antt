use Rattle.raid_report.proofs.Acts.{act_known}
use Rattle.raid_report.proofs.writing.put_abort.Goals as goal

pub put_act-requires : goal.put_act-requires
put_act-requires c = act_known c.args.workload.now c.args.cause.now c.args.act.now c.requires.act
