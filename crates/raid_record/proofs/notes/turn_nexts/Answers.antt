use Rattle.std.proofs.Common.{rules}
use Rattle.raid_rules.specs.History.{noted}
use Rattle.raid_record.proofs.Grown.{nexts_plain}
use Rattle.raid_record.proofs.notes.turn_nexts.Goals as goal

pub returns-in_default : goal.returns-in_default
returns-in_default c = λ next. nexts_plain c.args.workload.now c.args.nexts.now (noted c.args.history.now) c.args.entry.now (search rules) next
