use Rattle.raid_tables.proofs.Known.{past}
use Rattle.raid_tables.proofs.judged.is_invalid.Goals as goal

pub returns : goal.returns
returns c = λ view k known goes_on. rw (c.any_past.ensures, c.reads.ensures, c.began.ensures view k) (past c.args.running.now c.args.commits.now view c.args.txn k known goes_on)
