use Rattle.std.specs.Prelude.{◌↔◌, IsTrue}
use Rattle.raid_rules.specs.History.{noted}
use Rattle.raid_legal.specs.Legal.{AnswersRead, Aborts}
use Rattle.raid_seen.proofs.Pushed.{if_ok}
use Rattle.raid_check.proofs.Judged.{aborts_read}
use Rattle.raid_check.proofs.allowed.aborts.Goals as goal

pub returns-in-Read-clause-is : goal.returns-in-Read-clause-is
returns-in-Read-clause-is g c =
    let w = c.args.workload.now in
    let p = noted c.args.replay.now.tables.history in
    let e = c.args.entry.now in
    if_ok (λ b. IsTrue b ↔ AnswersRead w p c.args.txn c.in-Read.item e) (λ b. IsTrue b ↔ Aborts w p c.args.txn c.args.cause c.args.act.now) c.answers_read.result
    (λ b iff. aborts_read w p c.args.txn c.args.cause c.args.act.now c.in-Read.item e b c.in-Read.is c.requires.is iff) c.answers_read.ensures.is
