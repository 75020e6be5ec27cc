use Rattle.std.specs.Prelude.{◌↔◌, IsTrue}
use Rattle.raid_rules.specs.History.{noted}
use Rattle.raid_legal.specs.Legal.{AnswersRead, Free}
use Rattle.raid_seen.proofs.Pushed.{if_ok}
use Rattle.raid_check.proofs.Judged.{free_read}
use Rattle.raid_check.proofs.allowed.may_come.Goals as goal

pub returns-in-Read-clause-is : goal.returns-in-Read-clause-is
returns-in-Read-clause-is g c =
    let w = c.args.workload.now in
    let p = noted c.args.replay.now.tables.history in
    let e = c.args.entry.now in
    if_ok (λ b. IsTrue b ↔ AnswersRead w p c.in-Read.txn c.in-Read.item e) (λ b. IsTrue b ↔ Free w p e) c.answers_read.result
    (λ b iff. free_read w p c.in-Read.txn c.in-Read.item _ e b c.in-Read.is iff) c.answers_read.ensures.is
