use Rattle.std.proofs.Common.{Some, ap, sym, ◌∙◌}
use Rattle.raid_base.specs.declared.entry.Act.TheVariants as acts
use Rattle.raid_base.specs.declared.entry.Entry.TheVariants.{Abort, Commit}
use Rattle.raid_legal.specs.Seen.{up_holders}
use Rattle.raid_legal.specs.Answers.{decided}
use Rattle.raid_decide.proofs.Answered.{if_ok, waits_on}
use Rattle.raid_decide.proofs.answers.decided_waiting.Goals as goal

pub returns-in-Reject : goal.returns-in-Reject
returns-in-Reject c =
    if_ok c.refused.result
    (λ e h p v s. h ∙ ap (λ k. Some (Abort c.args.txn k (acts.Commit c.args.request.now))) c.cause_of.ensures ∙ ap (decided c.args.workload.now p c.args.txn c.args.request.now) (sym c.in-Reject.is))
    c.refused.ensures

pub returns-in-Grant : goal.returns-in-Grant
returns-in-Grant c =
    if_ok c.granted.result
    (λ e h p v s.
    h ∙ ap (λ ss. Some (Commit c.args.txn c.args.request.now ss)) (c.up_holders-applied.ensures p v ∙ ap (up_holders c.args.workload.now p) c.as_slice.ensures)
    ∙ ap (decided c.args.workload.now p c.args.txn c.args.request.now) (sym c.in-Grant.is))
    c.granted.ensures

pub returns-in-Wait : goal.returns-in-Wait
returns-in-Wait c = λ p v s. waits_on c.args.workload.now p c.args.txn c.args.request.now s ∙ ap (decided c.args.workload.now p c.args.txn c.args.request.now) (sym c.in-Wait.is)
