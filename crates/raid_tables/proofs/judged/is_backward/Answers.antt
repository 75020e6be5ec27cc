use Rattle.std.proofs.Common.{sym, ◌∙◌}
use Rattle.raid_tables.proofs.Known.{overwritten}
use Rattle.raid_tables.proofs.judged.is_backward.Goals as goal

pub returns-then-not-has_ended : goal.returns-then-not-has_ended
returns-then-not-has_ended c = λ view k known.
    let goes_on = sym (c.has_ended.ensures.says view k) ∙ c.if-not-has_ended.true in
    rw goes_on (rw (c.any_overwritten.ensures, c.reads.ensures) (overwritten c.args.running.now c.args.commits.now view c.args.txn k known goes_on))
