use Rattle.std.proofs.Common.{ap, sym, ◌∙◌, if◌then◌else◌}
use Rattle.raid_steps.specs.Programs as steps
use Rattle.raid_site.specs.Whole.{turn}
use Rattle.raid_site.proofs.programs.end_or_again.Goals as goal

pub returns-clause-ok : goal.returns-clause-ok
returns-clause-ok c =
    let w = c.args.workload.now in
    let t = c.args.txn in
    let ended = steps.ended (turn c.args.parts.now c.args.outs.now) t in
    c.end.ensures.ok c.args.outs.now ∙ sym (ap (λ b. if b then steps.begin w ended (steps.next_attempt w t) else ended) c.if-again.false)
