use Rattle.std.proofs.Common.{ap, sym, ◌∙◌, Bool, ◌&&◌, if◌then◌else◌}
use Rattle.raid_access.specs.Stock.{Stock, unstaging}
use Rattle.raid_driver.proofs.Places.{on_ok}
use Rattle.raid_steps.specs.Programs as steps
use Rattle.raid_site.specs.declared.parts.Parts.{Parts}
use Rattle.raid_site.specs.Whole.{turn}
use Rattle.raid_site.proofs.Phases.{runs_same}
use Rattle.raid_site.proofs.table.drop_row.Goals as goal

pub returns-clause-ok : goal.returns-clause-ok
returns-clause-ok c =
    let p = c.args.parts.now in
    let w = c.args.workload.now in
    let t = c.args.txn in
    let after = λ (s : Stock) (b : Bool). let z : Parts = record p { copies = s } in let dropped = steps.ended (turn z c.args.outs.now) t in if b then steps.begin w dropped (steps.next_attempt w t) else dropped in
    on_ok c.start.result
    (λ is. is ∙ ap (steps.start w)
    (c.in_ok-end_or_again.ensures.ok
    ∙ ap (λ (s : Stock). after s c.both-again.result) c.drop_staged.ensures
    ∙ ap (after (unstaging p.copies t)) (c.both-again.ensures ∙ ap (λ b. b && c.args.again) (c.runs_here-here.ensures ∙ sym (runs_same p.ballots.ballots t p.driver.running)))))
    c.start.ensures.ok
