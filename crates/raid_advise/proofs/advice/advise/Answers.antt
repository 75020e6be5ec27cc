use Rattle.std.proofs.Common.{Ok, ap, ◌∙◌}
use Rattle.raid_advise.specs.Advice.{window}
use Rattle.raid_advise.proofs.Windows.{advice_gives}
use Rattle.raid_advise.proofs.advice.advise.Goals as goal

pub returns : goal.returns
returns c =
    let p = c.of-past.result in
    ap Ok (advice_gives c.args.workload.now c.args.entries.now c.args.last c.as_slice.result.now c.len-switches.result p.ends p.switches p.kind c.window-seen.result.now c.commits.result c.costs.result c.better-to.result c.advice_to.result
    c.if-switches-eq-MOST_SWITCHES.false c.if-past-switches.false c.len-switches.ensures
    c.as_slice.ensures c.of-past.ensures.ends c.of-past.ensures.switches c.of-past.ensures.kind (c.window-seen.ensures ∙ ap (window c.args.last) c.as_slice-2.ensures) c.commits.ensures c.costs.ensures.exact c.better-to.ensures c.advice_to.ensures)
