use Rattle.std.proofs.Common.{ap, ◌∙◌}
use Rattle.raid_driver.proofs.Places.{on_ok}
use Rattle.raid_steps.specs.Programs as steps
use Rattle.raid_site.proofs.programs.end_row.Goals as goal

pub returns-clause-ok : goal.returns-clause-ok
returns-clause-ok c = on_ok c.start.result (λ is. is ∙ ap (steps.start c.args.workload.now) (c.end.ensures.ok c.args.outs.now)) c.start.ensures.ok
