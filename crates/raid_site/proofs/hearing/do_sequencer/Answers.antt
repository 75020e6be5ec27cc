use Rattle.std.proofs.Common.{ap, ◌∙◌}
use Rattle.raid_driver.proofs.Places.{on_ok}
use Rattle.raid_steps.specs.Programs.{ask_commits}
use Rattle.raid_site.proofs.hearing.do_sequencer.Goals as goal

pub returns-clause-ok : goal.returns-clause-ok
returns-clause-ok c = on_ok c.ask_commits.result (λ is. is ∙ ap ask_commits c.in_ok-sequencer_row.ensures.ok) c.ask_commits.ensures.ok
