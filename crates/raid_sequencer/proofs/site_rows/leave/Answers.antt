use Rattle.std.proofs.Common.{◌∙◌}
use Rattle.raid_sequencer.proofs.site_rows.leave.Goals as goal

pub returns-in_ok-settle-clause-down : goal.returns-in_ok-settle-clause-down
returns-in_ok-settle-clause-down g c = c.in_ok-settle.ensures.still c.args.site ∙ c.in_ok-go_down.ensures.down
