use Rattle.raid_steps.specs.Sequencer.{announce}
use Rattle.raid_sequencer.proofs.site_rows.down_row.Goals as goal

pub returns-clause-turns : goal.returns-clause-turns
returns-clause-turns g c = λ turn o. c.in_ok-stop.ensures.turns (announce turn c.args.site c.args.session) (c.announce.ensures.turns c.args.outs.now turn o)
