use Rattle.raid_base.specs.declared.entry.Entry.TheVariants.{Up}
use Rattle.raid_steps.specs.Sequencer.{place, leave}
use Rattle.raid_sequencer.proofs.site_rows.hello_row.Goals as goal

pub returns-clause-turns : goal.returns-clause-turns
returns-clause-turns g c =
    let w = c.args.workload.now in
    λ turn o. c.in_ok-leave_again.ensures.turns (place w 0 (leave w turn c.args.site) (Up c.args.site c.args.session)) (c.in_ok-come_up.ensures.turns (leave w turn c.args.site) (c.in_ok-leave.ensures.turns turn o))
