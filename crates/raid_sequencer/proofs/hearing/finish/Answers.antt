use Rattle.raid_steps.specs.Sequencer.{send_copies, settle}
use Rattle.raid_sequencer.proofs.hearing.finish.Goals as goal

pub returns-clause-turns : goal.returns-clause-turns
returns-clause-turns g c =
    let w = c.args.workload.now in
    λ turn o. c.in_ok-send_ends.ensures w (send_copies w (settle w turn)) (c.in_ok-send_copies.ensures.turns (settle w turn) (c.in_ok-settle.ensures.turns turn o))
