use Rattle.std.proofs.Common.{arith}
use Rattle.raid_sequencer.proofs.Answering.{again_turns}
use Rattle.raid_sequencer.proofs.site_rows.leave_again.Goals as goal

pub returns-in_ok-go_down-clause-turns : goal.returns-in_ok-go_down-clause-turns
returns-in_ok-go_down-clause-turns g c =
    let w = c.args.workload.now in
    again_turns w c.args.site c.args.session c.announced.result c.args.parts.now.record c.go_down.new.parts.record c.args.outs.now c.go_down.new.outs (grind (arith, c.if-session-announced.true)) (λ turn o. c.announced.ensures w turn o.state)
    (λ turn o. c.in_ok-go_down.ensures.turns _ (c.in_ok-settle.ensures.turns turn o))
