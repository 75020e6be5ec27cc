use Rattle.std.proofs.Common.{refl}
use Rattle.raid_nodes.proofs.Steps.{message_sent}
use Rattle.raid_nodes.proofs.sending.send_all.Goals as goal

pub loop-to-preserved : goal.loop-to-preserved
loop-to-preserved c =
    message_sent c.args.session c.args.clock c.args.outs.now c.as_slice-to-items.result.now c.loop-to.to-index c.loop-to-item.result c.in_ok-message.message
    c.args.senders.now c.loop-to.senders _ c.index-senders-to.result c.send.new.self c.as_slice-to-items.ensures c.requires.to c.loop-to.invariant c.loop-to-test.true
    c.loop-to-item.is c.in_ok-message.ensures c.in_ok-send.ensures.ok c.in_ok-send.ensures.same refl
