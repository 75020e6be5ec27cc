use Rattle.std.proofs.Common.{arith}
use Rattle.raid_nodes.proofs.Fetches.{missed_none, missed_more, found_later}
use Rattle.raid_nodes.proofs.node.ServerNode.take_among.Goals as goal

pub take_from-requires : goal.take_from-requires
take_from-requires g c = let i = c.loop-from.invariant.fetched.inputs in omega (arith, i, c.requires.end, c.loop-from-test.true)

pub loop-from-init : goal.loop-from-init
loop-from-init g c = missed_none c.args.self.now c.args.first
