use Rattle.raid_nodes.proofs.Sited.{second, sequencer_goes, must_decide, racked}
use Rattle.raid_nodes.proofs.world.Nodes.close.Goals as goal

pub close-requires : goal.close-requires
close-requires g c =
    let a = c.requires.are in
    let r = c.requires.go in
    let xs = c.args.self.nodes.items in
    let low = second a.0 xs a.1 a.2 in
    record { racked = racked _ r.0 c.in-Sequencer.sequencer (sequencer_goes _ r.0 xs c.swap_remove-node.result c.in-Sequencer.sequencer low r.1 c.swap_remove-node.ensures.value c.in-Sequencer.is) }

pub unreachable-requires : goal.unreachable-requires
unreachable-requires g c = let a = c.requires.are in must_decide a.0 c.args.self.nodes.items a.1 c.swap_remove-node.result a.2 c.swap_remove-node.ensures.value c.in_default.not-Sequencer
