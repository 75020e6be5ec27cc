use Rattle.std.proofs.Common.{◌<◌, ◌++◌, length, ap, ◌∙◌, arith}
use Rattle.raid_nodes.proofs.Sited.{server_at, goes_at}
use Rattle.raid_nodes.proofs.Reports.{lines_next, lines_all}
use Rattle.raid_nodes.proofs.telling.copies_of.Goals as goal

pub loop-node-preserved : goal.loop-node-preserved
loop-node-preserved g c = λ s are.
    let k = c.loop-node.node-index in
    let low : c.loop-node.node-index < length c.args.nodes.now = c.loop-node-test.true in
    let is = server_at c.args.workload.now c.args.nodes.now s c.loop-node.node-index c.node-item.result are low c.node-item.is in
    c.in_ok-push_all.ensures.ok ∙ ap (λ ls. c.loop-node.copies ++ ls) c.as_slice.ensures
    ∙ lines_next k s c.loop-node.copies c.in_ok-lines.lines (c.loop-node.invariant s are) (c.in_ok-lines.ensures k s is)

pub returns : goal.returns
returns g c = λ s are. lines_all c.args.workload.now c.args.nodes.now c.loop-node.node-index s c.loop-node.copies (omega (arith, c.loop-node-test.false)) are (c.loop-node.invariant s are)

pub lines_of-requires : goal.lines_of-requires
lines_of-requires g c = goes_at _ c.args.workload.now c.args.nodes.now c.loop-node.node-index c.node-item.result c.requires.go c.loop-node-test.true c.node-item.is
