use denote.Exit.{no}
use denote.Param.Send.{IsSend, param_send, arg_send, sendable}
use denote.Param.Sent.{code_send}
use Rattle.raid_nodes.specs.contracts.node.ServerNode as ServerNode
use Rattle.raid_nodes.specs.contracts.running.run_nodes.dyn-1.{Any}
use Rattle.raid_nodes.proofs.Crossing.{node_send}
use Rattle.raid_nodes.proofs.Runs.{idle_ran, spent_ran}
use Rattle.raid_nodes.proofs.running.run_nodes.Goals as goal

pub run_rounds-requires-send-N : goal.run_rounds-requires-send-N
run_rounds-requires-send-N g c κs outlives =
    let any = Any g.row.R g.row.G g.dyn-1 in
    let h : IsSend (ServerNode.the_row any.2 any.3) = node_send any.2 any.3 g.dyn-1.2 (search (sendable, code_send)) in
    param_send _ _ (arg_send _ no _ h)

pub returns-clause-idle : goal.returns-clause-idle
returns-clause-idle g c = idle_ran _ c.args.workload.now _ c.args.most _ _ c.requires.open _ c.run_rounds.ensures.reached c.run_rounds.ensures.whole

pub returns-clause-spent : goal.returns-clause-spent
returns-clause-spent g c = spent_ran _ c.args.workload.now _ c.args.most _ _ c.requires.open _ c.run_rounds.ensures.reached c.run_rounds.ensures.whole
