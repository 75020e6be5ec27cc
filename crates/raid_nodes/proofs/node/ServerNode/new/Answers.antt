use Rattle.raid_nodes.proofs.Maps.{rest_set}
use Rattle.raid_nodes.proofs.node.ServerNode.new.Goals as goal

pub returns-clause-rest : goal.returns-clause-rest
returns-clause-rest g c = rest_set _ c.args.number _

pub returns-clause-others : goal.returns-clause-others
returns-clause-others g c = rest_set _ c.args.number _
