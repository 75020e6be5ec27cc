use Rattle.raid_rules.proofs.Last.{edge_last_iff}
use Rattle.raid_rules.proofs.laws.last_action_adds_edges.Goals as goal

pub returns : goal.returns
returns c = edge_last_iff
