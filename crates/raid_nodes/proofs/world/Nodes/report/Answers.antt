use Rattle.raid_nodes.proofs.Counted.{go_kept}
use Rattle.raid_nodes.proofs.world.Nodes.report.Goals as goal

pub report_of-requires-clause-go : goal.report_of-requires-clause-go
report_of-requires-clause-go g c = go_kept _ c.args.workload.now _ _ c.deref.ensures.value c.requires.go
