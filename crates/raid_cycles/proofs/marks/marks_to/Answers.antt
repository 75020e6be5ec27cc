use Rattle.std.proofs.Common.{◌∙◌}
use Rattle.raid_cycles.specs.Marks.{member_at}
use Rattle.raid_cycles.proofs.Marking.{first_marked}
use Rattle.raid_cycles.proofs.marks.marks_to.Goals as goal

pub settle-requires-clause-marked : goal.settle-requires-clause-marked
settle-requires-clause-marked g c = first_marked c.args.members.now (g.G.Graph.edges c.args.graph.now) (member_at c.args.members.now c.args.place) c.deref_mut.result.now (c.deref_mut.ensures.value ∙ c.in_ok-marks.ensures)
