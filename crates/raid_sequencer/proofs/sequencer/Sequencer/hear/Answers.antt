use Rattle.raid_sequencer.specs.Extent.{extent}
use Rattle.raid_sequencer.proofs.Few.{room_left}
use Rattle.raid_sequencer.proofs.sequencer.Sequencer.hear.Goals as goal

pub hear-requires-clause-room : goal.hear-requires-clause-room
hear-requires-clause-room g c =
    let q = c.args.self.now in
    room_left q.workload (extent q.workload q.parts.record.history) q.heard (c.requires.runs c.if-self.false).room c.requires.few
