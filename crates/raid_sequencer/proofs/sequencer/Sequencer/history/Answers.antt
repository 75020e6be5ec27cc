use Rattle.std.proofs.Common.{length}
use Rattle.raid_rules.specs.History.{noted}
use Rattle.raid_sequencer.specs.Extent.{unasked}
use Rattle.raid_sequencer.proofs.Few.{short}
use Rattle.raid_sequencer.proofs.sequencer.Sequencer.history.Goals as goal

pub returns-clause-short : goal.returns-clause-short
returns-clause-short g c =
    let q = c.args.self.now in
    let h = q.parts.record.history in
    λ runs on few. short q.workload (length h) (unasked q.workload (noted h)) q.heard (runs on).room few
