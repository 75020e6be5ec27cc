use Rattle.raid_sequencer.proofs.Stood.{kept_reading}
use Rattle.raid_sequencer.proofs.parts.Parts.answer_to_read.Goals as goal

pub returns-clause-kept : goal.returns-clause-kept
returns-clause-kept g c = kept_reading (λ v. (g.dyn-1.0.entry v).1) c.args.workload.now c.args.self.now c.answer_to_read.new.eras c.answer_to_read.ensures.keeps c.requires.kept
