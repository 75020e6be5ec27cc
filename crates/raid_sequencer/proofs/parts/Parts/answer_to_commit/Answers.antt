use Rattle.raid_sequencer.proofs.Stood.{kept_waiting}
use Rattle.raid_sequencer.proofs.parts.Parts.answer_to_commit.Goals as goal

pub returns-clause-kept : goal.returns-clause-kept
returns-clause-kept g c = kept_waiting (λ v. (g.dyn-1.0.entry v).1) c.args.workload.now c.args.self.now c.answer_to_commit.new.waits c.answer_to_commit.new.eras c.answer_to_commit.ensures.same c.answer_to_commit.ensures.keeps c.requires.kept
