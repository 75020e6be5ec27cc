use Rattle.raid_sequencer.proofs.Stood.{stand_of, switches_of, kept_asked, drawn_turns}
use Rattle.raid_sequencer.proofs.parts.Parts.forced.Goals as goal

pub forced-requires-clause-stand : goal.forced-requires-clause-stand
forced-requires-clause-stand g c = stand_of (λ v. (g.dyn-1.0.entry v).1) c.args.workload.now c.args.self.now c.requires.kept

pub forced-requires-clause-switches : goal.forced-requires-clause-switches
forced-requires-clause-switches g c = switches_of (λ v. (g.dyn-1.0.entry v).1) c.args.workload.now c.args.self.now c.requires.kept

pub returns-clause-kept : goal.returns-clause-kept
returns-clause-kept g c = kept_asked (λ v. (g.dyn-1.0.entry v).1) c.args.workload.now c.args.self.now c.forced.new.graph c.forced.new.eras c.forced.ensures.stands c.forced.ensures.keeps c.requires.kept

pub returns-clause-turns : goal.returns-clause-turns
returns-clause-turns g c = λ outs. drawn_turns c.args.workload.now c.args.self.now.record c.forced.new.graph outs c.forced.ensures.stands
