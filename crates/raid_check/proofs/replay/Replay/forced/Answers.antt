use Rattle.raid_check.proofs.Kept.{parts_of, switches_of, asked_graph}
use Rattle.raid_check.proofs.replay.Replay.forced.Goals as goal

pub forced-requires-clause-stand : goal.forced-requires-clause-stand
forced-requires-clause-stand g c = parts_of (λ v. (g.dyn-1.0.entry v).1) c.args.workload.now c.args.self.now c.requires.stands

pub forced-requires-clause-switches : goal.forced-requires-clause-switches
forced-requires-clause-switches g c = switches_of (λ v. (g.dyn-1.0.entry v).1) c.args.workload.now c.args.self.now c.requires.stands

pub returns-clause-stands : goal.returns-clause-stands
returns-clause-stands g c = asked_graph (λ v. (g.dyn-1.0.entry v).1) c.args.workload.now c.args.self.now c.forced.new.graph c.forced.new.eras c.forced.ensures.stands c.forced.ensures.keeps c.requires.stands
