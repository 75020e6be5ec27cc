use Rattle.raid_sequencer.proofs.parts.Parts.announce.Goals as goal

pub returns-clause-turns : goal.returns-clause-turns
returns-clause-turns g c = λ outs. c.announce.ensures.turns c.args.workload.now outs
