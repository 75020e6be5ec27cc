use Rattle.raid_sequencer.proofs.parts.Parts.close_copy.Goals as goal

pub returns-clause-turns : goal.returns-clause-turns
returns-clause-turns g c = λ outs. c.close_copy.ensures.turns c.args.workload.now outs
