use Rattle.raid_steps.specs.Sequencer.{down_row}
use Rattle.raid_sequencer.proofs.Heard.{finished}
use Rattle.raid_sequencer.proofs.hearing.hear_stop.Goals as goal

pub returns-clause-hears : goal.returns-clause-hears
returns-clause-hears g c =
    let w = c.args.workload.now in
    λ s told. finished w c.args.parts.now.record c.down_row.new.parts.record c.finish.new.parts.record c.args.outs.now c.down_row.new.outs c.finish.new.outs s c.ends-before.result (λ turn. down_row w turn c.args.site c.args.session)
    c.requires.none c.ends-before.ensures told c.in_ok-down_row.ensures.turns c.in_ok-finish.ensures.turns
