use Rattle.raid_steps.specs.Sequencer.{site_row}
use Rattle.raid_sequencer.proofs.Heard.{finished}
use Rattle.raid_sequencer.proofs.hearing.hear_fit.Goals as goal

pub returns-clause-hears : goal.returns-clause-hears
returns-clause-hears g c =
    let w = c.args.workload.now in
    λ s told. finished w c.args.parts.now.record c.site_row.new.parts.record c.finish.new.parts.record c.args.outs.now c.site_row.new.outs c.finish.new.outs s c.ends-before.result
    (λ turn. site_row w turn c.args.site c.args.letter.now.from c.args.letter.now.message)
    c.requires.none c.ends-before.ensures told c.in_ok-site_row.ensures.turns c.in_ok-finish.ensures.turns
