use Rattle.std.proofs.Common.{OnOk, subst, sym}
use Rattle.raid_message.specs.declared.letter.Message.{Message}
use Rattle.raid_record.specs.Tells.{Turns}
use Rattle.raid_steps.specs.Sequencer.{site_row}
use Rattle.raid_sequencer.proofs.hearing.site_row.Goals as goal

pub returns-in-ReadAsk-clause-turns : goal.returns-in-ReadAsk-clause-turns
returns-in-ReadAsk-clause-turns g c =
    let w = c.args.workload.now in
    subst (λ (m : Message). OnOk c.read_row.result (Turns w c.args.parts.now.record c.args.outs.now c.read_row.new.parts.record c.read_row.new.outs (λ turn. site_row w turn c.args.site c.args.session m)))
    (sym c.in-ReadAsk.is) c.read_row.ensures.turns
