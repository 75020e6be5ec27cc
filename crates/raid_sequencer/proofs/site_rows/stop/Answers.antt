use Rattle.std.proofs.Common.{◌==◌, ◌&&◌, sym, ◌∙◌}
use Rattle.raid_base.specs.Sites.{session}
use Rattle.raid_base.specs.declared.entry.Entry.TheVariants.{Down}
use Rattle.raid_legal.specs.Seen.{is_up, vector}
use Rattle.raid_sequencer.proofs.Answering.{placed_where, left_where}
use Rattle.raid_sequencer.proofs.site_rows.stop.Goals as goal

pub returns-in_ok-go_down-clause-turns : goal.returns-in_ok-go_down-clause-turns
returns-in_ok-go_down-clause-turns g c =
    let w = c.args.workload.now in
    placed_where w 0 (λ p. is_up w p c.args.site && session (vector w p) c.args.site == c.args.session) (Down c.args.site) c.args.parts.now.record c.go_down.new.parts.record c.args.outs.now c.go_down.new.outs
    (sym c.is_in.ensures ∙ c.if-is_in.true) c.in_ok-go_down.ensures.turns

pub returns-else-is_in-clause-turns : goal.returns-else-is_in-clause-turns
returns-else-is_in-clause-turns g c =
    let w = c.args.workload.now in
    left_where w 0 (λ p. is_up w p c.args.site && session (vector w p) c.args.site == c.args.session) (Down c.args.site) c.args.parts.now.record c.args.outs.now (sym c.is_in.ensures ∙ c.if-is_in.false)
