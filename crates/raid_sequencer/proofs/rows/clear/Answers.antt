use Rattle.std.proofs.Common.{◌==◌, ◌&&◌, sym, ◌∙◌}
use Rattle.raid_base.specs.declared.entry.Entry.TheVariants.{Clear}
use Rattle.raid_rules.specs.History.{version}
use Rattle.raid_legal.specs.Seen.{is_locked}
use Rattle.raid_sequencer.proofs.Answering.{placed_where, left_where}
use Rattle.raid_sequencer.proofs.rows.clear.Goals as goal

pub returns-in_ok-place-clause-turns : goal.returns-in_ok-place-clause-turns
returns-in_ok-place-clause-turns g c =
    let w = c.args.workload.now in
    placed_where w 0 (λ p. is_locked w p c.args.site c.args.item && c.args.version == version p c.args.item) (Clear c.args.site c.args.item c.args.version) c.args.parts.now.record c.place.new.self.record c.args.outs.now c.place.new.outs
    (sym c.may_clear.ensures ∙ c.if-may_clear.true) c.in_ok-place.ensures.turns

pub returns-else-may_clear-clause-turns : goal.returns-else-may_clear-clause-turns
returns-else-may_clear-clause-turns g c =
    let w = c.args.workload.now in
    left_where w 0 (λ p. is_locked w p c.args.site c.args.item && c.args.version == version p c.args.item) (Clear c.args.site c.args.item c.args.version) c.args.parts.now.record c.args.outs.now (sym c.may_clear.ensures ∙ c.if-may_clear.false)
