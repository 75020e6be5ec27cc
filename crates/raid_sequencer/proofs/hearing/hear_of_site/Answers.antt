use Rattle.std.proofs.Common.{◌==◌, ◌&&◌, ◌||◌, sym, ◌∙◌}
use Rattle.raid_base.specs.Sites.{session}
use Rattle.raid_rules.specs.History.{noted}
use Rattle.raid_legal.specs.Seen.{vector}
use Rattle.raid_steps.specs.Fits.{is_to_sequencer}
use Rattle.raid_steps.specs.Sequencer.{is_hello, finish, site_row}
use Rattle.raid_steps.specs.State.{opened}
use Rattle.raid_sequencer.proofs.Heard.{heard_where, dropped_where}
use Rattle.raid_sequencer.proofs.hearing.hear_of_site.Goals as goal

pub returns-in_ok-hear_fit-clause-hears : goal.returns-in_ok-hear_fit-clause-hears
returns-in_ok-hear_fit-clause-hears g c =
    let w = c.args.workload.now in
    let l = c.args.letter.now in
    λ s told. heard_where w c.args.parts.now.record c.hear_fit.new.parts.record c.hear_fit.new.outs s
    (λ h. (is_hello l.message || l.from == session (vector w (noted h)) c.args.site) && is_to_sequencer w l.message) (finish w s (site_row w (opened s) c.args.site l.from l.message))
    told (sym c.is_taken.ensures ∙ c.if-is_taken.true) (c.in_ok-hear_fit.ensures.hears s told)

pub returns-else-is_taken-clause-hears : goal.returns-else-is_taken-clause-hears
returns-else-is_taken-clause-hears g c =
    let w = c.args.workload.now in
    let l = c.args.letter.now in
    λ s told. dropped_where w c.args.parts.now.record c.args.outs.now s
    (λ h. (is_hello l.message || l.from == session (vector w (noted h)) c.args.site) && is_to_sequencer w l.message) (finish w s (site_row w (opened s) c.args.site l.from l.message))
    c.requires.none told (sym c.is_taken.ensures ∙ c.if-is_taken.false)
