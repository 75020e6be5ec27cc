use Rattle.std.proofs.Common.{ap, ◌∙◌, List, ℕ, subst, sym}
use Rattle.raid_rules.specs.Sessions.{with_session}
use Rattle.raid_driver.specs.Drive.{Drive, lose}
use Rattle.raid_driver.specs.Drive as drive
use Rattle.raid_steps.specs.State.{Turn}
use Rattle.raid_vote.specs.Ballots.{Held, change_all, without}
use Rattle.raid_site.specs.declared.parts.Parts.{Parts}
use Rattle.raid_site.specs.Whole.{turn, IsWhole}
use Rattle.raid_site.proofs.Each.{down}
use Rattle.raid_site.proofs.Fitting.{lost_whole}
use Rattle.raid_site.proofs.table.down_row.Goals as goal

pub returns-clause-ok : goal.returns-clause-ok
returns-clause-ok c =
    let p = c.args.parts.now in
    let s = c.args.site in
    let outs = c.args.outs.now in
    ap (λ (v : List ℕ). let z : Parts = record p { vector = v; driver = c.down.new.self; ballots = c.down-2.new.self } in turn z c.down.new.outs) c.after_down-parts.ensures.is
    ∙ ap (λ (h : Held). let z : Parts = record p { vector = with_session p.vector s 0; driver = c.down.new.self; ballots = h } in turn z c.down.new.outs) c.down-2.ensures
    ∙ ap (λ (T : Turn Drive). let z : Parts = record p { vector = with_session p.vector s 0; driver = T.state; ballots = change_all (without s) p.ballots } in turn z T.outs) c.in_ok-down.ensures.ok
    ∙ down p outs s (c.ascends.ensures c.requires.live.live)

pub returns-clause-whole : goal.returns-clause-whole
returns-clause-whole c =
    let p = c.args.parts.now in
    let w = c.args.workload.now in
    let s = c.args.site in
    subst (λ (T : Turn Drive). IsWhole w (record p { driver = T.state; ballots = c.down-2.new.self })) (sym c.in_ok-down.ensures.ok)
    (subst (λ (h : Held). IsWhole w (record p { driver = (lose s (drive.turn p.driver c.args.outs.now)).state; ballots = h })) (sym c.down-2.ensures) (lost_whole w p s (without s) c.requires.whole))
