use Rattle.std.proofs.Common.{ap, ◌∙◌, subst, sym}
use Rattle.raid_driver.specs.Drive.{Drive}
use Rattle.raid_driver.specs.Drive as drive
use Rattle.raid_vote.specs.Ballots.{Held}
use Rattle.raid_site.specs.declared.parts.Parts.{Parts}
use Rattle.raid_site.specs.Whole.{turn, IsWhole}
use Rattle.raid_site.proofs.Rows.{has_ended}
use Rattle.raid_site.proofs.Fitting.{ended_whole}
use Rattle.raid_site.proofs.programs.end.Goals as goal

pub returns-clause-ok : goal.returns-clause-ok
returns-clause-ok c outs =
    let p = c.args.parts.now in
    ap (λ (d : Drive). let z : Parts = record p { driver = d; ballots = c.close.new.self } in turn z outs) c.ended.ensures
    ∙ ap (λ (h : Held). let z : Parts = record p { driver = drive.ended p.driver c.args.txn; ballots = h } in turn z outs) c.close.ensures
    ∙ has_ended p outs c.args.txn

pub returns-clause-whole : goal.returns-clause-whole
returns-clause-whole c w whole =
    let p = c.args.parts.now in
    subst (λ (d : Drive). IsWhole w (record p { driver = d; ballots = c.close.new.self })) (sym c.ended.ensures)
    (subst (λ (h : Held). IsWhole w (record p { driver = drive.ended p.driver c.args.txn; ballots = h })) (sym c.close.ensures) (ended_whole w p c.args.txn whole))
