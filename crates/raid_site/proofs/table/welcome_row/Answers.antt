use Rattle.std.proofs.Common.{ap, ◌∙◌}
use Rattle.raid_driver.proofs.Places.{on_ok}
use Rattle.raid_driver.specs.Drive.{Drive, cleared}
use Rattle.raid_steps.specs.Programs as steps
use Rattle.raid_vote.specs.Ballots.{Held}
use Rattle.raid_site.specs.declared.parts.Parts.{Parts}
use Rattle.raid_site.specs.Whole.{turn}
use Rattle.raid_site.proofs.Rows.{welcomed}
use Rattle.raid_site.proofs.table.welcome_row.Goals as goal

pub returns-clause-ok : goal.returns-clause-ok
returns-clause-ok c =
    let p = c.args.parts.now in
    let outs = c.args.outs.now in
    on_ok c.start.result
    (λ is. is ∙ ap (steps.start c.args.workload.now)
    (ap (λ (d : Drive). let z : Parts = record p { vector = c.args.vector; driver = d; ballots = c.clear.new.self } in turn z outs) c.reset.ensures
    ∙ ap (λ (h : Held). let z : Parts = record p { vector = c.args.vector; driver = cleared p.driver c.args.next; ballots = h } in turn z outs) c.clear.ensures
    ∙ welcomed p outs c.args.vector c.args.next c.requires.none))
    c.start.ensures.ok
