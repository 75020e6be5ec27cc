use Rattle.std.proofs.Common.{ap, ◌∙◌, if◌then◌else◌}
use Rattle.raid_driver.specs.Drive.{Drive, noting}
use Rattle.raid_site.specs.declared.parts.Parts.{Parts}
use Rattle.raid_site.specs.Whole.{turn}
use Rattle.raid_site.proofs.Rows.{serving}
use Rattle.raid_site.proofs.Fitting.{noted_whole}
use Rattle.raid_site.proofs.table.serving_row.Goals as goal

pub returns-clause-ok : goal.returns-clause-ok
returns-clause-ok c =
    let p = c.args.parts.now in
    let noted = noting p.driver c.args.txn c.args.ask c.args.site in
    ap (λ (d : Drive). let z : Parts = record p { driver = d } in turn z c.args.outs.now) (c.serving.ensures ∙ ap (λ b. if b then p.driver else noted) c.requires.live.live)
    ∙ serving p c.args.outs.now c.args.txn c.args.ask c.args.site (c.ascends.ensures c.requires.live.live)

pub returns-clause-whole : goal.returns-clause-whole
returns-clause-whole c =
    noted_whole c.args.workload.now c.args.parts.now c.serving.new.self c.args.txn c.args.ask c.args.site c.serving.ensures c.requires.live.live (c.ascends.ensures c.requires.live.live) c.requires.whole
