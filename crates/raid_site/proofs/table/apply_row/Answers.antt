use Rattle.std.proofs.Common.{ap, ◌∙◌}
use Rattle.raid_driver.proofs.Places.{on_ok}
use Rattle.raid_access.specs.Stock.{Stock, applying}
use Rattle.raid_site.specs.declared.parts.Parts.{Parts}
use Rattle.raid_site.specs.Whole.{turn}
use Rattle.raid_site.proofs.Rows.{applied}
use Rattle.raid_site.proofs.table.apply_row.Goals as goal

pub returns-clause-ok : goal.returns-clause-ok
returns-clause-ok c =
    let p = c.args.parts.now in
    let q : Parts = record p { copies = applying p.copies c.args.txn c.args.number } in
    on_ok c.push.result
    (λ is. ap (λ (s : Stock). let z : Parts = record p { copies = s } in turn z c.push.new.self) c.apply.ensures ∙ ap (turn q) is ∙ applied p c.args.outs.now c.args.txn c.args.number c.requires.staged)
    c.push.ensures.ok
