use Rattle.std.proofs.Common.{subst, sym}
use Rattle.raid_driver.proofs.Places.{on_ok}
use Rattle.raid_site.specs.declared.parts.Parts.{Parts}
use Rattle.raid_site.specs.Whole.{IsWhole}
use Rattle.raid_site.proofs.Fitting.{prepared_whole}
use Rattle.raid_site.proofs.programs.settle.Goals as goal

pub returns-then-wanted-clause-whole : goal.returns-then-wanted-clause-whole
returns-then-wanted-clause-whole c =
    let p = c.args.parts.now in
    let w = c.args.workload.now in
    on_ok c.prepare.result (λ is. subst (λ (q : Parts). IsWhole w q) (sym is) (prepared_whole w p c.args.txn c.requires.whole (c.requires.runs c.if-wanted.true))) c.prepare.ensures.parts
