use Rattle.std.proofs.Common.{◌≡◌, true, arith, sym, ◌∙◌}
use Rattle.std.proofs.lemmas.Grind.{common_steps}
use Rattle.raid_workload.specs.Parts.{placement}
use Rattle.raid_record.proofs.Renewed.{least_source, due_is}
use Rattle.raid_record.proofs.copies.source_of.Goals as goal

pub returns-clause-due : goal.returns-clause-due
returns-clause-due c = λ w p before out locks stands same.
    let yes : c.is_locked.result ≡ true = grind (arith, common_steps, c.if-not-is_locked.false) in
    let locked = sym (c.is_locked.ensures w.sites (placement w) p locks) ∙ yes in
    due_is w p before c.args.site c.args.item c.source_for.result locked (sym same ∙ sym (c.is_out.ensures.out out stands) ∙ c.if-is_out.false)
    (c.source_for.ensures w.sites (placement w) p locks ∙ least_source w p c.args.site c.args.item c.requires.least c.requires.most locked)
