use Rattle.std.proofs.Common.{rules, ap, ◌∙◌, List, [], slice_index_or}
use Rattle.raid_base.specs.declared.names.Site.{Site}
use Rattle.raid_faillock.proofs.Cells.{joined}
use Rattle.raid_faillock.proofs.debts.owe.Goals as goal

pub returns : goal.returns
returns c = λ s t least most.
    let held = c.sites_at.ensures ∙ ap (λ (l : List (List Site)). slice_index_or l c.args.txn.0 []) c.as_slice.ensures.value in
    joined c.args.owed.now.items c.args.txn.0 c.union.result c.sites_at.result c.args.applied (search rules) held c.union.ensures t.0 s least most
