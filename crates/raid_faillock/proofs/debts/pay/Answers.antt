use Rattle.std.proofs.Common.{rules, ap, ◌∙◌, List, [], Bool, not, ◌&&◌, slice_index_or}
use Rattle.raid_base.specs.declared.names.Site.{Site}
use Rattle.raid_base.specs.Names.{is_txn, is_site}
use Rattle.raid_faillock.specs.Sets.{has_at}
use Rattle.raid_faillock.proofs.Cells.{taken, in_order}
use Rattle.raid_faillock.proofs.debts.pay.Goals as goal

pub returns-then-place-len : goal.returns-then-place-len
returns-then-place-len c = λ s t.
    let held = c.sites_at.ensures ∙ ap (λ (l : List (List Site)). slice_index_or l c.args.txn.0 []) c.as_slice.ensures.value in
    taken c.args.owed.now.items c.args.txn.0 c.args.site c.without.result c.sites_at.result (search rules) held c.without.ensures t.0 s
    ∙ ap (λ (b : Bool). has_at c.args.owed.now.items t.0 s && not b) (in_order (is_site s c.args.site) (is_txn t c.args.txn))
