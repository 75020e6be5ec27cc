use Rattle.std.proofs.Common.{[], ap, sym, ◌∙◌}
use Rattle.std.proofs.lemmas.List.Sums.{fold_more}
use Rattle.raid_base.specs.declared.names.Txn.{Txn}
use Rattle.raid_rules.specs.Conflict as words
use Rattle.raid_rules.proofs.order.listing.Goals as goal

pub loop-round-preserved : goal.loop-round-preserved
loop-round-preserved c =
    c.in_ok-list_next.ensures
    ∙ ap (words.list_next c.args.pairs.now c.args.all.now) c.loop-round.invariant
    ∙ sym (fold_more (λ listed t. words.list_next c.args.pairs.now c.args.all.now listed) [] c.args.all.now c.loop-round._round-index (let t : Txn = record { 0 = 0 } in t) c.loop-round-test.true)
