use Rattle.std.proofs.Common.{[], ◌∷◌, ap, sym, ◌∙◌}
use Rattle.std.proofs.lemmas.List.Sums.{fold_more}
use Rattle.raid_rules.specs.Conflict as words
use Rattle.raid_rules.proofs.conflict.reached.Goals as goal

pub loop-round-preserved : goal.loop-round-preserved
loop-round-preserved c =
    c.in_ok-found.ensures
    ∙ ap (λ z. words.targets c.args.pairs.now (c.args.txn ∷ z)) (c.as_slice.ensures ∙ c.loop-round.invariant)
    ∙ sym (fold_more (λ found e. words.targets c.args.pairs.now (c.args.txn ∷ found)) [] c.args.pairs.now c.loop-round._round-index (c.args.txn, c.args.txn) c.loop-round-test.true)
