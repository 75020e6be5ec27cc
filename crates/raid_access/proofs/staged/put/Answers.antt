use Rattle.std.proofs.Common.{ap, ◌∙◌, ◌++◌, ◌∷◌, []}
use Rattle.raid_steps.specs.Copies as steps
use Rattle.raid_access.proofs.staged.put.Goals as goal

pub returns-clause-ok : goal.returns-clause-ok
returns-clause-ok c = c.push_reserved.ensures.items ∙ ap (λ staged. staged ++ (c.args.txn, c.args.writes) ∷ []) (c.drop_of.ensures.is ∙ ap (steps.unstage c.args.txn) c.reserve.ensures.items)
