use Rattle.std.proofs.Common.{sym, subst, ap, ◌∙◌, ◌∷◌, [], ◌++◌, if◌then◌else◌, ℕ, List}
use Rattle.raid_base.specs.declared.names.Txn.{Txn}
use Rattle.raid_base.specs.Names.{has_txn}
use Rattle.raid_conflict.specs.Found.{Longer}
use Rattle.raid_conflict.proofs.Marks.{has_added, longer_added}
use Rattle.raid_conflict.proofs.found.Found.add.Goals as goal

pub returns-clause-has : goal.returns-clause-has
returns-clause-has c t =
    ap (λ (z : List Txn). has_txn z t) (c.mark.ensures.list ∙ ap (λ (z : List Txn × ℕ). if has_txn z.0 c.args.txn then z.0 else z.0 ++ c.args.txn ∷ []) c.self.view_is)
    ∙ has_added c.args.self.now.0 c.args.txn t

pub returns-clause-longer : goal.returns-clause-longer
returns-clause-longer c =
    subst (λ (z : List Txn). Longer c.args.self.now.0 z) (sym (c.mark.ensures.list ∙ ap (λ (z : List Txn × ℕ). if has_txn z.0 c.args.txn then z.0 else z.0 ++ c.args.txn ∷ []) c.self.view_is))
    (longer_added c.args.self.now.0 c.args.txn)
