use Rattle.std.proofs.Common.{rules, ap, ◌∙◌, not, filter}
use Rattle.std.proofs.lemmas.Fn.{filter_same}
use Rattle.raid_base.specs.Names.{is_txn}
use Rattle.raid_base.proofs.list.«Listed+Txn».remove.Goals as goal

pub returns : goal.returns
returns c = filter_same _ _ _ (λ x b f' k. search rules) _ _ c.retain.ensures.filtered ∙ ap (filter (λ other. not (is_txn c.args.txn other))) c.self.view_is
