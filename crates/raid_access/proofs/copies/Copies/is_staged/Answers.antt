use Rattle.std.proofs.Common.{ap, ◌∙◌}
use Rattle.std.specs.List.{list_any}
use Rattle.raid_base.specs.Names.{is_txn}
use Rattle.raid_access.specs.Stock.{Stock}
use Rattle.raid_access.proofs.copies.Copies.is_staged.Goals as goal

pub returns : goal.returns
returns c = c.has.ensures ∙ ap (list_any (λ e. is_txn c.args.txn e.0)) (c.as_slice.ensures.value ∙ ap (λ (s : Stock). s.staged) c.self.view_is)
