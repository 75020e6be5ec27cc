use Rattle.std.proofs.Common.{subst, ◌∙◌}
use Rattle.raid_rules.specs.Conflict.{committed}
use Rattle.raid_rules.specs.Committed as sets
use Rattle.raid_rules.proofs.Listing.{arranged_order}
use Rattle.raid_rules.proofs.order.order_of.Goals as goal

pub returns : goal.returns
returns c =
    arranged_order c.args.view.now c.in_ok-order.order
    (subst (λ es. sets.Arranges es (committed c.args.view.now) c.in_ok-order.order) (c.as_slice.ensures ∙ c.in_ok-edges.ensures)
    (subst (λ ts. sets.Arranges c.as_slice.result.now ts c.in_ok-order.order) (c.as_slice-2.ensures ∙ c.in_ok-all.ensures) c.in_ok-order.ensures))
