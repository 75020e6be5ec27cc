use Rattle.std.proofs.Common.{◌≡◌, List, sym, ◌∙◌}
use Rattle.raid_base.specs.declared.names.Txn.{Txn}
use Rattle.raid_rules.specs.declared.order.Order.{Order}
use Rattle.raid_rules.specs.declared.order.Order.TheVariants.{Whole, Cyclic}
use Rattle.raid_world.proofs.telling.order.Goals as goal

not_both : (o : Order) (a b : List Txn) → o ≡ Whole a → o ≡ Cyclic b → ⊥
not_both o a b p q = let e : Whole a ≡ Cyclic b = sym p ∙ q in cc e

pub unreachable-requires : goal.unreachable-requires
unreachable-requires g c = not_both c.in_ok-order.field-0 _ c.in-Cyclic.field-0 (c.in_ok-order.ensures c.requires.tells.0 c.requires.tells.1) c.in-Cyclic.is
