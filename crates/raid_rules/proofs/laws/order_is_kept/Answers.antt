use Rattle.raid_rules.proofs.Push.{in_order_push}
use Rattle.raid_rules.proofs.laws.order_is_kept.Goals as goal

pub returns-clause-in_order : goal.returns-clause-in_order
returns-clause-in_order c = in_order_push
