use Rattle.std.proofs.Common.{sym, arith, ◌∙◌}
use Rattle.std.proofs.lemmas.Grind.{common_steps}
use Rattle.raid_access.proofs.Stored.{find_at}
use Rattle.raid_access.proofs.slots.held.Goals as goal

pub returns-then-place-slots : goal.returns-then-place-slots
returns-then-place-slots c = sym (find_at c.args.slots.now 0 c.args.item.0 c.args.item (omega arith))

pub returns-else-place-slots : goal.returns-else-place-slots
returns-else-place-slots c = sym (find_at c.args.slots.now 0 c.args.item.0 c.args.item (omega arith) ∙ grind (arith, common_steps))
