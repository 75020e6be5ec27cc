use Rattle.std.proofs.Common.{ap, sym, arith, ◌∙◌}
use Rattle.std.proofs.lemmas.Grind.{common_steps}
use Rattle.raid_base.specs.Names.{has_site}
use Rattle.raid_access.proofs.Items.{holders_at, initial_at}
use Rattle.raid_access.proofs.Stored.{first_more}
use Rattle.raid_access.proofs.slots.first_slots.Goals as goal

pub loop-line-preserved : goal.loop-line-preserved
loop-line-preserved c =
    let w = c.args.workload.now in
    let k = c.loop-line.line-index in
    let here = ap (λ holders. has_site holders c.args.site) (holders_at w c.as_slice-line-items.result.now k c.line-item.result c.as_slice-line-items.ensures c.line-item.is c.loop-line-test.true) ∙ sym c.contains.ensures in
    let value = initial_at w c.as_slice-line-items.result.now k c.line-item.result c.as_slice-line-items.ensures c.line-item.is c.loop-line-test.true in
    let more = first_more w c.args.site c.loop-line.slots.items k c.contains.result c.line-item.result.value (grind (arith, common_steps, c.loop-line.invariant.long)) c.loop-line.invariant.copies here value in
    record { copies = grind (arith, common_steps, c.in_ok-push.ensures.items, c.first_held.ensures, more); long = grind (arith, common_steps) }
