use Rattle.std.proofs.Common.{rules, take, get_or}
use Rattle.std.proofs.lemmas.List.{take_more}
use Rattle.raid_rules.proofs.Listing.{committed_push}
use Rattle.raid_rules.proofs.order.committed.Goals as goal

pub loop-noted-preserved : goal.loop-noted-preserved
loop-noted-preserved c =
    rw (
      take_more c.args.view.now c.loop-noted.noted-index c.noted-item.result c.loop-noted-test.true,
      committed_push (take c.loop-noted.noted-index c.args.view.now) (get_or c.args.view.now c.loop-noted.noted-index c.noted-item.result),
    ) (search rules)
