use Rattle.std.proofs.Common.{rules, take, get_or}
use Rattle.std.proofs.lemmas.List.{take_more}
use Rattle.raid_rules.proofs.Push.{is_copy_locked_push}
use Rattle.raid_rules.proofs.sessions.is_copy_locked.Goals as goal

pub loop-place-preserved : goal.loop-place-preserved
loop-place-preserved c =
    rw (
      take_more c.args.view.now c.loop-place.place c.index-view-place.result c.loop-place-test.true,
      is_copy_locked_push (take c.loop-place.place c.args.view.now) (get_or c.args.view.now c.loop-place.place c.index-view-place.result) c.args.site c.args.item,
    ) (search rules)
