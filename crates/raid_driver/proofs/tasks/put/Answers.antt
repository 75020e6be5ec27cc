use Rattle.std.proofs.Common.{arith}
use Rattle.std.proofs.lemmas.Grind.{common_steps}
use Rattle.raid_driver.proofs.Places.{put_here}
use Rattle.raid_driver.proofs.tasks.put.Goals as goal

pub returns-then-eq : goal.returns-then-eq
returns-then-eq c =
    let here = put_here c.loop-k.tasks.items c.args.task c.loop-k.k c.index.result.now (grind (arith, common_steps)) (grind (arith, common_steps)) (grind (arith, common_steps)) in
    grind (arith, common_steps, here, c.loop-k.invariant.smaller)
