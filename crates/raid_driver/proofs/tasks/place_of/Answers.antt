use Rattle.std.proofs.Common.{sym, arith, ◌∙◌}
use Rattle.std.proofs.lemmas.Grind.{common_steps}
use Rattle.raid_driver.proofs.Places.{found_here}
use Rattle.raid_driver.proofs.tasks.place_of.Goals as goal

pub returns-then-eq : goal.returns-then-eq
returns-then-eq c = record {
  within = grind (arith, common_steps);
  found = sym c.loop-k.invariant ∙ found_here c.args.tasks.now c.args.txn c.loop-k.k c.index-tasks-k.result (grind (arith, common_steps)) c.index-tasks-k.is (grind (arith, common_steps));
}
