use Rattle.std.proofs.Common.{arith, rules}
use Rattle.raid_io.proofs.Gaves.{gave_rest}
use Rattle.raid_io.proofs.whole.write_all.Goals as goal

pub loop-done-preserved : goal.loop-done-preserved
loop-done-preserved g c = record {
  within = search (rules, arith, c.in-Ok.ensures.bound);
  gave = gave_rest c.args.bytes.now c.loop-done.done c.in-Ok.count _ _ _ c.loop-done.invariant.gave c.in-Ok.ensures.bytes;
  later = search (rules, arith, c.write.ensures.cause);
}
