use Rattle.std.proofs.Common.{arith, ap, length, length-append, ◌∷◌, []}
use Rattle.raid_rules.specs.History.{noted}
use Rattle.raid_record.proofs.Next.{numbers_more}
use Rattle.raid_record.proofs.homes.numbers_of.Goals as goal

pub loop-number-preserved : goal.loop-number-preserved
loop-number-preserved c = record {
  least = omega arith;
  size = omega (arith, ap length c.in_ok-push.ensures.items, length-append c.loop-number.numbers.items (c.next_past.result ∷ []), c.loop-number.invariant.size, c.loop-number.invariant.least);
  next = numbers_more c.args.workload.now (noted c.args.history.now) c.loop-number.numbers.items c.push.new.self.items c.next_past.result c.loop-number.number c.loop-number.invariant.least c.loop-number.invariant.size c.in_ok-push.ensures.items c.next_past.ensures c.loop-number.invariant.next;
}
