use Rattle.std.proofs.Common.{arith, sym, ◌∙◌, rules}
use Rattle.raid_faillock.specs.Stands.{serves}
use Rattle.raid_rules.proofs.Sources.{found_here, passed_here}
use Rattle.raid_faillock.proofs.faillocks.FailLocks.least_source.Goals as goal

pub returns-then-serves : goal.returns-then-serves
returns-then-serves c =
    sym (c.loop-number.invariant.rest ∙ found_here (serves c.args.self.now c.args.item) c.loop-number.number c.loop-number.invariant.least c.loop-number-test.true (search rules))

pub loop-number-preserved : goal.loop-number-preserved
loop-number-preserved c = record {
  least = omega arith;
  rest = c.loop-number.invariant.rest ∙ passed_here (serves c.args.self.now c.args.item) c.loop-number.number c.loop-number.invariant.least c.loop-number-test.true (search rules);
}
