use Rattle.std.proofs.Common.{arith, sym, ◌∙◌, rules}
use Rattle.raid_rules.specs.Sessions as words
use Rattle.raid_rules.proofs.Sources.{found_here, passed_here}
use Rattle.raid_rules.proofs.sessions.least_source.Goals as goal

pub returns-then-is_source : goal.returns-then-is_source
returns-then-is_source c =
    sym (c.loop-number.invariant.rest ∙ found_here (words.is_source c.args.sites c.args.placement.now c.args.view.now c.args.item) c.loop-number.number c.loop-number.invariant.least c.loop-number-test.true (search rules))

pub loop-number-preserved : goal.loop-number-preserved
loop-number-preserved c = record {
  least = omega arith;
  rest = c.loop-number.invariant.rest ∙ passed_here (words.is_source c.args.sites c.args.placement.now c.args.view.now c.args.item) c.loop-number.number c.loop-number.invariant.least c.loop-number-test.true (search rules);
}
