use Rattle.std.proofs.Common.{arith, sym, ◌∙◌}
use Rattle.std.proofs.lemmas.Grind.{common_steps}
use Rattle.raid_conflict.proofs.Spread.{spread_begins, spread_goes_on, spread_ends}
use Rattle.raid_conflict.proofs.search.reach_all.Goals as goal

pub loop-next-init : goal.loop-next-init
loop-next-init c = record {
  searching = spread_begins c.args.tables.now c.args.from.now c.find_each.new.found.0 (λ v. c.find_each.ensures.found v ∙ grind (arith, common_steps, c.requires.empty));
  places = c.find_each.ensures.places;
}

pub loop-next-preserved : goal.loop-next-preserved
loop-next-preserved c = record {
  searching = spread_goes_on c.args.tables.now c.args.from.now c.loop-next.found.0 c.step.new.found.0 c.loop-next.next c.get-reached.result c.loop-next.invariant.searching
      (omega (arith, c.len.ensures.is, c.loop-next-test.true)) (sym c.get-reached.ensures) c.step.ensures.found c.step.ensures.longer;
  places = c.step.ensures.places ∙ c.loop-next.invariant.places;
}

pub returns-clause-reached : goal.returns-clause-reached
returns-clause-reached c = spread_ends c.args.tables.now c.args.from.now c.loop-next.found.0 c.loop-next.next c.loop-next.invariant.searching (omega (arith, c.len.ensures.is, c.loop-next-test.false))
