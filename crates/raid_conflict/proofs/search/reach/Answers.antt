use Rattle.std.proofs.Common.{arith, sym, ◌∙◌}
use Rattle.std.proofs.lemmas.Grind.{common_steps}
use Rattle.raid_conflict.proofs.Reached.{search_begins, search_goes_on, search_ends}
use Rattle.raid_conflict.proofs.search.reach.Goals as goal

pub loop-next-init : goal.loop-next-init
loop-next-init c = record {
  searching = search_begins c.args.tables.now c.args.from c.step.new.found.0 (λ v. c.step.ensures.found v ∙ grind (arith, common_steps, c.requires.empty));
  places = c.step.ensures.places;
}

pub loop-next-preserved : goal.loop-next-preserved
loop-next-preserved c = record {
  searching = search_goes_on c.args.tables.now c.args.from c.loop-next.found.0 c.step-in-loop-next.new.found.0 c.loop-next.next c.get-txn.result c.loop-next.invariant.searching
      (omega (arith, c.len.ensures.is, c.loop-next-test.true)) (sym c.get-txn.ensures) c.step-in-loop-next.ensures.found c.step-in-loop-next.ensures.longer;
  places = c.step-in-loop-next.ensures.places ∙ c.loop-next.invariant.places;
}

pub returns-clause-reached : goal.returns-clause-reached
returns-clause-reached c = search_ends c.args.tables.now c.args.from c.loop-next.found.0 c.loop-next.next c.loop-next.invariant.searching (omega (arith, c.len.ensures.is, c.loop-next-test.false))
