use Rattle.std.proofs.Common.{arith, ◌∙◌}
use Rattle.std.proofs.lemmas.Grind.{common_steps}
use Rattle.std.proofs.Math.Seq.{map-set_same}
use Rattle.raid_waits.specs.declared.search.Mark.TheVariants.{Unseen}
use Rattle.raid_waits.specs.Marks.{is_followed, request_at}
use Rattle.raid_waits.proofs.Searched.{looks_on, rest_on}
use Rattle.raid_waits.proofs.search.find_blockers.Goals as goal

pub loop-k-preserved : goal.loop-k-preserved
loop-k-preserved g c =
    let below = c.loop-k-test.true in
    record {
      length = grind (arith, common_steps, c.loop-k.invariant.length);
      followed = map-set_same is_followed c.loop-k.marks c.loop-k.k c.looked_at.result Unseen (grind (arith, common_steps, c.looked_at.ensures.followed)) ∙ c.loop-k.invariant.followed;
      found = λ test says. looks_on c.loop-k.marks c.args.marks.now (λ j. test (request_at c.args.held.now j).0 c.args.waiter c.args.writes.now) c.loop-k.k c.looked_at.result
          (grind (arith, common_steps, below, c.loop-k.invariant.length, c.requires)) (c.loop-k.invariant.found test says) c.loop-k.invariant.rest (grind (arith, common_steps, c.looked_at.ensures.found test says, c.index-held-k.is));
      rest = rest_on c.loop-k.marks c.args.marks.now c.loop-k.k c.looked_at.result (grind (arith, common_steps, below, c.loop-k.invariant.length, c.requires)) c.loop-k.invariant.rest;
    }
