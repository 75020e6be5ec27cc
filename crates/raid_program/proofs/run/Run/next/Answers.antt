use Rattle.std.proofs.Common.{◌≡◌, ℤ, List, Some, slice_get, subst, ◌∙◌}
use Rattle.raid_base.specs.declared.names.Item.{Item}
use Rattle.raid_program.specs.Run.{Outcome, outcome_of, given}
use Rattle.raid_program.specs.Course.{Course}
use Rattle.raid_program.proofs.Courses.{of_pass, outcome_stops}
use Rattle.raid_program.proofs.run.Run.next.Goals as goal

pub returns-in-Err-clause-outcome : goal.returns-in-Err-clause-outcome
returns-in-Err-clause-outcome c =
    let p = c.args.program.now in
    let d = c.step-in-loop-self.new.self in
    let here = subst (λ (s : Course). slice_get p s.place ≡ Some c.get.result.now) c.step.view_is c.get.ensures.is in
    let end : Outcome = record { end = c.in-Err.want; reads = d.reads; writes = d.writes } in
    subst (λ (reads : List (Item × ℤ)). outcome_of p (given reads) ≡ end) c.loop-self.invariant.reads
    (outcome_stops c.loop-self.self d p c.get.result.now c.in-Err.want c.loop-self.invariant.of here c.in-Err.ensures)

pub loop-self-preserved : goal.loop-self-preserved
loop-self-preserved c =
    let p = c.args.program.now in
    let here = subst (λ (s : Course). slice_get p s.place ≡ Some c.get.result.now) c.step.view_is c.get.ensures.is in
    record {
      of = of_pass c.loop-self.self c.step-in-loop-self.new.self p c.get.result.now c.loop-self.invariant.of here c.in-Ok.ensures;
      reads = c.in-Ok.ensures.reads ∙ c.loop-self.invariant.reads;
      asked = c.in-Ok.ensures.asked;
    }
