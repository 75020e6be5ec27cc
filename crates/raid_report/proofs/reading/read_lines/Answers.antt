use Rattle.std.proofs.Common.{◌==◌, ◌∷◌, sym, ap, subst, ◌∙◌, length, length-append, arith}
use Rattle.raid_pieces.specs.Pieces.{full_lines, unfinished}
use Rattle.raid_report.specs.Outcome.{outcome_of, Answers}
use Rattle.raid_report.proofs.Stops.{outcome_starts, outcome_goes_on, outcome_ends, is_refused}
use Rattle.raid_report.proofs.reading.read_lines.Goals as goal

pub loop-line-init : goal.loop-line-init
loop-line-init c = rw c.opening-draft.ensures (record { so_far = outcome_starts c.args.workload.now c.args.text.now; numbers = omega arith })

pub returns-in-Err : goal.returns-in-Err
returns-in-Err c =
    let so_far = rw c.in-Some.ensures.line at c.loop-line.invariant.so_far in
    let stop = rw c.in_ok-known.ensures at c.in-Err.ensures in
    rw c.refusal.ensures (is_refused c.args.workload.now c.loop-line.number c.loop-line.draft c.take_line.new.draft (length (unfinished c.loop-line.rest.now) == 0) c.in-Some.line.now (full_lines c.in-Some.after.now) c.in-Err.error (outcome_of c.args.workload.now c.args.text.now) stop so_far)

pub loop-line-preserved : goal.loop-line-preserved
loop-line-preserved c =
    let so_far = rw c.in-Some.ensures.line at c.loop-line.invariant.so_far in
    let next = rw c.in_ok-known.ensures at c.in_default-take_line.ensures in
    rw c.in-Some.ensures.unfinished (record {
      so_far = sym (outcome_goes_on c.args.workload.now c.loop-line.number c.loop-line.draft c.take_line.new.draft (length (unfinished c.loop-line.rest.now) == 0) c.in-Some.line.now (full_lines c.in-Some.after.now) next) ∙ so_far;
      numbers = omega (arith, ap length c.in-Some.ensures.bytes, length-append c.in-Some.line.now (10 ∷ c.in-Some.after.now));
    })

pub returns : goal.returns
returns c =
    let so_far = rw (c.in_default.ensures.line, c.in_default.ensures.unfinished) at c.loop-line.invariant.so_far in
    subst (λ o. Answers c.finish.result o) (sym (outcome_ends c.args.workload.now c.loop-line.number c.loop-line.draft (length c.loop-line.rest.now == 0)) ∙ so_far) c.finish.ensures
