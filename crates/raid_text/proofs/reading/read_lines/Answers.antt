use Rattle.std.proofs.Common.{sym, ◌∙◌, subst, arith, refl}
use Rattle.raid_scan.specs.Words.{words_of, words_by_line}
use Rattle.raid_scan.proofs.Pieces.{by_line_more, by_line_end}
use Rattle.raid_text.specs.Outcome.{outcome_of, Answers}
use Rattle.raid_text.proofs.Leads.{line_keeps, state_kept, few_sites}
use Rattle.raid_text.proofs.Outcome.{outcome_more, outcome_ends, outcome_starts, is_refused}
use Rattle.raid_text.proofs.reading.read_lines.Goals as goal

pub loop-line-init : goal.loop-line-init
loop-line-init c = rw (c.start-state.ensures, c.new-names.ensures) (record { so_far = outcome_starts c.args.text.now; numbers = omega arith; kept = refl; names = refl })

pub take_line-requires-clause-sites : goal.take_line-requires-clause-sites
take_line-requires-clause-sites c = few_sites c.loop-line.state c.loop-line.invariant.kept

pub returns-in-Err : goal.returns-in-Err
returns-in-Err c =
    let so_far = rw (by_line_more c.loop-line.rest.now c.in-Some.line.now c.in-Some.after.now c.in-Some.ensures.line) at c.loop-line.invariant.so_far in
    rw c.refusal.ensures (is_refused c.loop-line.number c.loop-line.state c.take_line.new.state (words_of c.in-Some.line.now) (words_by_line c.in-Some.after.now) c.in-Err.error (outcome_of c.args.text.now) c.in-Err.ensures.line so_far)

pub loop-line-preserved : goal.loop-line-preserved
loop-line-preserved c =
    let so_far = rw (by_line_more c.loop-line.rest.now c.in-Some.line.now c.in-Some.after.now c.in-Some.ensures.line) at c.loop-line.invariant.so_far in
    record {
      so_far = sym (outcome_more c.loop-line.number c.loop-line.state (words_of c.in-Some.line.now) (words_by_line c.in-Some.after.now) c.take_line.new.state c.in_default-take_line.ensures.line) ∙ so_far;
      numbers = omega (arith, c.in-Some.ensures.shorter);
      kept = line_keeps c.loop-line.state (words_of c.in-Some.line.now) c.take_line.new.state c.loop-line.invariant.kept c.in_default-take_line.ensures.line;
      names = c.in_default-take_line.ensures.names;
    }

pub finish-requires : goal.finish-requires
finish-requires c = state_kept c.loop-line.state c.loop-line.invariant.kept

pub returns : goal.returns
returns c =
    let so_far = rw (by_line_end c.loop-line.rest.now c.in_default.ensures.line) at c.loop-line.invariant.so_far in
    subst (λ o. Answers c.finish.result o) (sym (outcome_ends c.loop-line.number c.loop-line.state) ∙ so_far) c.finish.ensures
