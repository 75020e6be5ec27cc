use Rattle.std.proofs.Common.{length, drop, take, ◌+◌, ◌-◌, arith}
use Rattle.std.proofs.lemmas.List.{take_rest, length-drop}
use Rattle.std.proofs.lemmas.Bool.Decides.{nat_tests}
use Rattle.raid_scan.proofs.Pieces.{line_is, last_line_is, no_lines}
use Rattle.raid_scan.proofs.next_line.Goals as goal

pub returns-then-is_empty-clause-line : goal.returns-then-is_empty-clause-line
returns-then-is_empty-clause-line c = no_lines c.args.text.now (grind (arith, nat_tests))

pub returns-then-end-text-clause-line : goal.returns-then-end-text-clause-line
returns-then-end-text-clause-line c =
    let text = c.args.text.now in
    let n = c.line_len-end.result in
    rw (take_rest text (n + 1)) (line_is text n (omega arith) c.line_len-end.ensures.line (c.line_len-end.ensures.behind (omega arith)))

pub returns-else-end-text-clause-line : goal.returns-else-end-text-clause-line
returns-else-end-text-clause-line c =
    let text = c.args.text.now in
    let n = c.line_len-end.result in
    let nothing = no_lines (take (length text - n) (drop n text)) (rw (take_rest text n) (omega (arith, length-drop n text))) in
    rw nothing (last_line_is text (grind (arith, nat_tests)) (λ k h. c.line_len-end.ensures.line k (omega arith)))
