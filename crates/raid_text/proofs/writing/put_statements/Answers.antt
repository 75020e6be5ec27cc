use Rattle.std.proofs.Common.{◌∙◌, map, length, drop, append_assoc, ◌+◌}
use Rattle.std.specs.List.{flat_map}
use Rattle.std.proofs.lemmas.Bool.{and_parts}
use Rattle.raid_workload.specs.Rules.{is_statement}
use Rattle.raid_text.specs.Spelling.{line_text, statement_words}
use Rattle.raid_text.proofs.Spaced.{drop_more}
use Rattle.raid_text.proofs.writing.put_statements.Goals as goal

pub statement_line-requires : goal.statement_line-requires
statement_line-requires c =
    let fit = rw (drop_more c.args.program.now c.loop-k.k c.get.result.now c.get.ensures.is) at c.loop-k.invariant.fit in
    let p = and_parts (is_statement (length c.args.items.now) c.get.result.now) _ fit in
    p.0

pub loop-k-preserved : goal.loop-k-preserved
loop-k-preserved c =
    let more = drop_more c.args.program.now c.loop-k.k c.get.result.now c.get.ensures.is in
    let fit = rw more at c.loop-k.invariant.fit in
    let written = rw more at c.loop-k.invariant.written in
    let p = and_parts (is_statement (length c.args.items.now) c.get.result.now) _ fit in
    let rest = flat_map line_text (map (statement_words c.args.items.now) (drop (c.loop-k.k + 1) c.args.program.now)) in
    record {
      written = rw c.in_ok-statement_line.ensures (append_assoc c.loop-k.out (line_text (statement_words c.args.items.now c.get.result.now)) rest ∙ written);
      fit = p.1;
    }
