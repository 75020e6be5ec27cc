use Rattle.std.proofs.Common.{◌≡◌, ◌++◌, drop, map, length, true}
use Rattle.std.specs.List.{flat_map, list_all}
use Rattle.raid_workload.specs.Rules.{is_statement}
use Rattle.raid_text.specs.Spelling.{line_text, statement_words}
use Rattle.raid_text.proofs.writing.put_statements.Given as goal

abbrev pub invariant-loop-k : goal.invariant-loop-k
invariant-loop-k l = record { written : l.out ++ flat_map line_text (map (statement_words l.items) (drop l.k l.program)) ≡ l.initial.out ++ flat_map line_text (map (statement_words l.items) l.program); fit : list_all (is_statement (length l.items)) (drop l.k l.program) ≡ true }
