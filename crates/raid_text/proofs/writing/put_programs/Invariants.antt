use Rattle.std.proofs.Common.{◌≡◌, ◌++◌, drop, length, true}
use Rattle.std.specs.List.{flat_map, list_all}
use Rattle.raid_workload.specs.Rules.{is_homed}
use Rattle.raid_text.specs.Spelling.{line_text, program_lines}
use Rattle.raid_text.proofs.writing.put_programs.Given as goal

abbrev pub invariant-loop-homed : goal.invariant-loop-homed
invariant-loop-homed l = record { written : l.out ++ flat_map line_text (flat_map (program_lines l.items) (drop l.homed-index l.programs)) ≡ l.initial.out ++ flat_map line_text (flat_map (program_lines l.items) l.programs); fit : list_all (is_homed l.sites (length l.items)) (drop l.homed-index l.programs) ≡ true }
